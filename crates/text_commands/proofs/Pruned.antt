-- What is printed of pruned rules.
use Rattle.std.proofs.Common.{◌≡◌, ◌≤◌, ℕ, List, ◌++◌, length, codes, Ok, ap, sym, ◌∙◌, append_assoc}
use Rattle.rule_spec.specs.Rule.{Rule}
use Rattle.json_spec.specs.Written.{written as json_text}
use Rattle.prune_spec.specs.declared.shadow.Shadow.{Shadow}
use Rattle.prune_spec.specs.Pruned.{checked, kept, max_rules, removals}
use Rattle.session_spec.specs.Pruning.{removed_lines}
use Rattle.session_spec.specs.Refusals.{count_line}
use Rattle.text_commands.specs.Texts.{ShowsRest}

-- the removals that were found leave the rules that are kept, and that is what is printed
pub shown : (rules rest : List Rule) (proof : List Shadow) (text : List ℕ) → proof ≡ removals rules → length rules ≤ max_rules
    → checked rules proof ≡ Ok (kept rules) → checked rules proof ≡ Ok rest
    → text ≡ removed_lines proof ++ (count_line (length rest) ++ (json_text rest ++ codes "\n")) → ShowsRest rules text
shown rules rest proof text found few accepted left is =
    let same : kept rules ≡ rest = cc (accepted, left) in (
      few,
      is ∙ ap (λ (p : List Shadow). removed_lines p ++ (count_line (length rest) ++ (json_text rest ++ codes "\n"))) found
          ∙ ap (λ (r : List Rule). removed_lines (removals rules) ++ (count_line (length r) ++ (json_text r ++ codes "\n"))) (sym same),
    )

pub in_parts : (a b c d : List ℕ) → ((a ++ b) ++ c) ++ d ≡ a ++ (b ++ (c ++ d))
in_parts a b c d = append_assoc (a ++ b) c d ∙ append_assoc a b (c ++ d)
