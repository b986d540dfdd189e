-- What `prune` prints: a line for each rule that is left out, how many rules are left, and these rules as JSON.
use Rattle.std.specs.Prelude.{◌≡◌, ◌⊎◌, ℕ, ◌<◌, ◌≤◌, List, ◌++◌, length, codes, decimal}
use Rattle.rule_spec.specs.declared.rule_kind.RuleKind.TheVariants.{Static}
use Rattle.rule_spec.specs.Rule.{Rule}
use Rattle.json_spec.specs.Written.{written as json_text}
use Rattle.load_spec.specs.Files.{Files, HoldsRules}
use Rattle.prune_spec.specs.declared.shadow.Shadow.{Shadow}
use Rattle.prune_spec.specs.Pruned.{kept, max_rules, removals}
use Rattle.session_spec.specs.Loading.{PrintsRefusedRules}
use Rattle.session_spec.specs.Refusals.{count_line, each_line, too_many_rules, list_line}

-- ---- lines

abbrev pub removed_line : Shadow → List ℕ
removed_line one = codes "{\"removed\":" ++ (decimal one.removed ++ (codes ",\"by\":" ++ (decimal one.by ++ codes "}\n")))

abbrev pub removed_lines : List Shadow → List ℕ
removed_lines removals = each_line removed_line removals

abbrev pub pruned_text : List Rule → List ℕ
pruned_text rules = removed_lines (removals rules) ++ (count_line (length (kept rules)) ++ (json_text (kept rules) ++ codes "\n"))

-- ---- files

-- the rules are those of the file and not too many, and this is what is left of them
pub record IsPruned (files : Files) (name output : List ℕ) : Type 0 where
  pub rules : List Rule
  pub loaded : HoldsRules files Static name rules
  pub few : length rules ≤ max_rules
  pub same : output ≡ pruned_text rules

-- the file has too many rules, and this line says so
pub record HasTooManyRules (files : Files) (name line : List ℕ) : Type 0 where
  pub rules : List Rule
  pub loaded : HoldsRules files Static name rules
  pub beyond : max_rules < length rules
  pub same : line ≡ list_line name (too_many_rules (length rules))

-- the rules file is refused, or has too many rules, and this line says so
abbrev pub RefusesPruning : Files → Type 0 → List ℕ → List ℕ → Type 0
RefusesPruning files rose name line = PrintsRefusedRules files rose Static name line ⊎ HasTooManyRules files name line
