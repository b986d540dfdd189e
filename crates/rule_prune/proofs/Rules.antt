-- A walk over rules.
use Rattle.std.proofs.Common.{◌≡◌, ℕ, ◌+◌, ◌<◌, List, ◌++◌, [], ◌∷◌, take, length, get_or, Result, Ok, Err, Some, sym, ap, ◌∙◌, subst}
use Rattle.std.specs.Prelude.{All, OnOk}
use Rattle.std.specs.List.{slice_get}
use Rattle.std.proofs.lemmas.List.{take_more}
use Rattle.std.proofs.lemmas.List.Elements.{All-push}
use Rattle.std.proofs.lemmas.Option.{slice_get-get_or}
use Rattle.rule_spec.specs.Rule.{Rule}
use Rattle.rule_spec.specs.IsRule.{IsRule}

pub each_more : (rules : List Rule) (i : ℕ) (rule : Rule) → i < length rules → get_or rules i rule ≡ rule → IsRule rule → All IsRule (take i rules) → All IsRule (take (i + 1) rules)
each_more rules i rule less is its before =
    subst (λ (l : List Rule). All IsRule l) (sym (take_more rules i rule less ∙ ap (λ r. take i rules ++ r ∷ []) is)) (All-push IsRule (take i rules) rule before its)

pub rule_there : (rules : List Rule) (i : ℕ) (rule : Rule) → i < length rules → get_or rules i rule ≡ rule → slice_get rules i ≡ Some rule
rule_there rules i rule less is = slice_get-get_or rules i rule less ∙ ap Some is

pub on_ok : {T E : Type 0} (r : Result T E) (P Q : Type 0) → (P → Q) → OnOk r P → OnOk r Q
on_ok (Ok x) P Q f h = f h
on_ok (Err e) P Q f h = tt
