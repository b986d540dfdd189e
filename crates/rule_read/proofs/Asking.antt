-- Calls of a host one behind the other.
use Rattle.std.proofs.Common.{◌≡◌, ℕ, List, [], ◌∷◌, ◌++◌, refl, sym, ap, ◌∙◌, subst, append_assoc}
use Rattle.std.proofs.lemmas.List.{append-nil}
use Rattle.regex_host.specs.Asked.{Asked, AsksFor}
use Rattle.rule_spec.specs.declared.rule_refusal.RuleRefusal.{RuleRefusal}
use Rattle.rule_spec.specs.declared.rule_refusal.RuleRefusal.TheVariants.{NoMemory}
use Rattle.rule_spec.specs.Rule.{Rule}
use Rattle.rule_read.specs.Asking.{asked_of, asked_of_all, AsksNext}
use Rattle.rule_read.specs.Reading.{TakenStay}

pub asks_once : {S : Type 0} (asks : S → Asked → S → Type 0) (before now : S) (asked : Asked) → asks before asked now → AsksFor asks before (asked ∷ []) now
asks_once asks before now asked h = (now, h, refl)

asks_on : {S : Type 0} (asks : S → Asked → S → Type 0) (before then now : S) (first rest : List Asked) → AsksFor asks before first then → AsksFor asks then rest now → AsksFor asks before (first ++ rest) now
asks_on asks before then now [] rest h e = subst (λ s. AsksFor asks s rest now) h e
asks_on asks before then now (asked ∷ first) rest (between, call, h) e = (between, call, asks_on asks between then now first rest h e)

asked_more : (rules : List Rule) (rule : Rule) → asked_of_all (rules ++ rule ∷ []) ≡ asked_of_all rules ++ asked_of rule.condition
asked_more [] rule = append-nil (asked_of rule.condition)
asked_more (first ∷ rules) rule =
    ap (λ l. asked_of first.condition ++ l) (asked_more rules rule) ∙ sym (append_assoc (asked_of first.condition) (asked_of_all rules) (asked_of rule.condition))

pub asks_for_next : {S : Type 0} (asks : S → Asked → S → Type 0) (before then now : S) (rules more : List Rule)
    → AsksFor asks before (asked_of_all rules) then → AsksNext asks then now rules more → AsksFor asks before (asked_of_all more) now
asks_for_next asks before then now rules more h (rule, push, e) =
    subst (λ rs. AsksFor asks before (asked_of_all rs) now) (sym push)
    (subst (λ l. AsksFor asks before l now) (sym (asked_more rules rule)) (asks_on asks before then now (asked_of_all rules) (asked_of rule.condition) h e))

pub taken_stay : (taken : List ℕ) (cause : RuleRefusal) → TakenStay taken taken cause
taken_stay taken NoMemory = tt
taken_stay taken cause = refl
