-- The first that is refused of two lists, one after the other.
use Rattle.std.proofs.Common.{◌≡◌, List, [], ◌∷◌, ◌++◌, Bool, true, false, cond, Option, Some, None, refl, subst, sym}
use Rattle.std.specs.Prelude.{find, option_map, Result}
use Rattle.update_spec.specs.declared.refusal.Refusal.{Refusal}
use Rattle.update_spec.specs.declared.refusal.Refusal.TheVariants as refusal
use Rattle.update_spec.specs.Judge.{first_refused}
use Rattle.ruleset_store.specs.Seen.{Answers, IsRefusalOf}

goes_step : {X : Type 0} (b : Bool) (x : X) (f : X → Refusal) (rest whole later : Option X) → (option_map f rest ≡ None → option_map f whole ≡ option_map f later)
    → option_map f (cond b (Some x) rest) ≡ None → option_map f (cond b (Some x) whole) ≡ option_map f later
goes_step true x f rest whole later go e = cc
goes_step false x f rest whole later go e = go e

-- where none of the first list is refused, the second decides
pub first_goes : {X : Type 0} (p : X → Bool) (f : X → Refusal) (xs ys : List X) → first_refused p f xs ≡ None → first_refused p f (xs ++ ys) ≡ first_refused p f ys
first_goes p f [] ys e = refl
first_goes p f (x ∷ xs) ys e = goes_step (p x) x f (find p xs) (find p (xs ++ ys)) (find p ys) (first_goes p f xs ys) e

stops_step : {X : Type 0} (b : Bool) (x : X) (f : X → Refusal) (rest whole : Option X) (r : Refusal) → (option_map f rest ≡ Some r → option_map f whole ≡ Some r)
    → option_map f (cond b (Some x) rest) ≡ Some r → option_map f (cond b (Some x) whole) ≡ Some r
stops_step true x f rest whole r go e = e
stops_step false x f rest whole r go e = go e

first_is : {X : Type 0} (p : X → Bool) (f : X → Refusal) (xs ys : List X) (r : Refusal) → first_refused p f xs ≡ Some r → first_refused p f (xs ++ ys) ≡ Some r
first_is p f [] ys r e = cc
first_is p f (x ∷ xs) ys r e = stops_step (p x) x f (find p xs) (find p (xs ++ ys)) r (first_is p f xs ys r) e

-- where one of the first list is refused, it decides
pub first_stops : {X : Type 0} (p : X → Bool) (f : X → Refusal) (xs ys : List X) (r : Refusal) → IsRefusalOf (first_refused p f xs) r → IsRefusalOf (first_refused p f (xs ++ ys)) r
first_stops p f xs ys (refusal.NoExtension name) is = first_is p f xs ys _ is
first_stops p f xs ys (refusal.ExtensionThere name) is = first_is p f xs ys _ is
first_stops p f xs ys (refusal.NoRuleset id) is = first_is p f xs ys _ is
first_stops p f xs ys (refusal.DuplicateId id) is = first_is p f xs ys _ is
first_stops p f xs ys (refusal.NoStaticRule id) is = first_is p f xs ys _ is
first_stops p f xs ys (refusal.BothLists id) is = first_is p f xs ys _ is
first_stops p f xs ys (refusal.ExtensionLimit count) is = first_is p f xs ys _ is
first_stops p f xs ys (refusal.RulesetLimit count) is = first_is p f xs ys _ is
first_stops p f xs ys (refusal.RulesLimit count) is = first_is p f xs ys _ is
first_stops p f xs ys (refusal.EnabledLimit count) is = first_is p f xs ys _ is
first_stops p f xs ys (refusal.PoolLimit count) is = first_is p f xs ys _ is
first_stops p f xs ys (refusal.DynamicLimit count) is = first_is p f xs ys _ is
first_stops p f xs ys (refusal.UnsafeLimit count) is = first_is p f xs ys _ is
first_stops p f xs ys (refusal.SessionLimit count) is = first_is p f xs ys _ is
first_stops p f xs ys (refusal.RegexLimit count) is = first_is p f xs ys _ is
first_stops p f xs ys (refusal.DisabledLimit count) is = first_is p f xs ys _ is
first_stops p f xs ys (refusal.TooManyUpdates count) is = first_is p f xs ys _ is
first_stops p f xs ys refusal.NoMemory is = tt

-- the answer of the second list is that of both
pub answers_both : {X : Type 0} (p : X → Bool) (f : X → Refusal) (xs ys : List X) (result : Result (Unit {0}) Refusal) → first_refused p f xs ≡ None
    → Answers (first_refused p f ys) result → Answers (first_refused p f (xs ++ ys)) result
answers_both p f xs ys result e answers = subst (λ (test : Option Refusal). Answers test result) (sym (first_goes p f xs ys e)) answers
