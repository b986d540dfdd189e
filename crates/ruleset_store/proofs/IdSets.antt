-- Ids that are put into a set one after another.
use Rattle.std.proofs.Common.{◌≡◌, ℕ, ℤ, pos, List, [], ◌∷◌, ◌++◌, Bool, true, false, cond, ◌||◌, refl, sym, ap, ◌∙◌, int_cmp, int_eq, arith, ◌<◌, ◌^◌, FitsSigned}
use mir.Syntax.{w128}
use Rattle.std.specs.List.{list_any}
use Rattle.std.specs.BTreeSet.{BTreeSet, contains_by, Updates}
use Rattle.std.specs.Cmp.{int_eq_equiv}
use Rattle.std.proofs.lemmas.List.Folds.{list_any-append}
use Rattle.ruleset_store.specs.Ids.{HasWholes}

or_cond : (c b : Bool) → cond c true b ≡ (b || (c || false))
or_cond true true = refl
or_cond true false = refl
or_cond false true = refl
or_cond false false = refl

pub more_wholes : (old new : BTreeSet ℤ) (ids : List ℤ) (x : ℤ) → HasWholes old ids → Updates int_cmp old new x true → HasWholes new (ids ++ x ∷ [])
more_wholes old new ids x has up id =
    up.0 id
    ∙ ap (λ c. cond c true (contains_by (int_cmp id) old)) (int_eq_equiv.symm x id)
    ∙ ap (λ b. cond (int_eq id x) true b) (has id)
    ∙ or_cond (int_eq id x) (list_any (λ other. int_eq id other) ids)
    ∙ sym (list_any-append (λ other. int_eq id other) ids (x ∷ []))

-- an id fits a whole number of 128 bits
pub small : (id : ℕ) → id < 2 ^ 32 → FitsSigned w128 (pos id)
small id lt = record { sfits = omega (arith, lt) }
