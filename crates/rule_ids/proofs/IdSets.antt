-- Ids that are put into a set and behind a list, each once.
use Rattle.std.proofs.Common.{◌≡◌, ℕ, ◌+◌, List, [], ◌∷◌, ◌++◌, Bool, true, false, cond, ◌||◌, refl, sym, ap, ◌∙◌, subst, nat_cmp, length, take, get_or, below_more, arith, length-append}
use Rattle.std.specs.Prelude.{◌==◌}
use Rattle.std.specs.BTreeSet.{BTreeSet, contains_by, Updates}
use Rattle.std.specs.Cmp.{nat_eq_equiv, unsigned_tied}
use Rattle.std.proofs.lemmas.Bool.{eqb-true}
use Rattle.std.proofs.lemmas.Grind.{common_steps}
use Rattle.std.proofs.lemmas.List.Folds.{list_any-append}
use Rattle.rule_spec.specs.State.{has_number}
use Rattle.rule_ids.specs.Off.{AreApart, HaveSame}

-- a set has the ids of a list, in which no id stands twice and which has those of another
pub record AreOnce (set : BTreeSet ℕ) (ids once : List ℕ) : Type 0 where
  pub known : (id : ℕ) → contains_by (nat_cmp id) set ≡ has_number once id
  pub same : HaveSame ids once
  pub apart : AreApart once

or_cond : (c b : Bool) → cond c true b ≡ (b || (c || false))
or_cond true true = refl
or_cond true false = refl
or_cond false true = refl
or_cond false false = refl

-- an id is put into the set
pub more_known : (old new : BTreeSet ℕ) (ids : List ℕ) (x : ℕ) → ((id : ℕ) → contains_by (nat_cmp id) old ≡ has_number ids id) → Updates nat_cmp old new x true
    → (id : ℕ) → contains_by (nat_cmp id) new ≡ has_number (ids ++ x ∷ []) id
more_known old new ids x has up id =
    up.0 id
    ∙ ap (λ c. cond c true (contains_by (nat_cmp id) old)) (unsigned_tied x id ∙ nat_eq_equiv.symm x id)
    ∙ ap (λ b. cond (id == x) true b) (has id)
    ∙ or_cond (id == x) (has_number ids id)
    ∙ sym (list_any-append (λ other. id == other) ids (x ∷ []))

-- an id that is not there stands apart behind the others
apart_more : (once : List ℕ) (x : ℕ) → AreApart once → has_number once x ≡ false → AreApart (once ++ x ∷ [])
apart_more once x apart new k within =
    let long : length (once ++ x ∷ []) ≡ length once + 1 = length-append once (x ∷ []) in
    below_more (λ k. has_number (take k (once ++ x ∷ [])) (get_or (once ++ x ∷ []) k 0) ≡ false) (length once)
    (λ k lt. grind (arith, common_steps, apart k lt))
    (grind (arith, common_steps, new))
    k (omega arith)

pub put_more : (old new : BTreeSet ℕ) (ids once : List ℕ) (x : ℕ) → AreOnce old ids once → contains_by (nat_cmp x) old ≡ false → Updates nat_cmp old new x true
    → AreOnce new (ids ++ x ∷ []) (once ++ x ∷ [])
put_more old new ids once x are other up = record {
  known = more_known old new once x are.known up;
  same = λ id. list_any-append (λ other. id == other) once (x ∷ []) ∙ ap (λ (b : Bool). b || ((id == x) || false)) (are.same id) ∙ sym (list_any-append (λ other. id == other) ids (x ∷ []));
  apart = apart_more once x are.apart (sym (are.known x) ∙ other);
}

known_again : (b c : Bool) → (b ≡ true → c ≡ true) → c ≡ (c || (b || false))
known_again true true is = refl
known_again true false is = absurd (let e = is refl in cc)
known_again false true is = refl
known_again false false is = refl

-- an id that is there stays as it is
pub put_again : (set : BTreeSet ℕ) (ids once : List ℕ) (x : ℕ) → AreOnce set ids once → contains_by (nat_cmp x) set ≡ true → AreOnce set (ids ++ x ∷ []) once
put_again set ids once x are there = record {
  known = are.known;
  same = λ id. are.same id
      ∙ known_again (id == x) (has_number ids id) (λ is. sym (are.same id) ∙ subst (λ (other : ℕ). has_number once other ≡ true) (sym (eqb-true id x is)) (sym (are.known x) ∙ there))
      ∙ sym (list_any-append (λ other. id == other) ids (x ∷ []));
  apart = are.apart;
}
