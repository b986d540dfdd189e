-- A list of kinds or methods as a set: each once, in the order of all.
use Rattle.std.proofs.Common.{◌≡◌, ◌<◌, ◌≤◌, ◌+◌, ◌||◌, ◌==◌, ℕ, List, length, take, get_or, Bool, true, false, filter, refl, sym, ap, ◌∙◌, arith}
use Rattle.std.proofs.Math.Path.{fun_ext}
use Rattle.std.proofs.lemmas.Bool.Decides.{nat_tests}
use Rattle.std.proofs.lemmas.List.Folds.{list_any_more}
use Rattle.std.proofs.lemmas.List.{take_all}
use Rattle.dnr_base.specs.BitSet.{is_among}

-- `members` are those of the list
pub record IsSetOf {X : Type 0} (place : X → ℕ) (all members list : List X) : Type 0 where
  pub listed : members ≡ filter (is_among place list) all
  pub same : (other : X) → is_among place members other ≡ is_among place list other

turned : (m n : ℕ) → (m == n) ≡ (n == m)
turned m n = grind (arith, nat_tests)

or_turned : (a b : Bool) → (a || b) ≡ (b || a)
or_turned true true = refl
or_turned true false = refl
or_turned false true = refl
or_turned false false = refl

pub set_more : {X : Type 0} (place : X → ℕ) (all members more list : List X) (i : ℕ) (x : X) → i < length list → x ≡ get_or list i x
    → IsSetOf place all members (take i list)
    → ((other : X) → is_among place more other ≡ (place x == place other || is_among place members other))
    → more ≡ filter (λ other. place x == place other || is_among place members other) all
    → IsSetOf place all more (take (i + 1) list)
set_more {X = X} place all members more list i x inside is so_far has listed =
    let one : (other : X) → (place x == place other || is_among place members other) ≡ is_among place (take (i + 1) list) other =
    λ other. or_turned (place x == place other) (is_among place members other)
    ∙ ap (λ b. b || place x == place other) (so_far.same other)
    ∙ ap (λ b. is_among place (take i list) other || b) (turned (place x) (place other))
    ∙ ap (λ y. is_among place (take i list) other || place other == place y) is
    ∙ sym (list_any_more (λ y. place other == place y) list i x inside) in
    record {
      listed = listed ∙ ap (λ test. filter test all) (fun_ext one);
      same = λ other. has other ∙ one other;
    }

pub set_done : {X : Type 0} (place : X → ℕ) (all members list : List X) (i : ℕ) → length list ≤ i → IsSetOf place all members (take i list) → members ≡ filter (is_among place list) all
set_done place all members list i end so_far = so_far.listed ∙ ap (λ xs. filter (is_among place xs) all) (take_all i list end)
