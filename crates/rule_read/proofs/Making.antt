-- Steps along a list of which something is made, if all pass a test.
use Rattle.std.proofs.Common.{◌≡◌, ℕ, ◌+◌, ◌<◌, ◌≤◌, List, [], ◌∷◌, ◌++◌, map, length, drop, get_or, Bool, true, false, cond, ◌&&◌, Option, Some, None, refl, sym, ap, ◌∙◌, append_assoc}
use Rattle.std.specs.List.{list_all}
use Rattle.std.proofs.lemmas.List.{drop_more, drop_all, append-nil}
use Rattle.json_spec.proofs.Each.{before}
use Rattle.rule_read.specs.Tests.{made_of_all}

pub record IsMadeSoFar {X Y : Type 0} (test : X → Bool) (make : X → Y) (xs : List X) (done : List Y) (next : ℕ) : Type 0 where
  pub same : made_of_all test make xs ≡ before done (made_of_all test make (drop next xs))

before-nil : {Y : Type 0} (rest : Option (List Y)) → rest ≡ before [] rest
before-nil None = refl
before-nil (Some ys) = refl

pub making_begins : {X Y : Type 0} (test : X → Bool) (make : X → Y) (xs : List X) → IsMadeSoFar test make xs [] 0
making_begins test make xs = record { same = before-nil (made_of_all test make xs) }

one_passes : {X Y : Type 0} (make : X → Y) (done : List Y) (x : X) (xs : List X) (first all : Bool) → first ≡ true
    → before done (cond (first && all) (Some (make x ∷ map make xs)) None) ≡ before (done ++ make x ∷ []) (cond all (Some (map make xs)) None)
one_passes make done x xs true true h = ap Some (sym (append_assoc done (make x ∷ []) (map make xs)))
one_passes make done x xs true false h = refl
one_passes make done x xs false all h = cc

pub making_passes : {X Y : Type 0} (test : X → Bool) (make : X → Y) (xs : List X) (next : ℕ) (x : X) (y : Y) (done : List Y)
    → next < length xs → x ≡ get_or xs next x → IsMadeSoFar test make xs done next → test x ≡ true → y ≡ make x → IsMadeSoFar test make xs (done ++ y ∷ []) (next + 1)
making_passes test make xs next x y done inside is so_far passes made = record {
  same = so_far.same ∙ ap (λ rest. before done (made_of_all test make rest)) (drop_more xs next x inside ∙ ap (λ first. first ∷ drop (next + 1) xs) (sym is))
      ∙ one_passes make done x (drop (next + 1) xs) (test x) (list_all test (drop (next + 1) xs)) passes
      ∙ ap (λ first. before (done ++ first ∷ []) (made_of_all test make (drop (next + 1) xs))) (sym made);
}

is_made : {Y : Type 0} (pass : Bool) (x y : Y) → cond pass (Some x) None ≡ Some y → (pass ≡ true) × (y ≡ x)
is_made true x y h = (refl, cc)
is_made false x y h = cc

is_not_made : {Y : Type 0} (pass : Bool) (x : Y) → cond pass (Some x) None ≡ None → pass ≡ false
is_not_made true x h = cc
is_not_made false x h = refl

pub making_goes : {X Y : Type 0} (test : X → Bool) (make : X → Y) (xs : List X) (next : ℕ) (x : X) (y : Y) (done : List Y)
    → next < length xs → x ≡ get_or xs next x → IsMadeSoFar test make xs done next → cond (test x) (Some (make x)) None ≡ Some y → IsMadeSoFar test make xs (done ++ y ∷ []) (next + 1)
making_goes test make xs next x y done inside is so_far made =
    let p = is_made (test x) (make x) y made in
    making_passes test make xs next x y done inside is so_far p.0 p.1

none_made : {X Y : Type 0} (make : X → Y) (done : List Y) (x : X) (xs : List X) (first all : Bool) → first ≡ false
    → before done (cond (first && all) (Some (make x ∷ map make xs)) None) ≡ None
none_made make done x xs true all h = cc
none_made make done x xs false all h = refl

pub making_fails : {X Y : Type 0} (test : X → Bool) (make : X → Y) (xs : List X) (next : ℕ) (x : X) (done : List Y)
    → next < length xs → x ≡ get_or xs next x → IsMadeSoFar test make xs done next → test x ≡ false → made_of_all test make xs ≡ None
making_fails test make xs next x done inside is so_far fails =
    so_far.same ∙ ap (λ rest. before done (made_of_all test make rest)) (drop_more xs next x inside ∙ ap (λ first. first ∷ drop (next + 1) xs) (sym is))
    ∙ none_made make done x (drop (next + 1) xs) (test x) (list_all test (drop (next + 1) xs)) fails

pub making_stops : {X Y : Type 0} (test : X → Bool) (make : X → Y) (xs : List X) (next : ℕ) (x : X) (done : List Y)
    → next < length xs → x ≡ get_or xs next x → IsMadeSoFar test make xs done next → cond (test x) (Some (make x)) None ≡ None → made_of_all test make xs ≡ None
making_stops test make xs next x done inside is so_far made = making_fails test make xs next x done inside is so_far (is_not_made (test x) (make x) made)

pub making_ends : {X Y : Type 0} (test : X → Bool) (make : X → Y) (xs : List X) (next : ℕ) (done : List Y)
    → length xs ≤ next → IsMadeSoFar test make xs done next → made_of_all test make xs ≡ Some done
making_ends test make xs next done end so_far =
    so_far.same ∙ ap (λ rest. before done (made_of_all test make rest)) (drop_all next xs end) ∙ ap Some (append-nil done)

pub no_map : {X : Type 0} (xs : List X) → map (λ (x : X). x) xs ≡ xs
no_map [] = refl
no_map (x ∷ xs) = ap (λ rest. x ∷ rest) (no_map xs)
