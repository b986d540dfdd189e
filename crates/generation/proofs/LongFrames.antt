-- Long frames, one after another.
use Rattle.std.proofs.Common.{◌≡◌, ℕ, zero, suc, List, [], ◌∷◌, ◌++◌, length, Option, Some, sym, subst}
use Rattle.std.specs.Prelude.{IfSome, slice_get}
use Rattle.dnr_base.specs.declared.request.Request.{Request}
use Rattle.dnr_base.specs.Request.{Part, frame_part}
use Rattle.generation.specs.LongFrames.{AreLong}

-- what holds of each at its place holds with one more
holds_more : {X : Type 0} (P : ℕ → X → Type 0) (xs : List X) (x : X) → ((place : ℕ) → IfSome (slice_get xs place) (P place)) → P (length xs) x
    → (place : ℕ) → IfSome (slice_get (xs ++ x ∷ []) place) (P place)
holds_more P [] x all last zero = last
holds_more P [] x all last (suc place) = tt
holds_more P (y ∷ xs) x all last zero = all zero
holds_more P (y ∷ xs) x all last (suc place) =
    holds_more (λ n. P (suc n)) xs x (λ k. all (suc k)) last place

pub long_more : (long : List (Option Part)) (one : Option Part) (request : Request) (place : ℕ) → length long ≡ place → AreLong long request
    → IfSome one (λ part. frame_part request place ≡ Some part) → AreLong (long ++ one ∷ []) request
long_more long one request place count are is =
    holds_more (λ n o. IfSome o (λ part. frame_part request n ≡ Some part)) long one are (subst (λ n. IfSome one (λ part. frame_part request n ≡ Some part)) (sym count) is)
