-- Counts of faults, before a run, now, and after one line more.
use Rattle.std.proofs.Common.{◌≡◌, ℕ, zero, suc, ◌+◌, List, [], ◌∷◌, length, refl, arith}
use Rattle.std.specs.Prelude.{slice_get}
use Rattle.dnr_base.specs.Faults.{Count}
use Rattle.session_spec.specs.Answers.{HostRisesBy}
use Rattle.session_spec.specs.Said.{Said, count_failed, count_stopped}
use Rattle.session_laws.specs.Turns.{times_of, RiseBy, FaultsRise, NoneFell, counts_between}

-- The counts of hosts rose with what a line says: whatever each had risen by before, it has by what is told of it too.
pub record RisesWith (hosts later : List Count) (told : Said) : Type 0 where
  pub finders : (seat times : ℕ) → HostRisesBy times (slice_get hosts (suc seat)) → HostRisesBy (times + count_failed seat (told ∷ [])) (slice_get later (suc seat))
  pub checker : (times : ℕ) → HostRisesBy times (slice_get hosts zero) → HostRisesBy (times + count_stopped (told ∷ [])) (slice_get later zero)

pub place_rises : (first now next : List ℕ) (times : ℕ → ℕ) → length first ≡ length now → RiseBy times now next → (place before : ℕ)
    → HostRisesBy before (slice_get (counts_between first now) place) → HostRisesBy (before + times place) (slice_get (counts_between first next) place)
place_rises [] [] [] times same rise place before risen = omega (arith, rise place, risen)
place_rises [] [] (c ∷ next) times same rise place before risen = absurd rise
place_rises [] (b ∷ now) next times same rise place before risen = absurd (omega (arith, same))
place_rises (a ∷ first) [] next times same rise place before risen = absurd (omega (arith, same))
place_rises (a ∷ first) (b ∷ now) [] times same rise place before risen = absurd rise
place_rises (a ∷ first) (b ∷ now) (c ∷ next) times same rise zero before risen = omega (arith, rise.0, risen)
place_rises (a ∷ first) (b ∷ now) (c ∷ next) times same rise (suc place) before risen =
    place_rises first now next (λ k. times (suc k)) (omega (arith, same)) rise.1 place before risen

pub rises_with : (first now next : List ℕ) (told : Said) → length first ≡ length now → FaultsRise now next told → RisesWith (counts_between first now) (counts_between first next) told
rises_with first now next told same rise = record {
  finders = λ seat times risen. place_rises first now next (times_of (told ∷ [])) same rise (suc seat) times risen;
  checker = λ times risen. place_rises first now next (times_of (told ∷ [])) same rise zero times risen;
}

pub nothing_risen : (first now : List ℕ) → NoneFell first now → (place : ℕ) → HostRisesBy 0 (slice_get (counts_between first now) place)
nothing_risen [] [] fell place = refl
nothing_risen [] (b ∷ now) fell place = absurd fell
nothing_risen (a ∷ first) [] fell place = absurd fell
nothing_risen (a ∷ first) (b ∷ now) fell zero = omega (arith, fell.0)
nothing_risen (a ∷ first) (b ∷ now) fell (suc place) = nothing_risen first now fell.1 place

-- what had risen by then has risen later
pub later_rises : (first now next : List ℕ) → NoneFell now next → length first ≡ length now → (place times : ℕ)
    → HostRisesBy times (slice_get (counts_between first now) place) → HostRisesBy times (slice_get (counts_between first next) place)
later_rises [] [] [] fell same place times risen = risen
later_rises [] [] (c ∷ next) fell same place times risen = absurd fell
later_rises [] (b ∷ now) next fell same place times risen = absurd (omega (arith, same))
later_rises (a ∷ first) [] next fell same place times risen = absurd (omega (arith, same))
later_rises (a ∷ first) (b ∷ now) [] fell same place times risen = absurd fell
later_rises (a ∷ first) (b ∷ now) (c ∷ next) fell same zero times risen = omega (arith, fell.0, risen)
later_rises (a ∷ first) (b ∷ now) (c ∷ next) fell same (suc place) times risen = later_rises first now next fell.1 (omega (arith, same)) place times risen

pub as_long : (before now : List ℕ) → NoneFell before now → length before ≡ length now
as_long [] [] fell = refl
as_long [] (b ∷ now) fell = absurd fell
as_long (a ∷ before) [] fell = absurd fell
as_long (a ∷ before) (b ∷ now) fell = omega (arith, as_long before now fell.1)

pub none_fell_on : (a b c : List ℕ) → NoneFell a b → NoneFell b c → NoneFell a c
none_fell_on [] [] [] p q = tt
none_fell_on [] [] (z ∷ zs) p q = absurd q
none_fell_on [] (y ∷ ys) zs p q = absurd p
none_fell_on (x ∷ xs) [] zs p q = absurd p
none_fell_on (x ∷ xs) (y ∷ ys) [] p q = absurd q
none_fell_on (x ∷ xs) (y ∷ ys) (z ∷ zs) p q = (omega (arith, p.0, q.0), none_fell_on xs ys zs p.1 q.1)

pub none_fell_yet : (a : List ℕ) → NoneFell a a
none_fell_yet [] = tt
none_fell_yet (x ∷ xs) = (omega arith, none_fell_yet xs)
