-- A disk in memory: what it held at first, and what was done since.
use Rattle.std.specs.Prelude.{◌≡◌, ◌⊎◌, ℕ, ◌≤◌, List, [], ◌∷◌, ◌++◌, length, take, Result, OnOk, OnErr}
use Rattle.dnr_base.specs.declared.fault.Failed.{Failed}
use Rattle.keep_disk.specs.declared.call.Call.{Call}
use Rattle.keep_disk.specs.Calls.{seen_after, images_after, settled_after, marked_after}

-- the file at first, the calls since, the numbers of those that are to fail, and how many faults there were
pub record Memory : Type 0 where
  pub first : List ℕ
  pub calls : List Call
  pub failing : List ℕ
  pub faults : ℕ

abbrev pub seen_of : Memory → List ℕ
seen_of disk = seen_after disk.first disk.calls

abbrev pub settled_of : Memory → List ℕ
settled_of disk = settled_after disk.first disk.first disk.calls

abbrev pub marked_of : Memory → List ℕ
marked_of disk = marked_after disk.first disk.first disk.calls

-- what a crash may leave after these calls of a disk that held `first`, all of it on the disk
unfoldable pub ImagesOf : List ℕ → List Call → List ℕ → Type 0
ImagesOf first calls image = images_after first (λ (file : List ℕ). file ≡ first) calls image

-- what a crash may have left at a moment, which is a number of calls, from t on
unfoldable pub LeftSince : List ℕ → List Call → ℕ → List ℕ → Type 0
LeftSince first calls t image = (k : ℕ) × (t ≤ k) × (k ≤ length calls) × ImagesOf first (take k calls) image

-- a call was done and recorded
pub record HasDone (call : Call) (old new : Memory) : Type 0 where
  pub first : new.first ≡ old.first
  pub calls : new.calls ≡ old.calls ++ call ∷ []

-- nothing was done
pub record HasNothing (old new : Memory) : Type 0 where
  pub first : new.first ≡ old.first
  pub calls : new.calls ≡ old.calls

-- a call was done and recorded, or it failed and nothing was done
pub record Takes {T : Type 0} (call : Call) (old new : Memory) (result : Result T Failed) : Type 0 where
  pub either : HasDone call old new ⊎ HasNothing old new
  pub ok : OnOk result (HasDone call old new)
  pub err : OnErr result (HasNothing old new)
