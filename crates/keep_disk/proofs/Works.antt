-- What a crash leaves while work is done and brought to the disk.
use Rattle.std.proofs.Common.{ℕ, List}
use Rattle.keep_disk.specs.Images.{ComesFrom, Follows, AddsNone}
use Rattle.keep_disk.specs.Moments.{Elapses, LeavesOnly}
use Rattle.keep_disk.proofs.Moments.{started, goes_on}

module _ {D : Type 0} (moment : D → ℕ) (left_since : D → ℕ → List ℕ → Type 0) (images : D → List ℕ → Type 0)
    (only_now : (disk : D) (image : List ℕ) → left_since disk (moment disk) image → images disk image)
    (Work : List ℕ → List ℕ → Type 0) (nothing : (file : List ℕ) → Work file file) where
  pub in_work : (old mid : D) → Follows Work (images old) (images mid)
      → Elapses (moment old) (moment mid) (left_since old) (left_since mid) (images mid)
      → LeavesOnly moment left_since old mid (ComesFrom Work (images old))
  in_work old mid crash time =
      let at_start = started moment left_since old (ComesFrom Work (images old)) (λ image left. (image, only_now old image left, nothing image)) in
      goes_on moment left_since old old mid (ComesFrom Work (images old)) (images mid) at_start time crash

  pub in_sync : (old mid new : D) → Follows Work (images old) (images mid)
      → Elapses (moment old) (moment mid) (left_since old) (left_since mid) (images mid)
      → AddsNone (images mid) (images new)
      → Elapses (moment mid) (moment new) (left_since mid) (left_since new) (images new)
      → LeavesOnly moment left_since old new (ComesFrom Work (images old))
  in_sync old mid new crash time none later =
      goes_on moment left_since old mid new (ComesFrom Work (images old)) (images new) (in_work old mid crash time) later (λ image now. crash image (none image now))
