-- What a crash leaves while a file is opened.
use Rattle.std.proofs.Common.{◌≡◌, ℕ, ◌<◌, List, map, filter_map, length, refl, ◌∙◌, ap, arith}
use Rattle.keep_disk.specs.Moments.{LeavesOnly}
use Rattle.keep_disk.proofs.Moments.{joined, weakened}
use Rattle.keep_records.specs.Records.{payloads}
use Rattle.keep_records.specs.Ends.{max_file, Keeps, AllHave, HadPayloads}
use Rattle.keep_spec.specs.Kept.{Kept, update_at, kept}
use Rattle.keep_spec.specs.Agrees.{normal_update, Agrees, AreRead, HadList, IsSound, Sound, IsFirstRefused}
use Rattle.keep_laws.proofs.Accepted.{kept_is, none_refused}

module _ {D : Type 0} (moment : D → ℕ) (left_since : D → ℕ → List ℕ → Type 0) (images : D → List ℕ → Type 0) (old mid : D)
    (read : LeavesOnly moment left_since old mid (images old)) where
  had : (image : List ℕ) → images old image → HadPayloads (images old) image
  had image was = record { old = image; was = was; same = refl; short = λ le. le }

  pub read_leaves : LeavesOnly moment left_since old mid (HadPayloads (images old))
  read_leaves = weakened moment left_since old mid (images old) (HadPayloads (images old)) read had

  pub open_leaves : (new : D) (file now : List ℕ) → images old file → now ≡ file → LeavesOnly moment left_since mid new (Keeps (payloads now))
      → LeavesOnly moment left_since old new (HadPayloads (images old))
  open_leaves new file now was same mend =
      joined moment left_since old mid new (images old) (Keeps (payloads now)) (HadPayloads (images old)) read mend had
      (λ image keeps. record { old = file; was = was; same = keeps.list_is ∙ ap payloads same; short = λ le. keeps.short })

-- files of the same payloads keep the same
pub same_kept : (name image old : List ℕ) → payloads image ≡ payloads old → kept name image ≡ kept name old
unfolding kept
same_kept name image old same = ap (filter_map (update_at name)) same

pub had_list : (name : List ℕ) (before : List ℕ → Type 0) (image : List ℕ) → HadPayloads before image → HadList name before image
had_list name before image had = record { old = had.old; was = had.was; same = same_kept name image had.old had.same }

pub leaves_lists : {D : Type 0} (moment : D → ℕ) (left_since : D → ℕ → List ℕ → Type 0) (old new : D) (name : List ℕ) (before : List ℕ → Type 0)
    → LeavesOnly moment left_since old new (HadPayloads before) → LeavesOnly moment left_since old new (HadList name before)
leaves_lists moment left_since old new name before run =
    weakened moment left_since old new (HadPayloads before) (HadList name before) run (had_list name before)

-- an image with the payloads of a sound one is sound
pub sound_had : (name : List ℕ) (before : List ℕ → Type 0) (image : List ℕ) → Sound name before → HadPayloads before image → IsSound name image
sound_had name before image sound had =
    let is = sound had.old had.was in
    record { short = had.short is.short; list = is.list; read = ap (map (update_at name)) had.same ∙ is.read; accepted = is.accepted }

-- a sound disk holds no file that is too long, and no payload that is refused
pub too_long_not : (name : List ℕ) (images : List ℕ → Type 0) (file : List ℕ) → Sound name images → images file → max_file < length file → ⊥
too_long_not name images file sound now long = let is = sound file now in omega (arith, is.short, long)

pub refused_not : (name : List ℕ) (images : List ℕ → Type 0) (file : List ℕ) (place : ℕ) → Sound name images → images file → IsFirstRefused name (payloads file) place → ⊥
refused_not name images file place sound now bad =
    let is = sound file now in
    none_refused name (payloads file) place is.list is.read is.accepted bad

-- a list that was read agrees with what is left of its file
pub agrees_read : (images : List ℕ → Type 0) (keep : Kept) (file : List ℕ) → AllHave images (payloads file) keep.place → AreRead keep.name (payloads file) keep.list
    → Agrees images keep
agrees_read images keep file has read image left =
    let here = has image left in
    record {
      alike = ap (map normal_update) (kept_is keep.name image keep.list (ap (map (update_at keep.name)) here.list_is ∙ read));
      ends = record { short = here.short; place_is = here.place_is; there = here.there; closed = here.closed };
    }
