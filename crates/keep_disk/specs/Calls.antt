-- What the calls of a disk leave, by a record of what each of them did.
use Rattle.std.specs.Prelude.{◌≡◌, ℕ, min, List, [], ◌∷◌, length, take, replicate}
use Rattle.keep_disk.specs.Images.{written, Torn, Shortened, ComesFrom}
use Rattle.keep_disk.specs.declared.call.Call.{Call}
use Rattle.keep_disk.specs.declared.call.Call.TheVariants.{Looked, Wrote, Cut, Synced}

-- what a read gives after a call
abbrev pub done : Call → List ℕ → List ℕ
done Looked file = file
done (Wrote at bytes) file = written (min at (length file)) bytes file
done (Cut end) file = take end file
done Synced file = file

-- the images that a crash may leave after a call
abbrev pub images_by : Call → List ℕ → (List ℕ → Type 0) → List ℕ → Type 0
images_by Looked file images image = images image
images_by (Wrote at bytes) file images image = ComesFrom (Torn (min at (length file)) (length bytes)) images image
images_by (Cut end) file images image = ComesFrom (Shortened end) images image
images_by Synced file images image = image ≡ file

-- what the last sync brought to the disk
abbrev pub settled_by : Call → List ℕ → List ℕ → List ℕ
settled_by Looked file settled = settled
settled_by (Wrote at bytes) file settled = settled
settled_by (Cut end) file settled = settled
settled_by Synced file settled = file

-- the file with each byte that was written since then as 255
abbrev pub marked_by : Call → List ℕ → List ℕ → List ℕ
marked_by Looked file marked = marked
marked_by (Wrote at bytes) file marked = written (min at (length file)) (replicate (length bytes) 255) marked
marked_by (Cut end) file marked = take end marked
marked_by Synced file marked = file

-- the same over all calls, from the first on
abbrev pub seen_after : List ℕ → List Call → List ℕ
seen_after file [] = file
seen_after file (call ∷ calls) = seen_after (done call file) calls

abbrev pub images_after : List ℕ → (List ℕ → Type 0) → List Call → List ℕ → Type 0
images_after file images [] image = images image
images_after file images (call ∷ calls) image = images_after (done call file) (images_by call file images) calls image

abbrev pub settled_after : List ℕ → List ℕ → List Call → List ℕ
settled_after file settled [] = settled
settled_after file settled (call ∷ calls) = settled_after (done call file) (settled_by call file settled) calls

abbrev pub marked_after : List ℕ → List ℕ → List Call → List ℕ
marked_after file marked [] = marked
marked_after file marked (call ∷ calls) = marked_after (done call file) (marked_by call file marked) calls
