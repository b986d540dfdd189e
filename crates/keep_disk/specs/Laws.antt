-- The laws of a disk in memory.
use Rattle.std.proofs.Common.{◌≡◌, ℕ, ◌+◌, ◌≤◌, min, max, List, [], ◌∷◌, ◌++◌, length, take, drop, replicate, refl, sym, ◌∙◌, ap, subst, arith, append_assoc, length-append, length-take, length-drop}
use Rattle.std.proofs.lemmas.List.{take_at, drop_at, take_all, take_min, length-replicate}
use Rattle.keep_disk.specs.Images.{written, Torn, Shortened}
use Rattle.keep_disk.specs.Undone.{torn_nothing, shortened_nothing}
use Rattle.keep_disk.specs.declared.call.Call.{Call}
use Rattle.keep_disk.specs.declared.call.Call.TheVariants.{Looked, Wrote, Cut, Synced}
use Rattle.keep_disk.specs.Calls.{done, images_by, settled_by, marked_by, seen_after, images_after, settled_after, marked_after}
use Rattle.keep_disk.specs.Memory.{Memory, seen_of, ImagesOf, LeftSince}

length-front : (at : ℕ) (file : List ℕ) → at ≤ length file → length (take at file) ≡ at
length-front at file le = omega (arith, length-take at file)

length-written : (at : ℕ) (bytes file : List ℕ) → at ≤ length file → length (written at bytes file) ≡ max (length file) (at + length bytes)
length-written at bytes file le =
    omega (
      arith,
      length-append (take at file) (bytes ++ drop (at + length bytes) file),
      length-append bytes (drop (at + length bytes) file),
      length-front at file le,
      length-drop (at + length bytes) file,
    )

-- a write that was done whole
torn_written : (at : ℕ) (bytes file : List ℕ) → at ≤ length file → Torn at (length bytes) file (written at bytes file)
torn_written at bytes file le =
    let split : written at bytes file ≡ (take at file ++ bytes) ++ drop (at + length bytes) file =
    sym (append_assoc (take at file) bytes (drop (at + length bytes) file)) in
    record {
      before = take_at (take at file) (bytes ++ drop (at + length bytes) file) at (length-front at file le);
      after = ap (λ (l : List ℕ). drop (at + length bytes) l) split
          ∙ drop_at (take at file ++ bytes) (drop (at + length bytes) file) (at + length bytes)
          (omega (arith, length-append (take at file) bytes, length-front at file le));
      no_shorter = omega (arith, length-written at bytes file le);
      no_longer = omega (arith, length-written at bytes file le);
    }

-- a cut that was done whole
shortened_taken : (n : ℕ) (file : List ℕ) → Shortened n file (take n file)
shortened_taken n file = record {
  no_shorter = omega (arith, length-take n file);
  front = sym (ap (λ (k : ℕ). take k file) (length-take n file) ∙ take_min n file);
}

-- three of the images: what a read gives, what the last sync brought to the disk, and the file with marks
pub record Three (file settled marked : List ℕ) (images : List ℕ → Type 0) : Type 0 where
  pub now : images file
  pub old : images settled
  pub wild : images marked
  pub same : length marked ≡ length file

three_by : (call : Call) (file settled marked : List ℕ) (images : List ℕ → Type 0) → Three file settled marked images
    → Three (done call file) (settled_by call file settled) (marked_by call file marked) (images_by call file images)
three_by Looked file settled marked images three = three
three_by (Wrote at bytes) file settled marked images three =
    let place = min at (length file) in
    let wild = replicate (length bytes) 255 in
    let size : length wild ≡ length bytes = length-replicate (length bytes) 255 in
    record {
      now = (file, three.now, torn_written place bytes file (omega arith));
      old = (settled, three.old, torn_nothing place (length bytes) settled);
      wild = (marked, three.wild, subst (λ (n : ℕ). Torn place n marked (written place wild marked)) size (torn_written place wild marked (omega (arith, three.same))));
      same = omega (arith, length-written place wild marked (omega (arith, three.same)), length-written place bytes file (omega arith), three.same, size);
    }
three_by (Cut end) file settled marked images three = record {
  now = (file, three.now, shortened_taken end file);
  old = (settled, three.old, shortened_nothing end settled);
  wild = (marked, three.wild, shortened_taken end marked);
  same = omega (arith, length-take end marked, length-take end file, three.same);
}
three_by Synced file settled marked images three = record { now = refl; old = refl; wild = refl; same = refl }

three_after : (calls : List Call) (file settled marked : List ℕ) (images : List ℕ → Type 0) → Three file settled marked images
    → Three (seen_after file calls) (settled_after file settled calls) (marked_after file marked calls) (images_after file images calls)
three_after [] file settled marked images three = three
three_after (call ∷ calls) file settled marked images three =
    three_after calls (done call file) (settled_by call file settled) (marked_by call file marked) (images_by call file images) (three_by call file settled marked images three)

pub three_of : (first : List ℕ) (calls : List Call) → Three (seen_after first calls) (settled_after first first calls) (marked_after first first calls) (ImagesOf first calls)
unfolding ImagesOf
three_of first calls = three_after calls first first first (λ (file : List ℕ). file ≡ first) (record { now = refl; old = refl; wild = refl; same = refl })

pub seen_is_image : (disk : Memory) → ImagesOf disk.first disk.calls (seen_of disk)
seen_is_image disk = (three_of disk.first disk.calls).now

pub counts_now : (first : List ℕ) (calls : List Call) (t : ℕ) (image : List ℕ) → t ≤ length calls → ImagesOf first calls image → LeftSince first calls t image
unfolding LeftSince
counts_now first calls t image le now =
    let all : take (length calls) calls ≡ calls = take_all (length calls) calls (omega arith) in
    (length calls, le, omega arith, subst (λ (l : List Call). ImagesOf first l image) (sym all) now)

pub only_now : (first : List ℕ) (calls : List Call) (image : List ℕ) → LeftSince first calls (length calls) image → ImagesOf first calls image
unfolding LeftSince
only_now first calls image left =
    let all : take left.0 calls ≡ calls = take_all left.0 calls left.1 in
    subst (λ (l : List Call). ImagesOf first l image) all left.3
