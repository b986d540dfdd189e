-- What a call leaves that was done, and one that was not.
use Rattle.std.proofs.Common.{◌≡◌, ℕ, ◌≤◌, min, List, length, Result, Ok, Err, OnErr, sym, ◌∙◌, ap, subst, arith}
use Rattle.keep_disk.specs.Images.{written, Torn, Shortened, ComesFrom}
use Rattle.keep_disk.specs.Moments.{Elapses}
use Rattle.keep_disk.specs.Undone.{torn_nothing, shortened_nothing}
use Rattle.keep_disk.specs.declared.call.Call.{Call}
use Rattle.keep_disk.specs.declared.call.Call.TheVariants.{Looked, Wrote, Cut, Synced}
use Rattle.keep_disk.specs.Calls.{done, images_by, seen_after}
use Rattle.keep_disk.specs.Memory.{Memory, seen_of, ImagesOf, LeftSince, HasDone, HasNothing}
use Rattle.keep_disk.specs.Laws.{seen_is_image}
use Rattle.keep_disk.proofs.Pushed.{push_seen, by_call, elapses, elapses_none}

abbrev ImagesNow : Memory → List ℕ → Type 0
ImagesNow disk image = ImagesOf disk.first disk.calls image

pub done_seen : (call : Call) (old new : Memory) → HasDone call old new → seen_of new ≡ done call (seen_of old)
done_seen call old new has =
    ap (λ (first : List ℕ). seen_after first new.calls) has.first ∙ ap (λ (calls : List Call). seen_after old.first calls) has.calls
    ∙ push_seen old.calls call old.first

pub same_seen : (old new : Memory) → HasNothing old new → seen_of new ≡ seen_of old
same_seen old new has =
    ap (λ (first : List ℕ). seen_after first new.calls) has.first ∙ ap (λ (calls : List Call). seen_after old.first calls) has.calls

pub done_images : (call : Call) (old new : Memory) → HasDone call old new → (image : List ℕ) → ImagesOf new.first new.calls image
    → images_by call (seen_of old) (ImagesOf old.first old.calls) image
done_images call old new has image left =
    by_call old.first old.calls call image
    (subst (λ (calls : List Call). ImagesOf old.first calls image) has.calls (subst (λ (first : List ℕ). ImagesOf first new.calls image) has.first left))

pub same_images : (old new : Memory) → HasNothing old new → (image : List ℕ) → ImagesOf new.first new.calls image → ImagesOf old.first old.calls image
same_images old new has image left =
    subst (λ (calls : List Call). ImagesOf old.first calls image) has.calls (subst (λ (first : List ℕ). ImagesOf first new.calls image) has.first left)

abbrev Time : Memory → List ℕ → List Call → Type 0
Time old first calls = Elapses (length old.calls) (length calls) (LeftSince old.first old.calls) (LeftSince first calls) (ImagesOf first calls)

pub done_time : (call : Call) (old new : Memory) → HasDone call old new
    → Elapses (length old.calls) (length new.calls) (LeftSince old.first old.calls) (LeftSince new.first new.calls) (ImagesOf new.first new.calls)
done_time call old new has =
    subst (λ (first : List ℕ). Time old first new.calls) (sym has.first)
    (subst (λ (calls : List Call). Time old old.first calls) (sym has.calls) (elapses old.first old.calls call))

pub same_time : (old new : Memory) → HasNothing old new
    → Elapses (length old.calls) (length new.calls) (LeftSince old.first old.calls) (LeftSince new.first new.calls) (ImagesOf new.first new.calls)
same_time old new has =
    subst (λ (first : List ℕ). Time old first new.calls) (sym has.first)
    (subst (λ (calls : List Call). Time old old.first calls) (sym has.calls) (elapses_none old.first old.calls))

-- by the calls
pub looked_none : (old new : Memory) → HasDone Looked old new → (image : List ℕ) → ImagesOf new.first new.calls image → ImagesOf old.first old.calls image
looked_none old new has image left = done_images Looked old new has image left

pub wrote_torn : (at : ℕ) (bytes : List ℕ) (old new : Memory) → at ≤ length (seen_of old) → HasDone (Wrote at bytes) old new → (image : List ℕ)
    → ImagesOf new.first new.calls image → ComesFrom (Torn at (length bytes)) (ImagesOf old.first old.calls) image
wrote_torn at bytes old new le has image left =
    let from = done_images (Wrote at bytes) old new has image left in
    let place : min at (length (seen_of old)) ≡ at = omega (arith, le) in
    (from.0, from.1, subst (λ (n : ℕ). Torn n (length bytes) from.0 image) place from.2)

pub wrote_bytes : (at : ℕ) (bytes : List ℕ) (old new : Memory) → at ≤ length (seen_of old) → HasDone (Wrote at bytes) old new
    → seen_of new ≡ written at bytes (seen_of old)
wrote_bytes at bytes old new le has =
    let place : min at (length (seen_of old)) ≡ at = omega (arith, le) in
    done_seen (Wrote at bytes) old new has ∙ ap (λ (n : ℕ). written n bytes (seen_of old)) place

pub wrote_nothing : (at n : ℕ) (old new : Memory) → HasNothing old new → (image : List ℕ) → ImagesOf new.first new.calls image
    → ComesFrom (Torn at n) (ImagesOf old.first old.calls) image
wrote_nothing at n old new has image left = (image, same_images old new has image left, torn_nothing at n image)

pub wrote_no_part : (at n : ℕ) (old new : Memory) → HasNothing old new → Torn at n (seen_of old) (seen_of new)
wrote_no_part at n old new has = subst (λ (file : List ℕ). Torn at n (seen_of old) file) (sym (same_seen old new has)) (torn_nothing at n (seen_of old))

pub cut_shortened : (end : ℕ) (old new : Memory) → HasDone (Cut end) old new → (image : List ℕ) → ImagesOf new.first new.calls image
    → ComesFrom (Shortened end) (ImagesOf old.first old.calls) image
cut_shortened end old new has image left = done_images (Cut end) old new has image left

pub cut_nothing : (end : ℕ) (old new : Memory) → HasNothing old new → (image : List ℕ) → ImagesOf new.first new.calls image
    → ComesFrom (Shortened end) (ImagesOf old.first old.calls) image
cut_nothing end old new has image left = (image, same_images old new has image left, shortened_nothing end image)

pub cut_no_part : (end : ℕ) (old new : Memory) → HasNothing old new → Shortened end (seen_of old) (seen_of new)
cut_no_part end old new has = subst (λ (file : List ℕ). Shortened end (seen_of old) file) (sym (same_seen old new has)) (shortened_nothing end (seen_of old))

pub synced_only : (old new : Memory) → HasDone Synced old new → (image : List ℕ) → ImagesOf new.first new.calls image → image ≡ seen_of new
synced_only old new has image left = done_images Synced old new has image left ∙ sym (done_seen Synced old new has)

pub synced_none : (old new : Memory) → HasDone Synced old new → (image : List ℕ) → ImagesOf new.first new.calls image → ImagesOf old.first old.calls image
synced_none old new has image left =
    subst (λ (file : List ℕ). ImagesOf old.first old.calls file) (sym (done_images Synced old new has image left)) (seen_is_image old)

pub at_err : {T E : Type 0} (r : Result T E) (P : Type 0) → P → OnErr r P
at_err (Ok x) P holds = tt
at_err (Err e) P holds = holds
