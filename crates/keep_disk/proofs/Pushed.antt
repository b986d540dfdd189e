-- The record of calls with one more.
use Rattle.std.proofs.Common.{◌≡◌, inl, inr, ℕ, ◌+◌, ◌≤◌, min, replicate, List, [], ◌∷◌, ◌++◌, length, take, refl, sym, ◌∙◌, ap, subst, arith}
use Rattle.std.proofs.lemmas.Bool.{cases_lt}
use Rattle.std.proofs.lemmas.List.{take_all, take-append-le, length_push}
use Rattle.keep_disk.specs.Images.{written}
use Rattle.keep_disk.specs.Moments.{Elapses}
use Rattle.keep_disk.specs.declared.call.Call.{Call}
use Rattle.keep_disk.specs.declared.call.Call.TheVariants.{Wrote}
use Rattle.keep_disk.specs.Calls.{done, images_by, settled_by, marked_by, seen_after, images_after, settled_after, marked_after}
use Rattle.keep_disk.specs.Memory.{ImagesOf, LeftSince}
use Rattle.keep_disk.specs.Laws.{three_of}

pub push_seen : (calls : List Call) (call : Call) (file : List ℕ) → seen_after file (calls ++ call ∷ []) ≡ done call (seen_after file calls)
push_seen [] call file = refl
push_seen (c ∷ calls) call file = push_seen calls call (done c file)

pub push_settled : (calls : List Call) (call : Call) (file settled : List ℕ)
    → settled_after file settled (calls ++ call ∷ []) ≡ settled_by call (seen_after file calls) (settled_after file settled calls)
push_settled [] call file settled = refl
push_settled (c ∷ calls) call file settled = push_settled calls call (done c file) (settled_by c file settled)

pub push_marked : (calls : List Call) (call : Call) (file marked : List ℕ)
    → marked_after file marked (calls ++ call ∷ []) ≡ marked_by call (seen_after file calls) (marked_after file marked calls)
push_marked [] call file marked = refl
push_marked (c ∷ calls) call file marked = push_marked calls call (done c file) (marked_by c file marked)

push_images : (calls : List Call) (call : Call) (file : List ℕ) (images : List ℕ → Type 0) (image : List ℕ)
    → images_after file images (calls ++ call ∷ []) image → images_by call (seen_after file calls) (images_after file images calls) image
push_images [] call file images image left = left
push_images (c ∷ calls) call file images image left = push_images calls call (done c file) (images_by c file images) image left

pub by_call : (first : List ℕ) (calls : List Call) (call : Call) (image : List ℕ)
    → ImagesOf first (calls ++ call ∷ []) image → images_by call (seen_after first calls) (ImagesOf first calls) image
unfolding ImagesOf
by_call first calls call image left = push_images calls call first (λ (file : List ℕ). file ≡ first) image left

-- a call that was recorded took its time
pub elapses : (first : List ℕ) (calls : List Call) (call : Call)
    → Elapses (length calls) (length (calls ++ call ∷ [])) (LeftSince first calls) (LeftSince first (calls ++ call ∷ [])) (ImagesOf first (calls ++ call ∷ []))
unfolding LeftSince
elapses first calls call =
    let size : length (calls ++ call ∷ []) ≡ length calls + 1 = length_push calls call in
    record {
      later = omega (arith, size);
      nothing_else = λ t image le left. elim (cases_lt (length calls) left.0) [
        | inl past_all ↦
            let all : take left.0 (calls ++ call ∷ []) ≡ calls ++ call ∷ [] = take_all left.0 (calls ++ call ∷ []) (omega (arith, size, past_all)) in
            inr (subst (λ (l : List Call). ImagesOf first l image) all left.3)
        | inr within ↦
            let front : take left.0 (calls ++ call ∷ []) ≡ take left.0 calls = take-append-le left.0 calls (call ∷ []) within in
            inl (left.0, left.1, within, subst (λ (l : List Call). ImagesOf first l image) front left.3)
      ];
      keeps = λ t image le left.
          let front : take left.0 (calls ++ call ∷ []) ≡ take left.0 calls = take-append-le left.0 calls (call ∷ []) left.2 in
          (left.0, left.1, omega (arith, size, left.2), subst (λ (l : List Call). ImagesOf first l image) (sym front) left.3);
    }

-- no call was recorded
pub elapses_none : (first : List ℕ) (calls : List Call)
    → Elapses (length calls) (length calls) (LeftSince first calls) (LeftSince first calls) (ImagesOf first calls)
elapses_none first calls = record {
  later = omega arith;
  nothing_else = λ t image le left. inl left;
  keeps = λ t image le left. left;
}

-- after a write, in the words of the code
pub wrote_seen : (first : List ℕ) (calls : List Call) (at : ℕ) (bytes now next : List ℕ) → now ≡ seen_after first calls → at ≤ length now
    → next ≡ written at bytes now → next ≡ seen_after first (calls ++ Wrote at bytes ∷ [])
wrote_seen first calls at bytes now next is le done_is =
    let place : at ≡ min at (length (seen_after first calls)) = omega (arith, ap length is, le) in
    done_is ∙ ap (λ (file : List ℕ). written at bytes file) is
    ∙ ap (λ (n : ℕ). written n bytes (seen_after first calls)) place
    ∙ sym (push_seen calls (Wrote at bytes) first)

pub wrote_marked : (first : List ℕ) (calls : List Call) (at : ℕ) (bytes wild marked next : List ℕ) → marked ≡ marked_after first first calls
    → at ≤ length (seen_after first calls) → wild ≡ replicate (length bytes) 255 → next ≡ written at wild marked
    → next ≡ marked_after first first (calls ++ Wrote at bytes ∷ [])
wrote_marked first calls at bytes wild marked next is le wild_is done_is =
    let place : at ≡ min at (length (seen_after first calls)) = omega (arith, le) in
    done_is ∙ ap (λ (file : List ℕ). written at wild file) is
    ∙ ap (λ (w : List ℕ). written at w (marked_after first first calls)) wild_is
    ∙ ap (λ (n : ℕ). written n (replicate (length bytes) 255) (marked_after first first calls)) place
    ∙ sym (push_marked calls (Wrote at bytes) first first)

pub marked_long : (first : List ℕ) (calls : List Call) → length (marked_after first first calls) ≡ length (seen_after first calls)
marked_long first calls = (three_of first calls).same
