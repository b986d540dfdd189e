-- What a crash leaves while a payload is added.
use Rattle.std.proofs.Common.{◌≡◌, inl, ℕ, ◌+◌, ◌<◌, ◌≤◌, List, [], ◌∷◌, ◌++◌, length, refl, sym, ◌∙◌, ap, subst, arith}
use Rattle.keep_disk.specs.Images.{written, Torn, ComesFrom, Only}
use Rattle.keep_disk.specs.Moments.{LeavesOnly}
use Rattle.keep_disk.proofs.Moments.{joined, weakened}
use Rattle.keep_records.specs.Records.{payloads, behind_gate}
use Rattle.keep_records.specs.Ends.{max_file, Ends, AllEnd, Has, MayAdd, Adds}
use Rattle.keep_records.proofs.Listed.{length-written}
use Rattle.keep_records.proofs.Staged.{staged}
use Rattle.keep_records.proofs.Opened.{length-behind_gate, torn_opened, written_opened}

pub has_of : (place : ℕ) (image : List ℕ) → Ends place image → Has (payloads image) place image
has_of place image ends = record { list_is = refl; short = ends.short; place_is = ends.place_is; there = ends.there; closed = ends.closed }

module _ {D : Type 0} (moment : D → ℕ) (left_since : D → ℕ → List ℕ → Type 0) (images : D → List ℕ → Type 0) (seen : D → List ℕ)
    (old mid new : D) (place : ℕ) (payload bytes : List ℕ) (is : bytes ≡ behind_gate payload)
    (some : 0 < length payload) (fits : place + 6 + length payload ≤ max_file) (ends : AllEnd (images old) place) where
  staged_image : (image : List ℕ) → ComesFrom (Torn (place + 1) (length bytes)) (images old) image → MayAdd (images old) payload image
  staged_image image from =
      let has = staged (payloads from.0) place (length bytes) from.0 image (has_of place from.0 (ends from.0 from.1)) from.2
      (omega (arith, ap length is, length-behind_gate payload, fits)) in
      record { old = from.0; was = from.1; is = record { either = inl has.list_is; short = has.short } }

  pub first_leaves : LeavesOnly moment left_since old mid (ComesFrom (Torn (place + 1) (length bytes)) (images old))
      → LeavesOnly moment left_since old mid (MayAdd (images old) payload)
  first_leaves run =
      weakened moment left_since old mid (ComesFrom (Torn (place + 1) (length bytes)) (images old)) (MayAdd (images old) payload) run staged_image

  module _ (now : images old (seen old)) (staged_is : seen mid ≡ written (place + 1) bytes (seen old)) where
    whole : seen mid ≡ written (place + 1) (behind_gate payload) (seen old)
    whole = staged_is ∙ ap (λ (b : List ℕ). written (place + 1) b (seen old)) is

    seen_has : Has (payloads (seen old)) place (seen old)
    seen_has = has_of place (seen old) (ends (seen old) now)

    opened_image : Only (seen mid) (images mid) → (image : List ℕ) → ComesFrom (Torn place 1) (images mid) image → MayAdd (images old) payload image
    opened_image only image from = record {
      old = seen old;
      was = now;
      is = torn_opened (payloads (seen old)) place payload (seen old) seen_has some fits image
          (subst (λ (file : List ℕ). Torn place 1 file image) (only from.0 from.1 ∙ whole) from.2);
    }

    pub both_leave : Only (seen mid) (images mid)
        → LeavesOnly moment left_since old mid (ComesFrom (Torn (place + 1) (length bytes)) (images old))
        → LeavesOnly moment left_since mid new (ComesFrom (Torn place 1) (images mid))
        → LeavesOnly moment left_since old new (MayAdd (images old) payload)
    both_leave only first second =
        joined moment left_since old mid new (ComesFrom (Torn (place + 1) (length bytes)) (images old)) (ComesFrom (Torn place 1) (images mid))
        (MayAdd (images old) payload) first second staged_image (opened_image only)

    pub adds : seen new ≡ written place (1 ∷ []) (seen mid) → Only (seen new) (images new)
        → (image : List ℕ) → images new image → Adds (images old) (place + 5 + length payload) payload image
    adds opened_is only image left =
        let file_is : image ≡ written place (1 ∷ []) (written (place + 1) (behind_gate payload) (seen old)) =
        only image left ∙ opened_is ∙ ap (λ (file : List ℕ). written place (1 ∷ []) file) whole in
        record {
          old = seen old;
          was = now;
          has = subst (λ (file : List ℕ). Has (payloads (seen old) ++ payload ∷ []) (place + 5 + length payload) file) (sym file_is)
              (written_opened (payloads (seen old)) place payload (seen old) seen_has some fits);
        }

    pub gate_there : place ≤ length (seen mid)
    gate_there = omega (arith, ap length staged_is, length-written (place + 1) bytes (seen old) (omega (arith, seen_has.there)), seen_has.there)
