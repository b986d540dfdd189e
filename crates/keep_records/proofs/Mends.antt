-- What a crash leaves while the end of a file is mended, on a disk that holds it.
use Rattle.std.proofs.Common.{◌≡◌, ℕ, ◌+◌, ◌<◌, ◌≤◌, List, [], ◌∷◌, length, get_or, refl, sym, ◌∙◌, ap, subst, arith, length-take}
use Rattle.keep_disk.specs.Images.{written, Torn, Shortened, ComesFrom, Only}
use Rattle.keep_disk.specs.Moments.{LeavesOnly}
use Rattle.keep_disk.proofs.Moments.{started, joined, weakened}
use Rattle.keep_records.specs.Records.{payloads, end_of}
use Rattle.keep_records.specs.Ends.{max_file}
use Rattle.keep_records.specs.Ends.{Has, AllHave, Keeps}
use Rattle.keep_records.proofs.Mended.{shortened_same, torn_same, written_same}

module _ {D : Type 0} (moment : D → ℕ) (left_since : D → ℕ → List ℕ → Type 0) (images : D → List ℕ → Type 0) (seen : D → List ℕ)
    (old : D) (place : ℕ) (is : place ≡ end_of (seen old)) (short : length (seen old) ≤ max_file) (fits : place + 1 ≤ max_file) where
  module _ (only : Only (seen old) (images old)) where
    pub keeps_nothing : ((disk : D) (image : List ℕ) → left_since disk (moment disk) image → images disk image)
        → LeavesOnly moment left_since old old (Keeps (payloads (seen old)))
    keeps_nothing only_now =
        started moment left_since old (Keeps (payloads (seen old)))
        (λ image left. subst (Keeps (payloads (seen old))) (sym (only image (only_now old image left))) (record { list_is = refl; short = short }))

    cut_keeps : (image : List ℕ) → place + 1 < length (seen old) → ComesFrom (Shortened (place + 1)) (images old) image → Keeps (payloads (seen old)) image
    cut_keeps image longer from =
        let cut : Shortened (place + 1) (seen old) image = subst (λ (file : List ℕ). Shortened (place + 1) file image) (only from.0 from.1) from.2 in
        let here : Shortened (end_of (seen old) + 1) (seen old) image = subst (λ (n : ℕ). Shortened (n + 1) (seen old) image) is cut in
        record {
          list_is = shortened_same (seen old) image (omega (arith, is, longer)) here;
          short = omega (arith, ap length cut.front, length-take (length image) (seen old), short);
        }

    pub keeps_cut : (new : D) → place + 1 < length (seen old) → LeavesOnly moment left_since old new (ComesFrom (Shortened (place + 1)) (images old))
        → LeavesOnly moment left_since old new (Keeps (payloads (seen old)))
    keeps_cut new longer run =
        weakened moment left_since old new (ComesFrom (Shortened (place + 1)) (images old)) (Keeps (payloads (seen old))) run
        (λ image from. cut_keeps image longer from)

    torn_keeps : (image : List ℕ) → length (seen old) ≤ place + 1 → ComesFrom (Torn place 1) (images old) image → Keeps (payloads (seen old)) image
    torn_keeps image shorter from =
        let torn : Torn place 1 (seen old) image = subst (λ (file : List ℕ). Torn place 1 file image) (only from.0 from.1) from.2 in
        let here : Torn (end_of (seen old)) 1 (seen old) image = subst (λ (n : ℕ). Torn n 1 (seen old) image) is torn in
        record {
          list_is = torn_same (seen old) image (omega (arith, is, shorter)) here;
          short = omega (arith, torn.no_longer, short, fits);
        }

    pub keeps_torn : (new : D) → length (seen old) ≤ place + 1 → LeavesOnly moment left_since old new (ComesFrom (Torn place 1) (images old))
        → LeavesOnly moment left_since old new (Keeps (payloads (seen old)))
    keeps_torn new shorter run =
        weakened moment left_since old new (ComesFrom (Torn place 1) (images old)) (Keeps (payloads (seen old))) run
        (λ image from. torn_keeps image shorter from)

  pub closes : (new : D) → length (seen old) ≤ place + 1 → seen new ≡ written place (0 ∷ []) (seen old) → Only (seen new) (images new)
      → AllHave (images new) (payloads (seen old)) place
  closes new shorter closed_is only image left =
      let here : Has (payloads (seen old)) (end_of (seen old)) (written (end_of (seen old)) (0 ∷ []) (seen old)) =
      written_same (seen old) (omega (arith, is, shorter)) (omega (arith, is, fits)) in
      subst (λ (file : List ℕ). Has (payloads (seen old)) place file) (sym (only image left ∙ closed_is))
      (subst (λ (n : ℕ). Has (payloads (seen old)) n (written n (0 ∷ []) (seen old))) (sym is) here)

  pub already_closed : Only (seen old) (images old) → place < length (seen old) → get_or (seen old) place 0 ≡ 0 → AllHave (images old) (payloads (seen old)) place
  already_closed only there closed image left =
      subst (λ (file : List ℕ). Has (payloads (seen old)) place file) (sym (only image left))
      (record { list_is = refl; short = short; place_is = sym is; there = there; closed = closed })

-- a cut and then a closed gate
pub cut_and_closed : {D : Type 0} (moment : D → ℕ) (left_since : D → ℕ → List ℕ → Type 0) (old mid new : D) (list later : List (List ℕ)) → later ≡ list
    → LeavesOnly moment left_since old mid (Keeps list) → LeavesOnly moment left_since mid new (Keeps later) → LeavesOnly moment left_since old new (Keeps list)
cut_and_closed moment left_since old mid new list later same first second =
    joined moment left_since old mid new (Keeps list) (Keeps later) (Keeps list) first second (λ image keeps. keeps)
    (λ image keeps. subst (λ (l : List (List ℕ)). Keeps l image) same keeps)
