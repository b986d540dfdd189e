-- Where the records of a list end.
use Rattle.std.proofs.Common.{◌≡◌, ℕ, ◌+◌, ◌≤◌, max, List, [], ◌∷◌, ◌++◌, length, take, drop, sym, ◌∙◌, ap, arith, length-take, length-drop, length-append}
use Rattle.std.proofs.lemmas.List.{take-take, take_at, drop_at}
use Rattle.keep_disk.specs.Images.{written}
use Rattle.keep_records.specs.Records.{span}

pub span_push : (list : List (List ℕ)) (payload : List ℕ) → span (list ++ payload ∷ []) ≡ span list + 5 + length payload
span_push [] payload = omega arith
span_push (first ∷ list) payload = omega (arith, span_push list payload)

pub take_fewer : (m n : ℕ) (xs ys : List ℕ) → m ≤ n → take n xs ≡ take n ys → take m xs ≡ take m ys
take_fewer m n xs ys le same = sym (take-take m n xs le) ∙ ap (λ (l : List ℕ). take m l) same ∙ take-take m n ys le

length-front : (at : ℕ) (file : List ℕ) → at ≤ length file → length (take at file) ≡ at
length-front at file le = omega (arith, length-take at file)

-- the parts of a file that was written to
pub written_front : (at : ℕ) (bytes file : List ℕ) → at ≤ length file → take at (written at bytes file) ≡ take at file
written_front at bytes file le = take_at (take at file) (bytes ++ drop (at + length bytes) file) at (length-front at file le)

pub written_back : (at : ℕ) (bytes file : List ℕ) → at ≤ length file → drop at (written at bytes file) ≡ bytes ++ drop (at + length bytes) file
written_back at bytes file le = drop_at (take at file) (bytes ++ drop (at + length bytes) file) at (length-front at file le)

pub length-written : (at : ℕ) (bytes file : List ℕ) → at ≤ length file → length (written at bytes file) ≡ max (length file) (at + length bytes)
length-written at bytes file le =
    omega (
      arith,
      length-append (take at file) (bytes ++ drop (at + length bytes) file),
      length-append bytes (drop (at + length bytes) file),
      length-front at file le,
      length-drop (at + length bytes) file,
    )
