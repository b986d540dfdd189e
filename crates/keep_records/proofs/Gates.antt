-- A gate byte that is closed, and one that is opened.
use Rattle.std.proofs.Common.{◌≡◌, ℕ, ◌+◌, ◌^◌, ◌<◌, true, false, List, ◌∷◌, ◌++◌, length, take, drop, refl, sym, ◌∙◌, ap, arith, length-append}
use Rattle.std.proofs.lemmas.List.{append-nil, take_at, drop_at, drop-drop}
use Rattle.std.proofs.lemmas.Nat.{from_be_bytes-to_be_bytes_4}
use Rattle.keep_records.specs.Records.{number_of, number_bytes, size_of, stands, payload_of, payloads, end_of}
use Rattle.keep_records.proofs.Steps.{to_stand, none, first_and_rest}
use Rattle.keep_records.proofs.Fronts.{Begins, prefixed}

pub length-number_bytes : (n : ℕ) → length (number_bytes n) ≡ 4
unfolding number_bytes
length-number_bytes n = refl

pub number_read : (n : ℕ) → n < 2 ^ 32 → number_of (number_bytes n) ≡ n
unfolding number_of number_bytes
number_read n fits = from_be_bytes-to_be_bytes_4 n fits

-- where no record stands behind those of a file, an image has its payloads alone
pub same_payloads : (file image : List ℕ) → Begins file image → stands (drop (end_of file) image) ≡ false → payloads image ≡ payloads file
same_payloads file image begins shut =
    prefixed file image begins ∙ ap (λ (l : List (List ℕ)). payloads file ++ l) (none (drop (end_of file) image) shut) ∙ append-nil (payloads file)

-- an open gate, a payload and the next gate
abbrev pub opened : List ℕ → List ℕ → List ℕ
opened payload rest = 1 ∷ (number_bytes (length payload) ++ (payload ++ rest))

module _ (payload rest : List ℕ) (some : 0 < length payload) (fits : length payload < 2 ^ 32) where
  size_opened : size_of (opened payload rest) ≡ length payload
  size_opened =
      ap number_of (take_at (number_bytes (length payload)) (payload ++ rest) 4 (length-number_bytes (length payload)))
      ∙ number_read (length payload) fits

  after_size : drop 4 (number_bytes (length payload) ++ (payload ++ rest)) ≡ payload ++ rest
  after_size = drop_at (number_bytes (length payload)) (payload ++ rest) 4 (length-number_bytes (length payload))

  length-opened : length (opened payload rest) ≡ 5 + length payload + length rest
  length-opened =
      omega (arith, length-append (number_bytes (length payload)) (payload ++ rest), length-append payload rest, length-number_bytes (length payload))

  pub stands_opened : 0 < length rest → stands (opened payload rest) ≡ true
  stands_opened gate = to_stand (opened payload rest) (record {
    gate = refl;
    some = omega (arith, size_opened, some);
    room = omega (arith, size_opened, length-opened, gate);
  })

  payload_opened : payload_of (opened payload rest) ≡ payload
  payload_opened =
      ap (λ (n : ℕ). take n (drop 5 (opened payload rest))) size_opened
      ∙ ap (λ (l : List ℕ). take (length payload) l) after_size
      ∙ take_at payload rest (length payload) refl

  rest_opened : drop (size_of (opened payload rest) + 5) (opened payload rest) ≡ rest
  rest_opened =
      let count : length payload + 5 ≡ 5 + length payload = omega arith in
      ap (λ (n : ℕ). drop (n + 5) (opened payload rest)) size_opened
      ∙ ap (λ (n : ℕ). drop n (opened payload rest)) count
      ∙ sym (drop-drop (length payload) 5 (opened payload rest))
      ∙ ap (λ (l : List ℕ). drop (length payload) l) after_size
      ∙ drop_at payload rest (length payload) refl

  pub payloads_opened : 0 < length rest → payloads (opened payload rest) ≡ payload ∷ payloads rest
  payloads_opened gate =
      first_and_rest (opened payload rest) (stands_opened gate)
      ∙ ap (λ (p : List ℕ). p ∷ payloads (drop (size_of (opened payload rest) + 5) (opened payload rest))) payload_opened
      ∙ ap (λ (l : List ℕ). payload ∷ payloads l) rest_opened
