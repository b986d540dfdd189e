-- What a crash leaves while the end of a file is mended.
use Rattle.std.proofs.Common.{◌≡◌, inl, inr, ℕ, ◌+◌, ◌-◌, ◌<◌, ◌≤◌, max, true, false, List, [], ◌∷◌, length, take, drop, get_or, sym, ◌∙◌, ap, arith, length-take, length-drop}
use Rattle.std.proofs.lemmas.Bool.{cases_Bool, cases_lt}
use Rattle.std.proofs.lemmas.List.{take-take, drop-take, get_or-take, get_or-drop}
use Rattle.keep_disk.specs.Images.{written, Torn, Shortened}
use Rattle.keep_records.specs.Records.{number_of, size_of, stands, payloads, span, end_of}
use Rattle.keep_records.proofs.Steps.{standing, to_stand, too_short}
use Rattle.keep_records.proofs.Fronts.{ended}
use Rattle.keep_records.proofs.Gates.{same_payloads}
use Rattle.keep_records.specs.Ends.{max_file}
use Rattle.keep_records.specs.Ends.{Has}
use Rattle.keep_records.proofs.Listed.{written_front, written_back, length-written}

-- where a record stands in the front of some bytes, it stands in them
stands_longer : (n : ℕ) (bytes : List ℕ) → stands (take n bytes) ≡ true → stands bytes ≡ true
stands_longer n bytes is =
    let s = standing (take n bytes) is in
    let long : 6 ≤ n = omega (arith, s.some, s.room, length-take n bytes) in
    let gate : get_or (take n bytes) 0 0 ≡ get_or bytes 0 0 = get_or-take n bytes 0 0 (omega (arith, long)) in
    let head : take 5 (take n bytes) ≡ take 5 bytes = take-take 5 n bytes (omega (arith, long)) in
    let number : take 4 (drop 1 (take n bytes)) ≡ take 4 (drop 1 bytes) =
    sym (drop-take 1 4 (take n bytes)) ∙ ap (λ (l : List ℕ). drop 1 l) head ∙ drop-take 1 4 bytes in
    let size : size_of (take n bytes) ≡ size_of bytes = ap number_of number in
    to_stand bytes (record {
      gate = sym gate ∙ s.gate;
      some = omega (arith, size, s.some);
      room = omega (arith, size, s.room, length-take n bytes);
    })

shut_front : (n : ℕ) (bytes : List ℕ) → stands bytes ≡ false → stands (take n bytes) ≡ false
shut_front n bytes shut = elim (cases_Bool (stands (take n bytes))) [
  | inl is ↦ absurd (cc (stands_longer n bytes is, shut))
  | inr not_there ↦ not_there
]

module _ (file : List ℕ) where
  abbrev pub place : ℕ
  place = end_of file

  -- a front of the file that reaches past the place where its records end
  front_same : (n : ℕ) → place < n → place < length file → payloads (take n file) ≡ payloads file
  front_same n past long =
      let rest = n - place in
      let count : place + rest ≡ n = omega (arith, past) in
      let behind : drop place (take n file) ≡ take rest (drop place file) =
      ap (λ (k : ℕ). drop place (take k file)) (sym count) ∙ drop-take place rest file in
      same_payloads file (take n file) (record {
        front = take-take place n file (omega (arith, past));
        room = λ some. omega (arith, length-take n file, past, long);
      }) (ap stands behind ∙ shut_front rest (drop place file) (ended file).shut)

  pub shortened_same : (image : List ℕ) → place + 1 < length file → Shortened (place + 1) file image → payloads image ≡ payloads file
  shortened_same image longer cut =
      ap payloads cut.front ∙ front_same (length image) (omega (arith, cut.no_shorter, longer)) (omega (arith, longer))

  pub cut_same : place + 1 < length file → payloads (take (place + 1) file) ≡ payloads file
  cut_same longer = front_same (place + 1) (omega arith) (omega (arith, longer))

  -- where the file ends at that place or one byte behind it, any byte there leaves the list
  pub torn_same : (image : List ℕ) → length file ≤ place + 1 → Torn place 1 file image → payloads image ≡ payloads file
  torn_same image short torn =
      same_payloads file image (record {
        front = torn.before;
        room = λ some. let there : place < length file = (ended file).room some in omega (arith, there, torn.no_shorter);
      }) (too_short (drop place image) (omega (arith, length-drop place image, torn.no_longer, short)))

  pub within : place ≤ length file
  within = elim (cases_lt 0 place) [
    | inl some ↦ let there : place < length file = (ended file).room some in omega (arith, there)
    | inr none ↦ omega (arith, none)
  ]

  pub end_fits : length file ≤ max_file → place + 1 ≤ max_file
  end_fits short = elim (cases_lt 0 place) [
    | inl some ↦ let there : place < length file = (ended file).room some in omega (arith, there, short)
    | inr none ↦ omega (arith, none)
  ]

  pub written_same : length file ≤ place + 1 → place + 1 ≤ max_file → Has (payloads file) place (written place (0 ∷ []) file)
  written_same short fits =
      let new = written place (0 ∷ []) file in
      let long : length new ≡ max (length file) (place + 1) = length-written place (0 ∷ []) file within in
      let front : take place new ≡ take place file = written_front place (0 ∷ []) file within in
      let back : drop place new ≡ 0 ∷ drop (place + 1) file = written_back place (0 ∷ []) file within in
      let same : payloads new ≡ payloads file = same_payloads file new (record { front = front; room = λ some. omega (arith, long) })
      (too_short (drop place new) (omega (arith, length-drop place new, long, short))) in
      let plus : place ≡ place + 0 = omega arith in
      let gate : get_or new place 0 ≡ 0 =
      ap (λ (n : ℕ). get_or new n 0) plus ∙ sym (get_or-drop place new 0 0) ∙ ap (λ (l : List ℕ). get_or l 0 0) back in
      record {
        list_is = same;
        short = omega (arith, long, short, fits);
        place_is = ap span same;
        there = omega (arith, long);
        closed = gate;
      }
