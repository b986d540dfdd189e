-- A file and an image with the same bytes up to where the records of the file end.
use Rattle.std.proofs.Common.{◌≡◌, inl, inr, ℕ, zero, suc, ◌+◌, ◌-◌, ◌<◌, ◌≤◌, true, false, List, ◌∷◌, ◌++◌, length, take, drop, get_or, sym, ◌∙◌, ap, arith, length-drop}
use Rattle.std.proofs.lemmas.Bool.{cases_Bool}
use Rattle.std.proofs.lemmas.List.{take-take, drop-take, drop-drop, get_or-take}
use Rattle.keep_records.specs.Records.{number_of, size_of, stands, payload_of, payloads, end_of}
use Rattle.keep_records.proofs.Steps.{Standing, standing, to_stand, none, first_and_rest, end_is, ends_here}

-- where the records of a file end, none stands, and the gate byte is there if there were any
pub record Ended (file : List ℕ) : Type 0 where
  pub shut : stands (drop (end_of file) file) ≡ false
  pub room : 0 < end_of file → end_of file < length file

within : (e k l : ℕ) → k < l → (0 < e → e < l - k) → k + e < l
within zero k l lt room = omega arith
within (suc e) k l lt room =
    let long : suc e < l - k = room (omega arith) in
    omega (arith, long)

ended_step : (file : List ℕ) → stands file ≡ true → Ended (drop (size_of file + 5) file) → Ended file
ended_step file is rest =
    let k = size_of file + 5 in
    let s = standing file is in
    let e = end_of (drop k file) in
    let same : drop e (drop k file) ≡ drop (end_of file) file =
    drop-drop e k file ∙ ap (λ (n : ℕ). drop n file) (sym (end_is file is)) in
    let long = length-drop k file in
    let inside : k + e < length file =
    within e k (length file) s.room (λ some. let there : e < length (drop k file) = rest.room some in omega (arith, there, long)) in
    record {
      shut = ap stands (sym same) ∙ rest.shut;
      room = λ some. omega (arith, end_is file is, inside);
    }

ended_shut : (file : List ℕ) → stands file ≡ false → Ended file
ended_shut file shut = record {
  shut = ap (λ (n : ℕ). stands (drop n file)) (ends_here file shut) ∙ shut;
  room = λ some. absurd (omega (arith, some, ends_here file shut));
}

ended_n : (n : ℕ) (file : List ℕ) → length file ≤ n → Ended file
ended_n zero file short = elim (cases_Bool (stands file)) [
  | inl is ↦ absurd (omega (arith, (standing file is).room, short))
  | inr shut ↦ ended_shut file shut
]
ended_n (suc n) file short = elim (cases_Bool (stands file)) [
  | inl is ↦ ended_step file is (ended_n n (drop (size_of file + 5) file) (omega (arith, length-drop (size_of file + 5) file, (standing file is).room, short)))
  | inr shut ↦ ended_shut file shut
]

pub ended : (file : List ℕ) → Ended file
ended file = ended_n (length file) file (omega arith)

-- an image begins with the records of a file, and has the gate byte behind them if there are any
pub record Begins (file image : List ℕ) : Type 0 where
  pub front : take (end_of file) image ≡ take (end_of file) file
  pub room : 0 < end_of file → end_of file < length image

-- the first record of such an image is that of the file
record SameFirst (file image : List ℕ) : Type 0 where
  is : stands image ≡ true
  size : size_of image ≡ size_of file
  payload : payload_of image ≡ payload_of file

take_fewer : (m n : ℕ) (xs ys : List ℕ) → m ≤ n → take n xs ≡ take n ys → take m xs ≡ take m ys
take_fewer m n xs ys le same = sym (take-take m n xs le) ∙ ap (λ (l : List ℕ). take m l) same ∙ take-take m n ys le

inner : (a m n : ℕ) (xs ys : List ℕ) → a + m ≤ n → take n xs ≡ take n ys → take m (drop a xs) ≡ take m (drop a ys)
inner a m n xs ys le same =
    sym (drop-take a m xs) ∙ ap (λ (l : List ℕ). drop a l) (take_fewer (a + m) n xs ys le same) ∙ drop-take a m ys

same_first : (k : ℕ) (file image : List ℕ) → Standing file → size_of file + 5 ≤ k → take k image ≡ take k file → k < length image → SameFirst file image
same_first k file image s le same room =
    let gate : get_or image 0 0 ≡ get_or file 0 0 =
    sym (get_or-take k image 0 0 (omega (arith, le))) ∙ ap (λ (l : List ℕ). get_or l 0 0) same ∙ get_or-take k file 0 0 (omega (arith, le)) in
    let size : size_of image ≡ size_of file = ap number_of (inner 1 4 k image file (omega (arith, le)) same) in
    let payload : payload_of image ≡ payload_of file =
    ap (λ (n : ℕ). take n (drop 5 image)) size ∙ inner 5 (size_of file) k image file (omega (arith, le)) same in
    record {
      is = to_stand image (record { gate = gate ∙ s.gate; some = omega (arith, size, s.some); room = omega (arith, size, le, room) });
      size = size;
      payload = payload;
    }

abbrev Prefixed : List ℕ → List ℕ → Type 0
Prefixed file image = payloads image ≡ payloads file ++ payloads (drop (end_of file) image)

prefix_shut : (file image : List ℕ) → stands file ≡ false → Prefixed file image
prefix_shut file image shut =
    ap (λ (n : ℕ). payloads (drop n image)) (sym (ends_here file shut))
    ∙ ap (λ (l : List (List ℕ)). l ++ payloads (drop (end_of file) image)) (sym (none file shut))

begins_rest : (file image : List ℕ) → stands file ≡ true → Begins file image → Begins (drop (size_of file + 5) file) (drop (size_of file + 5) image)
begins_rest file image is begins =
    let k = size_of file + 5 in
    let e = end_of (drop k file) in
    let end = end_is file is in
    let long : end_of file < length image = begins.room (omega (arith, end)) in
    record {
      front = inner k e (end_of file) image file (omega (arith, end)) begins.front;
      room = λ some. omega (arith, length-drop k image, end, long);
    }

prefix_step : (file image : List ℕ) → stands file ≡ true → Begins file image → Prefixed (drop (size_of file + 5) file) (drop (size_of file + 5) image) → Prefixed file image
prefix_step file image is begins rest =
    let k = size_of file + 5 in
    let e = end_of (drop k file) in
    let s = standing file is in
    let end = end_is file is in
    let long : end_of file < length image = begins.room (omega (arith, end)) in
    let first = same_first (end_of file) file image s (omega (arith, end)) begins.front long in
    let later : drop e (drop k image) ≡ drop (end_of file) image = drop-drop e k image ∙ ap (λ (n : ℕ). drop n image) (sym end) in
    first_and_rest image first.is
    ∙ ap (λ (p : List ℕ). p ∷ payloads (drop (size_of image + 5) image)) first.payload
    ∙ ap (λ (n : ℕ). payload_of file ∷ payloads (drop (n + 5) image)) first.size
    ∙ ap (λ (l : List (List ℕ)). payload_of file ∷ l) (rest ∙ ap (λ (l : List ℕ). payloads (drop k file) ++ payloads l) later)
    ∙ ap (λ (l : List (List ℕ)). l ++ payloads (drop (end_of file) image)) (sym (first_and_rest file is))

prefix_n : (n : ℕ) (file image : List ℕ) → length file ≤ n → Begins file image → Prefixed file image
prefix_n zero file image short begins = elim (cases_Bool (stands file)) [
  | inl is ↦ absurd (omega (arith, (standing file is).room, short))
  | inr shut ↦ prefix_shut file image shut
]
prefix_n (suc n) file image short begins = elim (cases_Bool (stands file)) [
  | inl is ↦ prefix_step file image is begins (prefix_n n (drop (size_of file + 5) file) (drop (size_of file + 5) image) (omega (arith, length-drop (size_of file + 5) file, (standing file is).room, short)) (begins_rest file image is begins))
  | inr shut ↦ prefix_shut file image shut
]

-- its payloads are those of the file, and then those behind the place where the file's records end
pub prefixed : (file image : List ℕ) → Begins file image → payloads image ≡ payloads file ++ payloads (drop (end_of file) image)
prefixed file image begins = prefix_n (length file) file image (omega arith) begins
