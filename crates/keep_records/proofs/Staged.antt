-- What a crash leaves while a record is written behind a closed gate.
use Rattle.std.proofs.Common.{◌≡◌, ℕ, ◌+◌, ◌<◌, ◌≤◌, false, List, length, take, drop, get_or, sym, ◌∙◌, ap, subst, arith}
use Rattle.std.proofs.lemmas.List.{get_or-take, get_or-drop}
use Rattle.keep_disk.specs.Images.{Torn}
use Rattle.keep_records.specs.Records.{payloads, span, end_of, stands}
use Rattle.keep_records.proofs.Steps.{closed}
use Rattle.keep_records.proofs.Fronts.{Begins}
use Rattle.keep_records.proofs.Gates.{same_payloads}
use Rattle.keep_records.specs.Ends.{max_file}
use Rattle.keep_records.specs.Ends.{Has}
use Rattle.keep_records.proofs.Listed.{take_fewer}

-- an image with the bytes of another up to its end and the closed gate byte there begins with its records
pub begins_by : (place : ℕ) (old image : List ℕ) → end_of old ≡ place → take place image ≡ take place old → place < length image → Begins old image
begins_by place old image is front room = record {
  front = subst (λ (n : ℕ). take n image ≡ take n old) (sym is) front;
  room = λ some. omega (arith, is, room);
}

pub shut_at : (place : ℕ) (image : List ℕ) → get_or image place 0 ≡ 0 → stands (drop place image) ≡ false
shut_at place image is =
    let there : get_or (drop place image) 0 0 ≡ 0 = get_or-drop place image 0 0 ∙ ap (λ (n : ℕ). get_or image n 0) plus ∙ is in
    closed (drop place image) (λ one. omega (arith, one, there))
  where
    plus : place + 0 ≡ place
    plus = omega arith

-- the same bytes up to the closed gate byte and with it: the same list
pub same_front : (list : List (List ℕ)) (place : ℕ) (old image : List ℕ) → Has list place old → take (place + 1) image ≡ take (place + 1) old
    → place < length image → length image ≤ max_file → Has list place image
same_front list place old image has front room short =
    let gate : get_or image place 0 ≡ 0 =
    sym (get_or-take (place + 1) image place 0 (omega arith)) ∙ ap (λ (l : List ℕ). get_or l place 0) front
    ∙ get_or-take (place + 1) old place 0 (omega arith) ∙ has.closed in
    let begins = begins_by place old image has.place_is (take_fewer place (place + 1) image old (omega arith) front) room in
    let shut : stands (drop (end_of old) image) ≡ false =
    ap (λ (n : ℕ). stands (drop n image)) has.place_is ∙ shut_at place image gate in
    let same : payloads image ≡ payloads old = same_payloads old image begins shut in
    record {
      list_is = same ∙ has.list_is;
      short = short;
      place_is = ap span same ∙ has.place_is;
      there = room;
      closed = gate;
    }

pub staged : (list : List (List ℕ)) (place n : ℕ) (old image : List ℕ) → Has list place old → Torn (place + 1) n old image
    → place + 1 + n ≤ max_file → Has list place image
staged list place n old image has torn fits =
    same_front list place old image has torn.before (omega (arith, torn.no_shorter, has.there)) (omega (arith, torn.no_longer, has.short, fits))
