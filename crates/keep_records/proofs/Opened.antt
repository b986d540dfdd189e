-- What a crash leaves while the gate byte before a record is opened.
use Rattle.std.proofs.Common.{◌≡◌, ◌≢◌, inl, inr, ℕ, ◌+◌, ◌<◌, ◌≤◌, false, List, [], ◌∷◌, ◌++◌, length, take, drop, get_or, sym, ◌∙◌, ap, subst, arith, append_assoc, length-append, length-drop}
use Rattle.std.proofs.lemmas.Bool.{cases_eq}
use Rattle.std.proofs.lemmas.List.{drop_more, get_or-drop, get_or_at}
use Rattle.keep_disk.specs.Images.{written, Torn}
use Rattle.keep_records.specs.Records.{number_bytes, payloads, span, end_of, stands, behind_gate}
use Rattle.keep_records.proofs.Steps.{closed, none}
use Rattle.keep_records.proofs.Fronts.{prefixed}
use Rattle.keep_records.proofs.Gates.{length-number_bytes, payloads_opened, same_payloads}
use Rattle.keep_records.specs.Ends.{max_file}
use Rattle.keep_records.specs.Ends.{Has, IsBeforeOrAfter}
use Rattle.keep_records.proofs.Listed.{span_push, take_fewer, written_front, written_back, length-written}
use Rattle.keep_records.proofs.Staged.{begins_by}

pub length-behind_gate : (payload : List ℕ) → length (behind_gate payload) ≡ length payload + 5
length-behind_gate payload =
    omega (arith, length-append (number_bytes (length payload)) (payload ++ 0 ∷ []), length-append payload (0 ∷ []), length-number_bytes (length payload))

-- an image with a gate byte of any value before a whole record
record Gated (place : ℕ) (payload rest old : List ℕ) (gate : ℕ) (image : List ℕ) : Type 0 where
  front : take place image ≡ take place old
  back : drop place image ≡ gate ∷ (number_bytes (length payload) ++ (payload ++ 0 ∷ rest))

module _ (list : List (List ℕ)) (place : ℕ) (payload old : List ℕ) (has : Has list place old) (some : 0 < length payload)
    (fits : place + 6 + length payload ≤ max_file) where
  abbrev pub staged_file : List ℕ
  staged_file = written (place + 1) (behind_gate payload) old

  abbrev pub rest : List ℕ
  rest = drop (place + 1 + length (behind_gate payload)) old

  room : (gate : ℕ) (image : List ℕ) → Gated place payload rest old gate image → length image ≡ place + 6 + length payload + length rest
  room gate image gated =
      omega (
        arith,
        ap length gated.back,
        length-drop place image,
        length-append (number_bytes (length payload)) (payload ++ 0 ∷ rest),
        length-append payload (0 ∷ rest),
        length-number_bytes (length payload),
      )

  shut : (gate : ℕ) (image : List ℕ) → Gated place payload rest old gate image → gate ≢ 1 → payloads image ≡ list
  shut gate image gated is =
      let begins = begins_by place old image has.place_is gated.front (omega (arith, room gate image gated)) in
      let closed_there : stands (drop (end_of old) image) ≡ false =
      ap (λ (n : ℕ). stands (drop n image)) has.place_is ∙ ap stands gated.back ∙ closed (gate ∷ (number_bytes (length payload) ++ (payload ++ 0 ∷ rest))) is in
      same_payloads old image begins closed_there ∙ has.list_is

  one_more : (image : List ℕ) → Gated place payload rest old 1 image → payloads image ≡ list ++ payload ∷ []
  one_more image gated =
      let begins = begins_by place old image has.place_is gated.front (omega (arith, room 1 image gated)) in
      let behind : payloads (drop (end_of old) image) ≡ payload ∷ [] =
      ap (λ (n : ℕ). payloads (drop n image)) has.place_is ∙ ap payloads gated.back
      ∙ payloads_opened payload (0 ∷ rest) some (omega (arith, fits)) (omega arith)
      ∙ ap (λ (l : List (List ℕ)). payload ∷ l) (none (0 ∷ rest) (closed (0 ∷ rest) (λ one. omega (arith, one)))) in
      prefixed old image begins ∙ ap (λ (l : List (List ℕ)). payloads old ++ l) behind ∙ ap (λ (l : List (List ℕ)). l ++ payload ∷ []) has.list_is

  split : behind_gate payload ++ rest ≡ number_bytes (length payload) ++ (payload ++ 0 ∷ rest)
  split =
      append_assoc (number_bytes (length payload)) (payload ++ 0 ∷ []) rest
      ∙ ap (λ (l : List ℕ). number_bytes (length payload) ++ l) (append_assoc payload (0 ∷ []) rest)

  staged_back : drop (place + 1) staged_file ≡ number_bytes (length payload) ++ (payload ++ 0 ∷ rest)
  staged_back = written_back (place + 1) (behind_gate payload) old (omega (arith, has.there)) ∙ split

  staged_front : take place staged_file ≡ take place old
  staged_front =
      take_fewer place (place + 1) staged_file old (omega arith) (written_front (place + 1) (behind_gate payload) old (omega (arith, has.there)))

  length-staged : length staged_file ≤ max_file
  length-staged =
      omega (arith, length-written (place + 1) (behind_gate payload) old (omega (arith, has.there)), length-behind_gate payload, has.short, fits)

  staged_long : place + 6 + length payload ≤ length staged_file
  staged_long =
      omega (arith, length-written (place + 1) (behind_gate payload) old (omega (arith, has.there)), length-behind_gate payload)

  torn_gate : (image : List ℕ) → Torn place 1 staged_file image → Gated place payload rest old (get_or image place 0) image
  torn_gate image torn = record {
    front = torn.before ∙ staged_front;
    back = drop_more image place 0 (omega (arith, torn.no_shorter, staged_long))
        ∙ ap (λ (l : List ℕ). get_or image place 0 ∷ l) (torn.after ∙ staged_back);
  }

  pub torn_opened : (image : List ℕ) → Torn place 1 staged_file image → IsBeforeOrAfter list payload image
  torn_opened image torn =
      let gated = torn_gate image torn in
      let short : length image ≤ max_file = omega (arith, torn.no_longer, length-staged, staged_long) in
      elim (cases_eq (get_or image place 0) 1) [
        | inl is ↦ record {
          either = inr (one_more image (subst (λ (g : ℕ). Gated place payload rest old g image) is gated));
          short = short;
        }
        | inr not_one ↦ record { either = inl (shut (get_or image place 0) image gated not_one); short = short }
      ]

  abbrev pub final : List ℕ
  final = written place (1 ∷ []) staged_file

  final_gated : Gated place payload rest old 1 final
  final_gated = record {
    front = written_front place (1 ∷ []) staged_file (omega (arith, staged_long)) ∙ staged_front;
    back = written_back place (1 ∷ []) staged_file (omega (arith, staged_long)) ∙ ap (λ (l : List ℕ). 1 ∷ l) staged_back;
  }

  next_gate : get_or final (place + 5 + length payload) 0 ≡ 0
  next_gate =
      let number = number_bytes (length payload) in
      let count : place + 5 + length payload ≡ place + (5 + length payload) = omega arith in
      let joined : 1 ∷ (number ++ (payload ++ 0 ∷ rest)) ≡ (1 ∷ (number ++ payload)) ++ 0 ∷ rest =
      ap (λ (l : List ℕ). 1 ∷ l) (sym (append_assoc number payload (0 ∷ rest))) in
      ap (λ (n : ℕ). get_or final n 0) count
      ∙ sym (get_or-drop place final (5 + length payload) 0)
      ∙ ap (λ (l : List ℕ). get_or l (5 + length payload) 0) (final_gated.back ∙ joined)
      ∙ get_or_at (1 ∷ (number ++ payload)) 0 rest 0 (5 + length payload) (omega (arith, length-append number payload, length-number_bytes (length payload)))

  pub written_opened : Has (list ++ payload ∷ []) (place + 5 + length payload) final
  written_opened =
      let long = room 1 final final_gated in
      let list_is = one_more final final_gated in
      record {
        list_is = list_is;
        short = omega (arith, length-written place (1 ∷ []) staged_file (omega (arith, staged_long)), length-staged, staged_long);
        place_is = omega (arith, ap span list_is, span_push list payload, ap span has.list_is, has.place_is);
        there = omega (arith, long);
        closed = next_gate;
      }
