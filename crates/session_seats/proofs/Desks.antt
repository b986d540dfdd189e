-- What a seat has answered, with one answer more, and a round, with one line more.
use Rattle.std.proofs.Common.{◌≡◌, ◌<◌, ◌≤◌, ◌+◌, ◌-◌, ◌^◌, ℕ, List, [], ◌∷◌, ◌++◌, length, get_or, Bool, true, false, cond, nat_le, min, Option, Some, refl, sym, ap, ◌∙◌, subst, arith, All, suc, append-nil, append_assoc, add-zero, zero-add}
use Rattle.std.specs.Prelude.{IsTrue, IsFalse, ◌||◌}
use Rattle.std.proofs.lemmas.Bool.{or_parts, leb-false}
use Rattle.std.proofs.lemmas.List.{length_push, length-map}
use Rattle.std.proofs.lemmas.List.Elements.{All-nil, All-push, All-same, All-contains}
use mathlib.Core.List.{IsPrefix}
use Rattle.generation.specs.Basis.{Basis}
use Rattle.published.proofs.Beginnings.{begins_itself}
use Rattle.published.specs.Pass.{PassSeen, IsBehind}
use Rattle.session_spec.specs.Rounds.{Held, asks, is_full, is_sync}
use Rattle.session_rounds.specs.Lines.{read_seen}
use Rattle.session_rounds.specs.declared.read_line.ReadLine.{ReadLine}
use Rattle.update_spec.specs.Entries.{Entry}
use Rattle.session_seats.specs.Reading.{IsTaken, ReadRound, asked_in, dealt_at, dealt_from, held_with, is_dealt, seen_line, seen_lines}
use Rattle.session_seats.specs.declared.round_line.RoundLine.{RoundLine}
use Rattle.session_seats.specs.Seats.{Answers, DeskSeen, HasAnswered, HasPassedOver, HasReadOver, IsUntold, seen_of}
use Rattle.session_seats.specs.Said.{Said}
use Rattle.session_seats.specs.Told.{SaysMore}
use Rattle.session_seats.proofs.Seats.{all_further, answers_line}
use Rattle.session_seats.proofs.Settled.{at_map}

-- a seat that has answered nothing
pub none_answered : (opening : Basis) (reads : List ReadLine) (desk : DeskSeen) → desk.answers ≡ [] → HasAnswered opening reads desk
none_answered opening reads desk none = subst (All (Answers opening reads (seen_of desk.pass))) (sym none) (All-nil (Answers opening reads (seen_of desk.pass)))

-- one answer more
pub one_kept : (opening : Basis) (reads : List ReadLine) (seen : List Entry) (before now : List Said) (said : Said) → now ≡ before ++ said ∷ [] → Answers opening reads seen said → All (Answers opening reads seen) before
    → All (Answers opening reads seen) now
one_kept opening reads seen before now said more answers all = subst (All (Answers opening reads seen)) (sym more) (All-push (Answers opening reads seen) before said all answers)

-- what the line at this place is answered was kept
pub more_kept : (opening : Basis) (reads : List ReadLine) (place : ℕ) (line : ReadLine) (seen : List Entry) (before now : List Said) → place < length reads → line ≡ get_or reads place line
    → SaysMore opening place line.number (read_seen line.read) seen before now → All (Answers opening reads seen) before → All (Answers opening reads seen) now
more_kept opening reads place line seen before now inside there more all = one_kept opening reads seen before now more.said more.more (answers_line opening reads seen place line more.said inside there more.says) all

-- what was answered stays so where a line is passed over
pub passed_on : (opening : Basis) (reads : List ReadLine) (place : ℕ) (before now : DeskSeen) → HasPassedOver place before now → HasAnswered opening reads before → HasAnswered opening reads now
passed_on opening reads place before now over all = subst (λ (desk : DeskSeen). HasAnswered opening reads desk) (sym over.rest) all

pub read_on : (opening : Basis) (reads : List ReadLine) (asks : Bool) (before now : DeskSeen) → HasReadOver asks before now → HasAnswered opening reads before → HasAnswered opening reads now
read_on opening reads asks before now over all = subst (λ (desk : DeskSeen). HasAnswered opening reads desk) (sym over.rest) all

-- what was answered stays answered as the pass sees more
pub kept_on : (opening : Basis) (reads : List ReadLine) (pass : Option PassSeen) (was now : PassSeen) (said : List Said) → pass ≡ Some was → IsPrefix was.seen now.seen
    → All (Answers opening reads (seen_of pass)) said → All (Answers opening reads now.seen) said
kept_on opening reads pass was now said is later all =
    all_further opening reads (seen_of pass) now.seen said (subst (λ (p : Option PassSeen). IsPrefix (seen_of p) now.seen) (sym is) later) all

-- a pass that may have learnt goes on from what it had seen
goes_on : (old new : List Entry) (learnt : Bool) → (IsTrue learnt → IsPrefix old new) → (IsFalse learnt → new ≡ old) → IsPrefix old new
goes_on old new true later same = later refl
goes_on old new false later same = subst (λ (list : List Entry). IsPrefix old list) (sym (same refl)) (begins_itself old)

pub learns_on : (view pass : Option PassSeen) (was now : PassSeen) (learnt : Bool) → pass ≡ view → pass ≡ Some was → (IsTrue learnt → IsPrefix was.seen now.seen) → (IsFalse learnt → now.seen ≡ was.seen)
    → IsPrefix (seen_of view) now.seen
learns_on view pass was now learnt same is later still =
    subst (λ (p : Option PassSeen). IsPrefix (seen_of p) now.seen) (sym is ∙ same) (goes_on was.seen now.seen learnt later still)

-- a pass that does not learn tells why
pub untold_of : (view pass : Option PassSeen) (was now : PassSeen) (note : List Entry) → pass ≡ view → pass ≡ Some was → IsBehind was now note → IsUntold view (Some now) note
untold_of view pass was now note same is behind = subst (λ (p : Option PassSeen). IsUntold p (Some now) note) (sym is ∙ same) behind

-- the next turn of a seat is nearer to the end
pub turns_on : (count turn step next : ℕ) → turn < count → count < 2 ^ 64 → 0 < step → next ≡ min (turn + step) (2 ^ 64 - 1) → count - next < count - turn
turns_on count turn step next here fits some is = omega arith

-- ---- rounds

pub taken_at : (lines : List RoundLine) (place : ℕ) (line : RoundLine) → All IsTaken lines → place < length lines → line ≡ get_or lines place line → IsTaken line
taken_at lines place line all inside there = All-contains IsTaken lines line all (place, inside, sym there)

-- the line at a place of a round, as it reads
pub seen_there : (round : ReadRound) (lines : List RoundLine) (place : ℕ) (line : RoundLine) → lines ≡ round.lines → round.reads ≡ seen_lines round.lines → place < length lines → line ≡ get_or lines place line
    → (place < length round.reads) × (seen_line line ≡ get_or round.reads place (seen_line line))
seen_there round lines place line same seen inside there =
    let reads : round.reads ≡ seen_lines lines = seen ∙ ap seen_lines (sym same) in (
      omega (arith, inside, ap length reads, length-map lines seen_line),
      ap seen_line there ∙ sym (at_map seen_line lines place line) ∙ ap (λ (rs : List ReadLine). get_or rs place (seen_line line)) (sym reads),
    )

-- a round that is not full has room for one line more
room : (lines bytes : ℕ) → (nat_le 1024 lines || nat_le 8388608 bytes) ≡ false → (lines < 1024) × (bytes < 8388608)
room lines bytes space =
    let parts = or_parts (nat_le 1024 lines) (nat_le 8388608 bytes) space in (leb-false 1024 lines parts.0, leb-false 8388608 bytes parts.1)

pub has_room : (round view : ReadRound) → view ≡ round → is_full round.held ≡ false → (view.held.lines < 1024) × (view.held.bytes < 8388608)
has_room round view same space = room view.held.lines view.held.bytes (subst (λ (r : ReadRound). is_full r.held ≡ false) (sym same) space)

-- the places that are dealt, with one line more
pub dealt_more : (place : ℕ) (lines : List RoundLine) (line : RoundLine) → dealt_from place (lines ++ line ∷ []) ≡ dealt_from place lines ++ dealt_at (place + length lines) line
dealt_more place [] line = append-nil (dealt_at place line) ∙ ap (λ (n : ℕ). dealt_at n line) (sym (add-zero place))
dealt_more place (first ∷ lines) line =
    let next : place + 1 + length lines ≡ place + suc (length lines) = omega arith in
    ap (λ (l : List ℕ). dealt_at place first ++ l) (dealt_more (place + 1) lines line ∙ ap (λ (n : ℕ). dealt_from (place + 1) lines ++ dealt_at n line) next)
    ∙ sym (append_assoc (dealt_at place first) (dealt_from (place + 1) lines) (dealt_at (place + suc (length lines)) line))

pub dealt_on : (before now : List RoundLine) (line : RoundLine) (dealt grown : List ℕ) (place : ℕ) (is : Bool) → now ≡ before ++ line ∷ [] → dealt ≡ dealt_from 0 before → place ≡ length before → is ≡ is_dealt line
    → grown ≡ dealt ++ cond is (place ∷ []) [] → grown ≡ dealt_from 0 now
dealt_on before now line dealt grown place is longer same here tells grows =
    let behind : cond is (place ∷ []) [] ≡ dealt_at (0 + length before) line =
    ap (λ (b : Bool). cond b (place ∷ []) []) tells ∙ ap (λ (n : ℕ). dealt_at n line) (here ∙ sym (zero-add (length before))) in
    grows ∙ ap (λ (l : List ℕ). l ++ cond is (place ∷ []) []) same ∙ ap (λ (l : List ℕ). dealt_from 0 before ++ l) behind ∙ sym (dealt_more 0 before line) ∙ ap (dealt_from 0) (sym longer)

-- it keeps its bounds without the line and with it
abbrev pub IsBounded : List RoundLine → ℕ → Type 0
IsBounded lines bytes = (length lines ≤ 1024) × (bytes ≤ 16777215) × All IsTaken lines

pub stays_bounded : (before now : List RoundLine) (bytes more : ℕ) → now ≡ before → (length before < 1024) × (bytes < 8388608) → more ≤ 8388608 → All IsTaken before → IsBounded now (bytes + more)
stays_bounded before now bytes more same space short lines =
    subst (λ (list : List RoundLine). IsBounded list (bytes + more)) (sym same) (omega (arith, space.0), omega (arith, space.1, short), lines)

pub bounded_on : (before now : List RoundLine) (line : RoundLine) (bytes more : ℕ) → now ≡ before ++ line ∷ [] → (length before < 1024) × (bytes < 8388608) → more ≤ 8388608
    → IsTaken line → All IsTaken before → IsBounded now (bytes + more)
bounded_on before now line bytes more grown space short within lines =
    let longer : length now ≡ length before + 1 = ap length grown ∙ length_push before line in
    (omega (arith, space.0, longer), omega (arith, space.1, short), All-same IsTaken now (before ++ line ∷ []) grown (All-push IsTaken before line lines within))

pub asked_more : (lines : List ReadLine) (line : ReadLine) → asked_in (lines ++ line ∷ []) ≡ asked_in lines + asks (read_seen line.read)
asked_more [] line = omega arith
asked_more (first ∷ lines) line = omega (arith, asked_more lines line)

-- what a round holds with one line more
pub holds_line : (was now : Held) (line : ReadLine) (more : ℕ) → now.lines ≡ was.lines + 1 → now.bytes ≡ was.bytes + more → now.asked ≡ was.asked + asks (read_seen line.read) → now ≡ held_with was more line
holds_line was now line more lines bytes asked =
    let in_lines : ℕ → Held = λ (n : ℕ). record { lines = n; bytes = now.bytes; asked = now.asked } in
    let in_bytes : ℕ → Held = λ (n : ℕ). record { lines = was.lines + 1; bytes = n; asked = now.asked } in
    let in_asked : ℕ → Held = λ (n : ℕ). record { lines = was.lines + 1; bytes = was.bytes + more; asked = n } in
    ap in_lines lines ∙ ap in_bytes bytes ∙ ap in_asked asked

-- and whether it ends with it
pub ends_line : (was : Held) (line : ReadLine) (more lines : ℕ) (ends syncs : Bool) → ends ≡ (syncs || is_full (record { lines = lines; bytes = was.bytes + more; asked = 0 }))
    → syncs ≡ is_sync (read_seen line.read) → lines ≡ was.lines + 1 → ends ≡ (is_sync (read_seen line.read) || is_full (held_with was more line))
ends_line was line more lines ends syncs is same grown =
    is ∙ ap (λ (b : Bool). b || is_full (record { lines = lines; bytes = was.bytes + more; asked = 0 })) same
    ∙ ap (λ (n : ℕ). is_sync (read_seen line.read) || is_full (record { lines = n; bytes = was.bytes + more; asked = 0 })) grown
