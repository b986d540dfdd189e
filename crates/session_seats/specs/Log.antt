-- Answers that stand in one text.
use Rattle.std.specs.Prelude.{ℕ, ◌+◌, ◌<◌, ◌≤◌, List, length, map, take, drop, slice_index_or}
use Rattle.session_seats.specs.declared.answer_log.Mark.{Mark}
use Rattle.session_seats.specs.Said.{Said}

abbrev pub said_in : List ℕ → Mark → Said
said_in text mark = record { place = mark.place; number = mark.number; failed = mark.failed; text = take mark.len (drop mark.start text) }

abbrev pub all_said : List ℕ → List Mark → List Said
all_said text marks = map (said_in text) marks

-- each stands within the text
abbrev pub AreKept : List ℕ → List Mark → Type 0
AreKept text marks = (k : ℕ) (mark : Mark) → k < length marks → (slice_index_or marks k mark).start + (slice_index_or marks k mark).len ≤ length text
