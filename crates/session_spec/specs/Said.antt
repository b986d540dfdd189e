-- What the lines of a script are answered, apart from the bytes that say so, and those bytes.
use Rattle.std.specs.Prelude.{ℕ, ◌+◌, ◌≤◌, List, [], ◌∷◌, ◌++◌, count_by, filter_map, Bool, true, false, ◌==◌, Option, Some, None, if◌then◌else◌}
use Rattle.dnr_base.specs.declared.rule_name.RuleName.{RuleName}
use Rattle.rule_spec.specs.Scan.{Verdict}
use Rattle.explain_spec.specs.Explanation.{Explanation}
use Rattle.follow_spec.specs.Trace.{Trace}
use Rattle.update_spec.specs.declared.refusal.Refusal.{Refusal}
use Rattle.line_spec.specs.declared.line_fault.LineFault.{LineFault}
use Rattle.session_spec.specs.Output.{verdict_line, explain_line, trace_line, fault_line, hop_fault_line, accepted_line, sync_line, refused_line, refused_batch_line, bad_line}

-- The answer to a request: its verdict, why it has that, or that the pattern host failed at this rule; where it leads, or
-- that the host failed at this rule on the way, at this hop.
pub data Answer : Type 0 where
  decided : Verdict → Answer
  explained : Explanation → Answer
  failed : RuleName → Answer
  traced : Trace → Answer
  failed_at : ℕ → RuleName → Answer

-- What a line says. A blank one says nothing. An update is accepted with the count after it, or refused, in a batch with
-- the place of the update that is at fault; a `sync` says the count. A line that can't be read is a bad one, and says so in
-- the same way where the host failed at one of its patterns. A request is answered by a seat, on the state after so many accepted updates.
pub data Said : Type 0 where
  nothing : Said
  accepted : ℕ → Said
  synced : ℕ → Said
  refused : Refusal → Said
  refused_in_batch : ℕ → Refusal → Said
  bad : LineFault → Said
  stopped : LineFault → Said
  answered : ℕ → ℕ → Answer → Said

-- ---- bytes

abbrev pub answer_line : ℕ → ℕ → Answer → List ℕ
answer_line line number (decided verdict) = verdict_line line number verdict
answer_line line number (explained explanation) = explain_line line number explanation
answer_line line number (failed rule) = fault_line line number rule
answer_line line number (traced trace) = trace_line line trace
answer_line line number (failed_at hop rule) = hop_fault_line line hop rule

-- what the line of this number prints
abbrev pub said_line : ℕ → Said → List ℕ
said_line line nothing = []
said_line line (accepted count) = accepted_line line count
said_line line (synced count) = sync_line line count
said_line line (refused why) = refused_line line why
said_line line (refused_in_batch place why) = refused_batch_line line place why
said_line line (bad why) = bad_line line why
said_line line (stopped why) = bad_line line why
said_line line (answered seat number answer) = answer_line line number answer

-- what lines print, the first of which has this number
abbrev pub lines_text : ℕ → List Said → List ℕ
lines_text line [] = []
lines_text line (told ∷ later) = said_line line told ++ lines_text (line + 1) later

-- ---- what is counted

-- the number of an answer of this seat
abbrev pub number_by : ℕ → Said → Option ℕ
number_by seat (answered by number answer) = if by == seat then Some number else None
number_by seat nothing = None
number_by seat (accepted count) = None
number_by seat (synced count) = None
number_by seat (refused why) = None
number_by seat (refused_in_batch place why) = None
number_by seat (bad why) = None
number_by seat (stopped why) = None

-- the numbers of a seat's answers, in order
abbrev pub numbers_by : ℕ → List Said → List ℕ
numbers_by seat said = filter_map (number_by seat) said

-- each is at least the one before it, and the first at least this
abbrev pub NeverFallFrom : ℕ → List ℕ → Type 0
NeverFallFrom least [] = Unit {0}
NeverFallFrom least (number ∷ later) = (least ≤ number) × NeverFallFrom number later

abbrev pub NeverFall : List ℕ → Type 0
NeverFall numbers = NeverFallFrom 0 numbers

abbrev pub is_failed : Answer → Bool
is_failed (decided verdict) = false
is_failed (explained explanation) = false
is_failed (failed rule) = true
is_failed (traced trace) = false
is_failed (failed_at hop rule) = true

-- this seat's host failed
abbrev pub fails_at : ℕ → Said → Bool
fails_at seat (answered by number answer) = if by == seat then is_failed answer else false
fails_at seat nothing = false
fails_at seat (accepted count) = false
fails_at seat (synced count) = false
fails_at seat (refused why) = false
fails_at seat (refused_in_batch place why) = false
fails_at seat (bad why) = false
fails_at seat (stopped why) = false

-- the host that reads lines failed
abbrev pub is_stopped : Said → Bool
is_stopped nothing = false
is_stopped (accepted count) = false
is_stopped (synced count) = false
is_stopped (refused why) = false
is_stopped (refused_in_batch place why) = false
is_stopped (bad why) = false
is_stopped (stopped why) = true
is_stopped (answered seat number answer) = false

abbrev pub count_failed : ℕ → List Said → ℕ
count_failed seat said = count_by (fails_at seat) said

abbrev pub count_stopped : List Said → ℕ
count_stopped said = count_by is_stopped said
