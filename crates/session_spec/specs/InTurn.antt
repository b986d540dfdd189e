-- A session that answers its lines one after another, each on the state that the earlier ones leave, where no host
-- fails: one of the sessions that are allowed.
use Rattle.std.specs.Prelude.{ℕ, ◌+◌, ◌%◌, List, [], ◌∷◌, Bool, true, false, Option, Some, None, Result, Ok, Err}
use Rattle.dnr_base.specs.declared.request.Request.{Request}
use Rattle.dnr_spec.specs.Suffixes.{SuffixRule}
use Rattle.rule_spec.specs.Scan.{scan}
use Rattle.rule_spec.specs.State.{State}
use Rattle.explain_spec.specs.Explanation.{explanation_of}
use Rattle.follow_spec.specs.Trace.{trace}
use Rattle.update_spec.specs.declared.refusal.Refusal.{Refusal}
use Rattle.update_spec.specs.Entries.{Entry, one, batch as together, judge, after}
use Rattle.line_spec.specs.declared.command_path.CommandPath.TheVariants.{Cmd}
use Rattle.line_spec.specs.declared.line_fault.LineFault.{LineFault}
use Rattle.line_spec.specs.declared.line_fault.LineFault.TheVariants.{BadCommand}
use Rattle.line_spec.specs.Line.{Command, blank, sync, request, explain, update, batch, command_of}
use Rattle.session_spec.specs.Answers.{Setting, known_with, said_refused}
use Rattle.session_spec.specs.Rounds.{asks}
use Rattle.session_spec.specs.Said.{Answer, decided, explained, traced, Said, nothing, accepted, synced, bad, answered}

abbrev pub said_by : State → Entry → Option (ℕ × Refusal) → Said
said_by now entry None = accepted (after now entry).count
said_by now entry (Some at) = said_refused entry at

abbrev pub left_by : State → Entry → Option (ℕ × Refusal) → State
left_by now entry None = after now entry
left_by now entry (Some at) = now

-- the answer to a request, where requests are followed or not
abbrev pub answer_in_turn : Bool → List SuffixRule → State → Request → Answer
answer_in_turn true suffixes now r = traced (trace suffixes now r)
answer_in_turn false suffixes now r = decided (scan suffixes now r)

-- what a line says that asks for an explanation
abbrev pub why_in_turn : Bool → List SuffixRule → State → ℕ → Request → Said
why_in_turn true suffixes now seat r = bad (BadCommand Cmd)
why_in_turn false suffixes now seat r = answered seat now.count (explained (explanation_of suffixes now r))

-- what a line says that asks for this
abbrev pub reply_in_turn : Setting → State → ℕ → Result Command LineFault → Said
reply_in_turn setting now seat (Ok blank) = nothing
reply_in_turn setting now seat (Ok sync) = synced now.count
reply_in_turn setting now seat (Ok (request r)) = answered seat now.count (answer_in_turn setting.follows setting.suffixes now r)
reply_in_turn setting now seat (Ok (explain r)) = why_in_turn setting.follows setting.suffixes now seat r
reply_in_turn setting now seat (Ok (update new)) = said_by now (one new) (judge now (one new))
reply_in_turn setting now seat (Ok (batch all)) = said_by now (together all) (judge now (together all))
reply_in_turn setting now seat (Err fault) = bad fault

-- and the state after it
abbrev pub state_in_turn : State → Result Command LineFault → State
state_in_turn now (Ok blank) = now
state_in_turn now (Ok sync) = now
state_in_turn now (Ok (request r)) = now
state_in_turn now (Ok (explain r)) = now
state_in_turn now (Ok (update new)) = left_by now (one new) (judge now (one new))
state_in_turn now (Ok (batch all)) = left_by now (together all) (judge now (together all))
state_in_turn now (Err fault) = now

-- what the lines of a round say, the first of which has this number, and what is said after them; so many of the round
-- asked for answers before
abbrev pub lines_in_turn : Setting → State → ℕ → ℕ → List (List ℕ) → (State → ℕ → List Said) → List Said
lines_in_turn setting now number asked [] later = later now number
lines_in_turn setting now number asked (line ∷ lines) later =
    reply_in_turn setting now (asked % setting.workers) (known_with setting.updates (command_of number line))
    ∷ lines_in_turn setting (state_in_turn now (known_with setting.updates (command_of number line))) (number + 1) (asked + asks (command_of number line)) lines later

-- what rounds say, the first line of which has this number
abbrev pub rounds_in_turn : Setting → State → ℕ → List (List (List ℕ)) → List Said
rounds_in_turn setting now number [] = []
rounds_in_turn setting now number (round ∷ rounds) =
    lines_in_turn setting now number 0 round (λ next after. rounds_in_turn setting next after rounds)
