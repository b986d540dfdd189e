-- What a session says whose only rules are those of a filter list.
use Rattle.std.specs.Bool.{Decides}
use Rattle.std.specs.Prelude.{◌≡◌, ℕ, List, Option, Some, None, Result, Ok, Err}
use Rattle.dnr_base.specs.declared.request.Request.{Request}
use Rattle.rule_spec.specs.declared.outcome.Outcome.TheVariants as outcome
use Rattle.rule_spec.specs.Scan.{Verdict}
use Rattle.list_spec.specs.LineKind as list
use Rattle.list_spec.specs.Says.{says}
use Rattle.line_spec.specs.declared.line_fault.LineFault.{LineFault}
use Rattle.line_spec.specs.Line.{Command, blank, sync, request, explain, update, batch}
use Rattle.load_spec.specs.Files.{Files, HoldsFile}
use Rattle.session_spec.specs.Out.{Outside, Session, of_words, setting_of}
use Rattle.session_spec.specs.Said.{Answer, decided, explained, failed, traced, failed_at, answered}
use Rattle.session_spec.specs.Words.{Serving}
use Rattle.run_laws.specs.History.{Place, command_at, Transcript, SaysAt, state_after}
use Rattle.run_laws.specs.Wrote.{IsHistoryOf}

-- ---- what a line says of a request

abbrev pub asked_about : Result Command LineFault → Option Request
asked_about (Ok blank) = None
asked_about (Ok sync) = None
asked_about (Ok (request r)) = Some r
asked_about (Ok (explain r)) = Some r
asked_about (Ok (update new)) = None
asked_about (Ok (batch all)) = None
asked_about (Err fault) = None

-- the verdict of an answer, if it has one
abbrev pub verdict_in : Answer → Option Verdict
verdict_in (decided verdict) = Some verdict
verdict_in (explained explanation) = Some explanation.verdict
verdict_in (failed rule) = None
verdict_in (traced way) = None
verdict_in (failed_at hop rule) = None

-- ---- a session of one list

-- At this place the session says what becomes of this request, and the extensions are those of the beginning, as they are
-- where the answer prints 0.
pub record HasVerdict (t : Transcript) (at : Place) (r : Request) (verdict : Verdict) : Type 0 where
  pub seat : ℕ
  pub number : ℕ
  pub answer : Answer
  pub says : SaysAt t at (answered seat number answer)
  pub has : verdict_in answer ≡ Some verdict
  pub asks : asked_about (command_at t.setting at) ≡ Some r
  pub unchanged : (state_after t number).extensions ≡ t.first.extensions

-- each such verdict blocks exactly where the list of these bytes says so, which knows no rules, but its lines alone
abbrev pub BlocksAsSaid : List ℕ → Transcript → Type 0
BlocksAsSaid bytes t =
    (at : Place) (r : Request) (verdict : Verdict) → HasVerdict t at r verdict
    → Decides (says (list.lines_of bytes) t.setting.suffixes r) (verdict.outcome ≡ outcome.Block)

-- the transcript of a history
abbrev pub transcript_of : (files : Files) (outside : Outside) (session : Session) (Script : List ℕ → Type 0) (rounds_in : List ℕ → List (List (List ℕ))) (written : List ℕ)
    → IsHistoryOf files outside session Script rounds_in written → Transcript
transcript_of files outside session Script rounds_in written h = record {
  hosts = outside.hosts;
  setting = setting_of session h.loaded.suffixes;
  first = h.first;
  rounds = rounds_in h.script;
  said = h.history.said;
}

-- what was written is a history of these rounds, which blocks as the list in this file says
pub record BlocksAsListed (files : Files) (outside : Outside) (serving : Serving) (file : List ℕ) (Script : List ℕ → Type 0) (rounds_in : List ℕ → List (List (List ℕ))) (written : List ℕ) : Type 0 where
  pub history : IsHistoryOf files outside (of_words serving) Script rounds_in written
  pub bytes : List ℕ
  pub held : HoldsFile files file bytes
  pub blocks : BlocksAsSaid bytes (transcript_of files outside (of_words serving) Script rounds_in written history)
