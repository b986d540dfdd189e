-- What one line is answered, by the parts of its answer: the lemmas of a session that serves in turn, for one seat.
use Rattle.std.proofs.Common.{◌≡◌, ◌≢◌, ℕ, ◌≤◌, List, [], ◌∷◌, ◌++◌, Option, Some, None, Result, Ok, Err, OnOk, refl, sym, subst, arith}
use Rattle.std.specs.Prelude.{IfOk, IfSome}
use Rattle.dnr_base.specs.Faults.{Rose}
use Rattle.dnr_base.specs.declared.request.Request.{Request}
use Rattle.dnr_spec.specs.Suffixes.{SuffixRule}
use Rattle.rule_spec.specs.State.{State}
use Rattle.generation.specs.Basis.{Basis}
use Rattle.update_spec.specs.declared.refusal.Refusal.{Refusal}
use Rattle.update_spec.specs.Update.{Update}
use Rattle.update_spec.specs.Judge.{judge_update}
use Rattle.update_spec.specs.Entries.{Entry, judge, after, batch as together}
use Rattle.line_spec.specs.declared.line_fault.LineFault.{LineFault}
use Rattle.line_spec.specs.declared.line_fault.LineFault.TheVariants.{NoMemory}
use Rattle.line_spec.specs.IsFault.{IsFaultOfLine}
use Rattle.line_spec.specs.Line.{Command, blank, sync, request, explain, update as of_update, batch, command_of}
use Rattle.session_spec.specs.Answers.{Decides, Explains}
use Rattle.session_spec.specs.Output.{accepted_line, sync_line, refused_line, refused_batch_line, bad_line}
use Rattle.session_laws.specs.Turns.{LineTold, FaultsRise}
use Rattle.ruleset_store.specs.Seen.{IsRefusalOf, IsRefusalAt}
use Rattle.session_serve.specs.Told.{AnswerTold, CommandTold, ReplyTold, IsNamed}
use Rattle.session_serve.proofs.Told.{request_told, explain_told, reply_told, blank_told, accepted_told, command_with, command_said, fault_said, sync_told, refusal_told, batch_refusal_told}
use Rattle.engine.specs.Asking.{setting, state_left}

-- ---- a whole line

-- a line that reads as a command
pub line_said : {E : Type 0} (result : Result (Option Basis) E) (suffixes : List SuffixRule) (state : State) (number : ℕ) (line : List ℕ) (command : Command) (before now : List ℕ) (was is found finds : ℕ)
    → command_of number line ≡ Ok command → is ≡ was
    → IfOk result (λ next. CommandTold (setting suffixes 1) state number 0 (Ok command) before now (state_left state next) (found ∷ []) (finds ∷ []))
    → IfOk result (λ next. LineTold (setting suffixes 1) state number 0 line before now (state_left state next) (FaultsRise (was ∷ found ∷ []) (is ∷ finds ∷ [])))
line_said (Err e) suffixes state number line command before now was is found finds reads calm told = tt
line_said (Ok next) suffixes state number line command before now was is found finds reads calm told =
    command_said {T = Unit {0}} {E = Unit {0}} (Ok tt) (setting suffixes 1) state (state_left state next) number 0 line command before now was is (found ∷ []) (finds ∷ []) reads calm told

-- a line that is at fault
pub fault_left : (suffixes : List SuffixRule) (state : State) (number : ℕ) (line : List ℕ) (fault : LineFault) (before now : List ℕ) (was is found : ℕ) → was ≤ is → fault ≢ NoMemory
    → IsFaultOfLine number line (Rose was is) fault → now ≡ before ++ bad_line number fault
    → LineTold (setting suffixes 1) state number 0 line before now state (FaultsRise (was ∷ found ∷ []) (is ∷ found ∷ []))
fault_left suffixes state number line fault before now was is found later named why grown =
    fault_said {T = Unit {0}} {E = Unit {0}} (Ok tt) (setting suffixes 1) state number 0 line fault before now was is (found ∷ []) later named why grown

-- ---- requests

pub request_left : (suffixes : List SuffixRule) (state : State) (number : ℕ) (r : Request) (before now : List ℕ) (found finds : ℕ)
    → AnswerTold (Decides suffixes r) state number before now found finds
    → CommandTold (setting suffixes 1) state number 0 (Ok (request r)) before now state (found ∷ []) (finds ∷ [])
request_left suffixes state number r before now found finds told =
    request_told {T = Unit {0}} {E = Unit {0}} (Ok tt) (setting suffixes 1) state number 0 r before now (found ∷ []) (finds ∷ []) finds (omega arith) refl told

pub explain_left : (suffixes : List SuffixRule) (state : State) (number : ℕ) (r : Request) (before now : List ℕ) (found finds : ℕ)
    → AnswerTold (Explains suffixes r) state number before now found finds
    → CommandTold (setting suffixes 1) state number 0 (Ok (explain r)) before now state (found ∷ []) (finds ∷ [])
explain_left suffixes state number r before now found finds told =
    explain_told {T = Unit {0}} {E = Unit {0}} (Ok tt) (setting suffixes 1) state number 0 r before now (found ∷ []) (finds ∷ []) finds (omega arith) refl told refl

pub blank_left : (suffixes : List SuffixRule) (state : State) (number : ℕ) (text : List ℕ) (found : ℕ)
    → CommandTold (setting suffixes 1) state number 0 (Ok blank) text text state (found ∷ []) (found ∷ [])
blank_left suffixes state number text found = blank_told (setting suffixes 1) state number 0 text (found ∷ [])

-- ---- what asks no finder

pub reply_left : {E : Type 0} (result : Result (Option Basis) E) (suffixes : List SuffixRule) (state : State) (number : ℕ) (read : Result Command LineFault) (before now : List ℕ) (found : ℕ)
    → IfOk result (λ next. ReplyTold (setting suffixes 0) state number read before now (state_left state next))
    → IfOk result (λ next. CommandTold (setting suffixes 1) state number 0 read before now (state_left state next) (found ∷ []) (found ∷ []))
reply_left (Err e) suffixes state number read before now found told = tt
reply_left (Ok next) suffixes state number read before now found told =
    reply_told {T = Unit {0}} {E = Unit {0}} (Ok tt) (setting suffixes 1) state (state_left state next) number 0 1 read before now (found ∷ []) told

-- an update or a batch that is accepted
pub accepted_left : {E : Type 0} (result : Result (Option Basis) E) (suffixes : List SuffixRule) (state : State) (number : ℕ) (entry : Entry) (before now : List ℕ) (next : Basis)
    → judge state entry ≡ None → next.state ≡ after state entry → IfOk result (λ given. given ≡ Some next) → OnOk result (now ≡ before ++ accepted_line number next.state.count)
    → IfOk result (λ given. ReplyTold (setting suffixes 0) state number (Ok (command_with entry)) before now (state_left state given))
accepted_left (Err e) suffixes state number entry before now next passes is same grown = tt
accepted_left (Ok given) suffixes state number entry before now next passes is same grown =
    subst (λ (g : Option Basis). ReplyTold (setting suffixes 0) state number (Ok (command_with entry)) before now (state_left state g)) (sym same)
    (accepted_told {T = Unit {0}} {E = Unit {0}} (Ok tt) (setting suffixes 0) state next.state number entry before now refl passes is grown)

-- the suffix rules stay
pub suffixes_left : {E : Type 0} (result : Result (Option Basis) E) (suffixes : List SuffixRule) (next : Basis) → next.suffixes ≡ suffixes → IfOk result (λ given. given ≡ Some next)
    → IfOk result (λ given. IfSome given (λ basis. basis.suffixes ≡ suffixes))
suffixes_left (Err e) suffixes next same is = tt
suffixes_left (Ok given) suffixes next same is = subst (λ (g : Option Basis). IfSome g (λ basis. basis.suffixes ≡ suffixes)) (sym is) same

-- a `sync`
pub sync_left : (suffixes : List SuffixRule) (state : State) (number count : ℕ) (before now : List ℕ) → count ≡ state.count → now ≡ before ++ sync_line number count
    → ReplyTold (setting suffixes 0) state number (Ok sync) before now state
sync_left suffixes state number count before now counted grown =
    sync_told {T = Unit {0}} {E = Unit {0}} (Ok tt) (setting suffixes 0) state number count before now refl counted grown

-- an update or a batch that is refused
pub refused_left : (suffixes : List SuffixRule) (state : State) (number : ℕ) (u : Update) (why : Refusal) (before now : List ℕ)
    → IsRefusalOf (judge_update state u) why → IsNamed why × (now ≡ before ++ refused_line number why)
    → ReplyTold (setting suffixes 0) state number (Ok (of_update u)) before now state
refused_left suffixes state number u why before now judged grown =
    refusal_told {T = Unit {0}} {E = Unit {0}} (Ok tt) (setting suffixes 0) state number u why before now refl judged grown

pub batch_refused_left : (suffixes : List SuffixRule) (state : State) (number place : ℕ) (us : List Update) (why : Refusal) (before now : List ℕ)
    → IsRefusalAt (judge state (together us)) place why → IsNamed why × (now ≡ before ++ refused_batch_line number place why)
    → ReplyTold (setting suffixes 0) state number (Ok (batch us)) before now state
batch_refused_left suffixes state number place us why before now judged grown =
    batch_refusal_told {T = Unit {0}} {E = Unit {0}} (Ok tt) (setting suffixes 0) state number place us why before now refl judged grown
