-- What one line is answered, in parts.
use Rattle.std.proofs.Common.{◌≡◌, ◌≢◌, ◌⊎◌, ℕ, zero, suc, ◌+◌, ◌%◌, ◌<◌, ◌≤◌, List, [], ◌∷◌, ◌++◌, map, set, get_or, length, Bool, true, false, Option, Some, None, Result, Ok, Err, OnOk, refl, sym, ap, ◌∙◌, inl, inr, subst, arith, append-nil}
use Rattle.std.specs.Prelude.{◌==◌, cond, min, ◌^◌}
use Rattle.session_laws.proofs.Rises.{none_fell_yet}
use Rattle.std.proofs.Math.Nat.{mod-lt}
use Rattle.std.proofs.lemmas.Bool.Decides.{nat_tests}
use Rattle.dnr_base.specs.Faults.{Rose}
use Rattle.dnr_base.specs.declared.request.Request.{Request}
use Rattle.dnr_base.specs.declared.rule_name.RuleName.{RuleName}
use Rattle.dnr_spec.specs.Suffixes.{SuffixRule}
use Rattle.explain_spec.specs.Explanation.{Explanation, explanation_of}
use Rattle.follow_spec.specs.Trace.{Trace, trace}
use Rattle.rule_spec.specs.PatternRule.{NamesPattern}
use Rattle.rule_spec.specs.Scan.{Verdict, scan}
use Rattle.rule_spec.specs.State.{State}
use Rattle.rule_spec.specs.declared.placed_refusal.PlacedRefusal.{PlacedRefusal}
use Rattle.rule_spec.specs.declared.rule_refusal.RuleRefusal.{RuleRefusal}
use Rattle.rule_spec.specs.declared.rule_refusal.RuleRefusal.TheVariants as rule
use Rattle.update_spec.specs.declared.refusal.Refusal.{Refusal}
use Rattle.update_spec.specs.declared.refusal.Refusal.TheVariants as update
use Rattle.update_spec.specs.Update as spec
use Rattle.update_spec.specs.Judge.{judge_update}
use Rattle.update_spec.specs.Entries.{Entry, one, batch as together, judge, refused_at, after}
use Rattle.line_spec.specs.declared.command_name.CommandName.{CommandName}
use Rattle.line_spec.specs.declared.command_name.CommandName.TheVariants as asked
use Rattle.line_spec.specs.declared.command_name.UpdateName.{UpdateName}
use Rattle.line_spec.specs.declared.command_path.CommandPath.TheVariants.{Cmd}
use Rattle.line_spec.specs.declared.line_fault.LineFault.{LineFault}
use Rattle.line_spec.specs.declared.line_fault.LineFault.TheVariants.{BadJson, BadCommand, BadUrl, RuleRefused, InBatch, NoMemory}
use Rattle.line_spec.specs.IsFault.{MayStopBy, MayRefuse, IsFaultOfLine, IsCalm, IsCalmBy}
use Rattle.line_spec.specs.Line.{Command, blank, sync, request, explain, update as of_update, batch, command_of}
use Rattle.line_spec.specs.Stops.{StopsInLine}
use Rattle.session_spec.specs.Answers.{Setting, without_updates, known_with, Decides, Explains, Follows, AnswersBy, RepliesWhy, IsAnswered, Replies, Stops, Says, RisesBy}
use Rattle.session_spec.specs.Output.{verdict_line, explain_line, trace_line, fault_line, hop_fault_line, accepted_line, sync_line, refused_line, refused_batch_line, bad_line}
use Rattle.session_spec.specs.Rounds.{is_sync, asks}
use Rattle.session_spec.specs.Said.{Answer, decided, explained, failed, traced, failed_at, Said, nothing, accepted, synced, refused, refused_in_batch, bad, stopped, answered, answer_line, said_line, is_failed, fails_at, count_failed, count_stopped}
use Rattle.session_laws.specs.Turns.{LineTold, RiseBy, FaultsRise, NoneFell, times_of}
use Rattle.ruleset_store.specs.Seen.{IsRefusalOf, IsRefusalAt}
use Rattle.session_serve.specs.Told.{times_in, AnswerTold, CommandTold, ReplyTold, IsNamed}

-- ---- answers

none_risen : (was is : ℕ) → is ≡ was → RisesBy 0 (record { before = was; now = is })
none_risen was is same = omega (arith, same)

pub verdict_told : {T E : Type 0} (result : Result T E) (suffixes : List SuffixRule) (state : State) (r : Request) (number count : ℕ) (verdict : Verdict) (before now : List ℕ) (was is : ℕ)
    → verdict ≡ scan suffixes state r → count ≡ state.count → is ≡ was → OnOk result (now ≡ before ++ verdict_line number count verdict)
    → OnOk result (AnswerTold (Decides suffixes r) state number before now was is)
verdict_told (Err e) suffixes state r number count verdict before now was is decides counted calm grown = tt
verdict_told (Ok x) suffixes state r number count verdict before now was is decides counted calm grown = record {
  answer = decided verdict;
  fits = decides;
  appended = grown ∙ ap (λ (n : ℕ). before ++ verdict_line number n verdict) counted;
  rises = none_risen was is calm;
}

pub explanation_told : {T E : Type 0} (result : Result T E) (suffixes : List SuffixRule) (state : State) (r : Request) (number count : ℕ) (explanation : Explanation) (before now : List ℕ) (was is : ℕ)
    → explanation ≡ explanation_of suffixes state r → count ≡ state.count → is ≡ was → OnOk result (now ≡ before ++ explain_line number count explanation)
    → OnOk result (AnswerTold (Explains suffixes r) state number before now was is)
explanation_told (Err e) suffixes state r number count explanation before now was is explains counted calm grown = tt
explanation_told (Ok x) suffixes state r number count explanation before now was is explains counted calm grown = record {
  answer = explained explanation;
  fits = explains;
  appended = grown ∙ ap (λ (n : ℕ). before ++ explain_line number n explanation) counted;
  rises = none_risen was is calm;
}

pub trace_told : {T E : Type 0} (result : Result T E) (suffixes : List SuffixRule) (state : State) (r : Request) (number : ℕ) (way : Trace) (before now : List ℕ) (was is : ℕ)
    → way ≡ trace suffixes state r → is ≡ was → OnOk result (now ≡ before ++ trace_line number way)
    → OnOk result (AnswerTold (Follows suffixes r) state number before now was is)
trace_told (Err e) suffixes state r number way before now was is leads calm grown = tt
trace_told (Ok x) suffixes state r number way before now was is leads calm grown = record {
  answer = traced way;
  fits = leads;
  appended = grown;
  rises = none_risen was is calm;
}

pub hop_fault_told : {T E : Type 0} (result : Result T E) (suffixes : List SuffixRule) (state : State) (r : Request) (number hop : ℕ) (name : RuleName) (before now : List ℕ) (was is : ℕ)
    → NamesPattern state name → hop < length (trace suffixes state r).hops → Rose was is → OnOk result (now ≡ before ++ hop_fault_line number hop name)
    → OnOk result (AnswerTold (Follows suffixes r) state number before now was is)
hop_fault_told (Err e) suffixes state r number hop name before now was is names inside rose grown = tt
hop_fault_told (Ok x) suffixes state r number hop name before now was is names inside rose grown = record {
  answer = failed_at hop name;
  fits = (names, inside);
  appended = grown;
  rises = rose;
}

pub fault_told : {T E : Type 0} (result : Result T E) (Fits : State → Answer → Type 0) (state : State) (number count : ℕ) (name : RuleName) (before now : List ℕ) (was is : ℕ)
    → Fits state (failed name) → count ≡ state.count → Rose was is → OnOk result (now ≡ before ++ fault_line number count name)
    → OnOk result (AnswerTold Fits state number before now was is)
fault_told (Err e) Fits state number count name before now was is fits counted rose grown = tt
fault_told (Ok x) Fits state number count name before now was is fits counted rose grown = record {
  answer = failed name;
  fits = fits;
  appended = grown ∙ ap (λ (n : ℕ). before ++ fault_line number n name) counted;
  rises = rose;
}

-- a count that is a `u64` has not fallen where it rose
pub rose_later : (was is : ℕ) → was < 2 ^ 64 → Rose was is → was ≤ is
rose_later was is fits rose = omega (arith, fits, rose)

-- ---- one seat among others

none_there : (times : ℕ → ℕ) (host : ℕ) → times zero ≡ 0 → RisesBy (times zero) (record { before = host; now = host })
none_there times host none = rw none (omega arith)

pub nothing_rises : (times : ℕ → ℕ) (hosts : List ℕ) → ((place : ℕ) → times place ≡ 0) → RiseBy times hosts hosts
nothing_rises times [] none = none
nothing_rises times (host ∷ hosts) none = (none_there times host (none zero), nothing_rises (λ place. times (suc place)) hosts (λ place. none (suc place)))

-- the host of one seat rose so, and there is nothing to count at any other
seat_rises : (times : ℕ → ℕ) (hosts : List ℕ) (seat now : ℕ) → seat < length hosts → ((place : ℕ) → place ≢ seat → times place ≡ 0)
    → RisesBy (times seat) (record { before = get_or hosts seat 0; now = now }) → RiseBy times hosts (set hosts seat now)
seat_rises times [] seat now inside none rises = absurd (omega (arith, inside))
seat_rises times (host ∷ hosts) zero now inside none rises = (rises, nothing_rises (λ place. times (suc place)) hosts (λ place. none (suc place) (λ is. absurd (omega (arith, is)))))
seat_rises times (host ∷ hosts) (suc seat) now inside none rises = (
  none_there times host (none zero (λ is. absurd (omega (arith, is)))),
  seat_rises (λ place. times (suc place)) hosts seat now (omega (arith, inside)) (λ place other. none (suc place) (λ is. other (omega (arith, is)))) rises,
)

other_seat : (mine : Bool) (answer : Answer) → mine ≡ false → 0 + cond (cond mine (is_failed answer) false) 1 0 ≡ 0
other_seat true answer is = absurd (cc is)
other_seat false answer is = refl

my_seat : (mine : Bool) (answer : Answer) → mine ≡ true → 0 + cond (cond mine (is_failed answer) false) 1 0 ≡ times_in answer
my_seat true answer is = omega arith
my_seat false answer is = absurd (cc is)

is_other : (seat place : ℕ) → place ≢ seat → (seat == place) ≡ false
is_other seat place other = grind (arith, nat_tests, other)

is_mine : (seat : ℕ) → (seat == seat) ≡ true
is_mine seat = grind (arith, nat_tests)

-- the answer of this seat's host, which was this and now is that, among the others
pub seat_told : (setting : Setting) (state : State) (number seat : ℕ) (Fits : State → Answer → Type 0) (before now : List ℕ) (hosts : List ℕ) (is : ℕ)
    → seat < length hosts → (answer : AnswerTold Fits state number before now (get_or hosts seat 0) is)
    → RiseBy (λ place. count_failed place (answered seat state.count answer.answer ∷ [])) hosts (set hosts seat is)
seat_told setting state number seat Fits before now hosts is inside answer =
    seat_rises (λ place. count_failed place (answered seat state.count answer.answer ∷ [])) hosts seat is inside
    (λ place other. other_seat (seat == place) answer.answer (is_other seat place other))
    (rw (my_seat (seat == seat) answer.answer (is_mine seat)) answer.rises)

known_request : (updates : Bool) (r : Request) → known_with updates (Ok (request r)) ≡ Ok (request r)
known_request true r = refl
known_request false r = refl

known_explain : (updates : Bool) (r : Request) → known_with updates (Ok (explain r)) ≡ Ok (explain r)
known_explain true r = refl
known_explain false r = refl

answer_is : (state : State) (seat : ℕ) (Fits : State → Answer → Type 0) (answer : Answer) → Fits state answer → IsAnswered (state ∷ []) seat Fits (answered seat state.count answer)
answer_is state seat Fits answer fits = record { state = state; answer = answer; passed = (0, omega arith, refl); fits = fits; same = refl }

pub request_told : {T E : Type 0} (result : Result T E) (setting : Setting) (state : State) (number seat : ℕ) (r : Request) (before now : List ℕ) (hosts later : List ℕ) (is : ℕ)
    → seat < length hosts → later ≡ set hosts seat is
    → OnOk result (AnswerTold (AnswersBy setting.follows setting.suffixes r) state number before now (get_or hosts seat 0) is)
    → OnOk result (CommandTold setting state number seat (known_with setting.updates (Ok (request r))) before now state hosts later)
request_told (Err e) setting state number seat r before now hosts later is inside place answer = tt
request_told (Ok x) setting state number seat r before now hosts later is inside place answer = rw (place, known_request setting.updates r) (record {
  told = answered seat state.count answer.answer;
  says = (answer_is state seat (AnswersBy setting.follows setting.suffixes r) answer.answer answer.fits, refl);
  appended = answer.appended;
  rises = seat_told setting state number seat (AnswersBy setting.follows setting.suffixes r) before now hosts is inside answer;
  calm = refl;
})

why_is : (follows : Bool) (suffixes : List SuffixRule) (state : State) (seat : ℕ) (r : Request) (answer : Answer) → follows ≡ false → Explains suffixes r state answer
    → RepliesWhy follows suffixes (state ∷ []) seat r (answered seat state.count answer)
why_is true suffixes state seat r answer is fits = absurd (cc is)
why_is false suffixes state seat r answer is fits = answer_is state seat (Explains suffixes r) answer fits

no_why : (follows : Bool) (suffixes : List SuffixRule) (state : State) (seat : ℕ) (r : Request) → follows ≡ true → RepliesWhy follows suffixes (state ∷ []) seat r (bad (BadCommand Cmd))
no_why true suffixes state seat r is = refl
no_why false suffixes state seat r is = absurd (cc is)

-- where requests are followed nothing is explained
pub unexplained_told : {T E : Type 0} (result : Result T E) (setting : Setting) (state : State) (number seat : ℕ) (r : Request) (before now : List ℕ) (hosts : List ℕ)
    → setting.follows ≡ true → OnOk result (now ≡ before ++ bad_line number (BadCommand Cmd))
    → OnOk result (CommandTold setting state number seat (known_with setting.updates (Ok (explain r))) before now state hosts hosts)
unexplained_told (Err e) setting state number seat r before now hosts follows grown = tt
unexplained_told (Ok x) setting state number seat r before now hosts follows grown = rw (known_explain setting.updates r) (record {
  told = bad (BadCommand Cmd);
  says = (no_why setting.follows setting.suffixes state seat r follows, refl);
  appended = grown;
  rises = nothing_rises (λ place. count_failed place (bad (BadCommand Cmd) ∷ [])) hosts (λ place. refl);
  calm = refl;
})

pub explain_told : {T E : Type 0} (result : Result T E) (setting : Setting) (state : State) (number seat : ℕ) (r : Request) (before now : List ℕ) (hosts later : List ℕ) (is : ℕ)
    → seat < length hosts → later ≡ set hosts seat is → OnOk result (AnswerTold (Explains setting.suffixes r) state number before now (get_or hosts seat 0) is)
    → setting.follows ≡ false
    → OnOk result (CommandTold setting state number seat (known_with setting.updates (Ok (explain r))) before now state hosts later)
explain_told (Err e) setting state number seat r before now hosts later is inside place answer follows = tt
explain_told (Ok x) setting state number seat r before now hosts later is inside place answer follows = rw (place, known_explain setting.updates r) (record {
  told = answered seat state.count answer.answer;
  says = (why_is setting.follows setting.suffixes state seat r answer.answer follows answer.fits, refl);
  appended = answer.appended;
  rises = seat_told setting state number seat (Explains setting.suffixes r) before now hosts is inside answer;
  calm = refl;
})

-- ---- lines that ask no finder

any_workers : (setting : Setting) (state : State) (seat : ℕ) (read : Result Command LineFault) (said : Said) (next : State)
    → Replies (record setting { workers = 0 }) (state ∷ []) state seat read said next → Replies setting (state ∷ []) state seat read said next
any_workers setting state seat (Ok blank) said next says = says
any_workers setting state seat (Ok sync) said next says = says
any_workers setting state seat (Ok (request r)) said next says = says
any_workers setting state seat (Ok (explain r)) said next says = says
any_workers setting state seat (Ok (of_update u)) said next says = says
any_workers setting state seat (Ok (batch us)) said next says = says
any_workers setting state seat (Err fault) said next says = says

-- what is said without a finder is said whatever hosts there are
pub reply_told : {T E : Type 0} (result : Result T E) (setting : Setting) (state next : State) (number seat workers : ℕ) (read : Result Command LineFault) (before now : List ℕ) (hosts : List ℕ)
    → OnOk result (ReplyTold (record setting { workers = 0 }) state number read before now next)
    → OnOk result (CommandTold setting state number seat read before now next hosts hosts)
reply_told (Err e) setting state next number seat workers read before now hosts told = tt
reply_told (Ok x) setting state next number seat workers read before now hosts told = record {
  told = told.told;
  says = any_workers setting state seat read told.told next (told.says seat);
  appended = told.appended;
  rises = nothing_rises (λ place. count_failed place (told.told ∷ [])) hosts told.quiet;
  calm = told.calm;
}

known_blank : (updates : Bool) → known_with updates (Ok blank) ≡ Ok blank
known_blank true = refl
known_blank false = refl

pub blank_told : (setting : Setting) (state : State) (number seat : ℕ) (text : List ℕ) (hosts : List ℕ)
    → CommandTold setting state number seat (known_with setting.updates (Ok blank)) text text state hosts hosts
blank_told setting state number seat text hosts = rw (known_blank setting.updates) (record {
  told = nothing;
  says = (refl, refl);
  appended = sym (append-nil text);
  rises = nothing_rises (λ place. count_failed place (nothing ∷ [])) hosts (λ place. refl);
  calm = refl;
})

-- a command that a session without updates does not know
pub unknown_told : {T E : Type 0} (result : Result T E) (setting : Setting) (state : State) (number : ℕ) (command : Command) (before now : List ℕ)
    → known_with setting.updates (Ok command) ≡ Err (BadCommand Cmd) → OnOk result (now ≡ before ++ bad_line number (BadCommand Cmd))
    → OnOk result (ReplyTold setting state number (known_with setting.updates (Ok command)) before now state)
unknown_told (Err e) setting state number command before now none grown = tt
unknown_told (Ok x) setting state number command before now none grown = rw none (record {
  told = bad (BadCommand Cmd);
  says = λ seat. (refl, refl);
  appended = grown;
  quiet = λ place. refl;
  calm = refl;
})

pub sync_told : {T E : Type 0} (result : Result T E) (setting : Setting) (state : State) (number count : ℕ) (before now : List ℕ) → setting.updates ≡ true → count ≡ state.count
    → OnOk result (now ≡ before ++ sync_line number count) → OnOk result (ReplyTold setting state number (known_with setting.updates (Ok sync)) before now state)
sync_told (Err e) setting state number count before now updates counted grown = tt
sync_told (Ok x) setting state number count before now updates counted grown = rw updates (record {
  told = synced state.count;
  says = λ seat. (refl, refl);
  appended = grown ∙ ap (λ (n : ℕ). before ++ sync_line number n) counted;
  quiet = λ place. refl;
  calm = refl;
})

-- the entry that a command is
abbrev pub command_with : Entry → Command
command_with (one u) = of_update u
command_with (together us) = batch us

entry_accepted : (setting : Setting) (state : State) (entry : Entry) (seat : ℕ) → judge state entry ≡ None
    → Replies setting (state ∷ []) state seat (Ok (command_with entry)) (accepted (after state entry).count) (after state entry)
entry_accepted setting state (one u) seat passes = rw passes (refl, refl)
entry_accepted setting state (together us) seat passes = rw passes (refl, refl)

pub accepted_told : {T E : Type 0} (result : Result T E) (setting : Setting) (state next : State) (number : ℕ) (entry : Entry) (before now : List ℕ) → setting.updates ≡ true → judge state entry ≡ None
    → next ≡ after state entry → OnOk result (now ≡ before ++ accepted_line number next.count)
    → OnOk result (ReplyTold setting state number (known_with setting.updates (Ok (command_with entry))) before now next)
accepted_told (Err e) setting state next number entry before now updates passes is grown = tt
accepted_told (Ok x) setting state next number entry before now updates passes is grown = rw (updates, is) (record {
  told = accepted (after state entry).count;
  says = λ seat. entry_accepted setting state entry seat passes;
  appended = grown ∙ ap (λ (s : State). before ++ accepted_line number s.count) is;
  quiet = λ place. refl;
  calm = refl;
})

pub one_passes : (state : State) (u : spec.Update) → judge_update state u ≡ None → judge state (one u) ≡ None
one_passes state u none = ap (λ j. refused_at 0 j None) none

pub refused_told : {T E : Type 0} (result : Result T E) (setting : Setting) (state : State) (number : ℕ) (u : spec.Update) (why : Refusal) (before now : List ℕ) → setting.updates ≡ true
    → judge_update state u ≡ Some why → OnOk result (now ≡ before ++ refused_line number why)
    → OnOk result (ReplyTold setting state number (known_with setting.updates (Ok (of_update u))) before now state)
refused_told (Err e) setting state number u why before now updates judged grown = tt
refused_told (Ok x) setting state number u why before now updates judged grown = rw updates (record {
  told = refused why;
  says = λ seat. rw judged (refl, refl);
  appended = grown;
  quiet = λ place. refl;
  calm = refl;
})

pub batch_refused_told : {T E : Type 0} (result : Result T E) (setting : Setting) (state : State) (number place : ℕ) (us : List spec.Update) (why : Refusal) (before now : List ℕ) → setting.updates ≡ true
    → OnOk result (judge state (together us) ≡ Some (place, why)) → OnOk result (now ≡ before ++ refused_batch_line number place why)
    → OnOk result (ReplyTold setting state number (known_with setting.updates (Ok (batch us))) before now state)
batch_refused_told (Err e) setting state number place us why before now updates judged grown = tt
batch_refused_told (Ok x) setting state number place us why before now updates judged grown = rw updates (record {
  told = refused_in_batch place why;
  says = λ seat. rw judged (refl, refl);
  appended = grown;
  quiet = λ at. refl;
  calm = refl;
})

-- ---- whole lines

known_fault : (updates : Bool) (fault : LineFault) → known_with updates (Err fault) ≡ Err fault
known_fault true fault = refl
known_fault false fault = refl

times_none : (was is times : ℕ) → times ≡ 0 → is ≡ was → RisesBy times (record { before = was; now = is })
times_none was is times none same = omega (arith, none, same)

-- what a line says that reads as a command
pub command_said : {T E : Type 0} (result : Result T E) (setting : Setting) (state next : State) (number seat : ℕ) (line : List ℕ) (command : Command) (before now : List ℕ) (was is : ℕ) (hosts later : List ℕ)
    → command_of number line ≡ Ok command → is ≡ was → OnOk result (CommandTold setting state number seat (known_with setting.updates (Ok command)) before now next hosts later)
    → OnOk result (LineTold setting state number seat line before now next (FaultsRise (was ∷ hosts) (is ∷ later)))
command_said (Err e) setting state next number seat line command before now was is hosts later reads same told = tt
command_said (Ok x) setting state next number seat line command before now was is hosts later reads same told = record {
  told = told.told;
  says = inl (subst (λ (r : Result Command LineFault). Replies setting (state ∷ []) state seat (known_with setting.updates r) told.told next) (sym reads) told.says);
  appended = told.appended;
  rises = (times_none was is (count_stopped (told.told ∷ [])) told.calm same, told.rises);
}

-- a fault of a line is what it reads as, or the host failed at it
pub faulty : (expected : Result Command LineFault) (stops : Type 0) (fault : LineFault) (cause : RuleRefusal) → MayStopBy expected stops fault cause → stops ⊎ (expected ≡ Err fault)
faulty expected stops fault rule.NotObject h = inr h
faulty expected stops fault rule.BadId h = inr h
faulty expected stops fault rule.DuplicateId h = inr h
faulty expected stops fault rule.BadPriority h = inr h
faulty expected stops fault (rule.BadField path) h = inr h
faulty expected stops fault rule.BothFilters h = inr h
faulty expected stops fault (rule.BadUrlFilter why) h = inr h
faulty expected stops fault rule.BadRegex h = inr h
faulty expected stops fault (rule.BadDomain path) h = inr h
faulty expected stops fault (rule.EmptyList path) h = inr h
faulty expected stops fault rule.BothTypeLists h = inr h
faulty expected stops fault rule.AllowAllTypes h = inr h
faulty expected stops fault (rule.BadHeaderTest path) h = inr h
faulty expected stops fault rule.TabsNotSession h = inr h
faulty expected stops fault rule.BadAction h = inr h
faulty expected stops fault rule.BadRedirect h = inr h
faulty expected stops fault rule.BadTransform h = inr h
faulty expected stops fault (rule.BadHeader why) h = inr h
faulty expected stops fault rule.HostFault h = inl h
faulty expected stops fault rule.NoMemory h = absurd h

pub line_faulty : (number : ℕ) (line : List ℕ) (rose : Type 0) (fault : LineFault) → fault ≢ NoMemory → IsFaultOfLine number line rose fault → (rose × StopsInLine line fault) ⊎ (command_of number line ≡ Err fault)
line_faulty number line rose BadJson named why = inr why
line_faulty number line rose (BadCommand path) named why = inr why
line_faulty number line rose (BadUrl path view) named why = inr why
line_faulty number line rose (RuleRefused refusal) named why = faulty (command_of number line) (rose × StopsInLine line (RuleRefused refusal)) (RuleRefused refusal) refusal.cause why
line_faulty number line rose (InBatch place refusal) named why = faulty (command_of number line) (rose × StopsInLine line (InBatch place refusal)) (InBatch place refusal) refusal.cause why
line_faulty number line rose NoMemory named why = absurd (named refl)

zero_or_more : (was is : ℕ) → was ≤ is → RisesBy 0 (record { before = was; now = is })
zero_or_more was is later = omega (arith, later)

said_faulty : (setting : Setting) (state : State) (number seat : ℕ) (line : List ℕ) (fault : LineFault) (before now : List ℕ) (was is : ℕ) (hosts : List ℕ) → was ≤ is
    → (Rose was is × StopsInLine line fault) ⊎ (command_of number line ≡ Err fault) → now ≡ before ++ bad_line number fault
    → LineTold setting state number seat line before now state (FaultsRise (was ∷ hosts) (is ∷ hosts))
said_faulty setting state number seat line fault before now was is hosts later (inl stops) grown = record {
  told = stopped fault;
  says = inr (record { fault = fault; stops = stops.1; same = refl; stays = refl });
  appended = grown;
  rises = (stops.0, nothing_rises (λ place. count_failed place (stopped fault ∷ [])) hosts (λ place. refl));
}
said_faulty setting state number seat line fault before now was is hosts later (inr reads) grown = record {
  told = bad fault;
  says = inl (subst (λ (r : Result Command LineFault). Replies setting (state ∷ []) state seat (known_with setting.updates r) (bad fault) state) (sym reads) (rw (known_fault setting.updates fault) (refl, refl)));
  appended = grown;
  rises = (zero_or_more was is later, nothing_rises (λ place. count_failed place (bad fault ∷ [])) hosts (λ place. refl));
}

pub fault_said : {T E : Type 0} (result : Result T E) (setting : Setting) (state : State) (number seat : ℕ) (line : List ℕ) (fault : LineFault) (before now : List ℕ) (was is : ℕ) (hosts : List ℕ) → was ≤ is
    → fault ≢ NoMemory → IsFaultOfLine number line (Rose was is) fault → OnOk result (now ≡ before ++ bad_line number fault)
    → OnOk result (LineTold setting state number seat line before now state (FaultsRise (was ∷ hosts) (is ∷ hosts)))
fault_said (Err e) setting state number seat line fault before now was is hosts later named why grown = tt
fault_said (Ok x) setting state number seat line fault before now was is hosts later named why grown =
    said_faulty setting state number seat line fault before now was is hosts later (line_faulty number line (Rose was is) fault named why) grown

-- ---- causes of refusals

pub cause_named : (judged : Option Refusal) (why : Refusal) → why ≢ update.NoMemory → IsRefusalOf judged why → judged ≡ Some why
cause_named judged (update.NoExtension x) named why = why
cause_named judged (update.ExtensionThere x) named why = why
cause_named judged (update.NoRuleset x) named why = why
cause_named judged (update.DuplicateId x) named why = why
cause_named judged (update.NoStaticRule x) named why = why
cause_named judged (update.BothLists x) named why = why
cause_named judged (update.ExtensionLimit x) named why = why
cause_named judged (update.RulesetLimit x) named why = why
cause_named judged (update.RulesLimit x) named why = why
cause_named judged (update.EnabledLimit x) named why = why
cause_named judged (update.PoolLimit x) named why = why
cause_named judged (update.DynamicLimit x) named why = why
cause_named judged (update.UnsafeLimit x) named why = why
cause_named judged (update.SessionLimit x) named why = why
cause_named judged (update.RegexLimit x) named why = why
cause_named judged (update.DisabledLimit x) named why = why
cause_named judged (update.TooManyUpdates x) named why = why
cause_named judged update.NoMemory named why = absurd (named refl)

pub place_named : (judged : Option (ℕ × Refusal)) (place : ℕ) (why : Refusal) → why ≢ update.NoMemory → IsRefusalAt judged place why → judged ≡ Some (place, why)
place_named judged place (update.NoExtension x) named why = why
place_named judged place (update.ExtensionThere x) named why = why
place_named judged place (update.NoRuleset x) named why = why
place_named judged place (update.DuplicateId x) named why = why
place_named judged place (update.NoStaticRule x) named why = why
place_named judged place (update.BothLists x) named why = why
place_named judged place (update.ExtensionLimit x) named why = why
place_named judged place (update.RulesetLimit x) named why = why
place_named judged place (update.RulesLimit x) named why = why
place_named judged place (update.EnabledLimit x) named why = why
place_named judged place (update.PoolLimit x) named why = why
place_named judged place (update.DynamicLimit x) named why = why
place_named judged place (update.UnsafeLimit x) named why = why
place_named judged place (update.SessionLimit x) named why = why
place_named judged place (update.RegexLimit x) named why = why
place_named judged place (update.DisabledLimit x) named why = why
place_named judged place (update.TooManyUpdates x) named why = why
place_named judged place update.NoMemory named why = absurd (named refl)

-- the update is refused, where the cause is named
pub refusal_told : {T E : Type 0} (result : Result T E) (setting : Setting) (state : State) (number : ℕ) (u : spec.Update) (why : Refusal) (before now : List ℕ) → setting.updates ≡ true
    → IsRefusalOf (judge_update state u) why → OnOk result (IsNamed why × (now ≡ before ++ refused_line number why))
    → OnOk result (ReplyTold setting state number (known_with setting.updates (Ok (of_update u))) before now state)
refusal_told (Err e) setting state number u why before now updates judged grown = tt
refusal_told (Ok x) setting state number u why before now updates judged grown =
    refused_told {T = Unit {0}} {E = Unit {0}} (Ok tt) setting state number u why before now updates (cause_named (judge_update state u) why grown.0 judged) grown.1

pub batch_refusal_told : {T E : Type 0} (result : Result T E) (setting : Setting) (state : State) (number place : ℕ) (us : List spec.Update) (why : Refusal) (before now : List ℕ) → setting.updates ≡ true
    → IsRefusalAt (judge state (together us)) place why → OnOk result (IsNamed why × (now ≡ before ++ refused_batch_line number place why))
    → OnOk result (ReplyTold setting state number (known_with setting.updates (Ok (batch us))) before now state)
batch_refusal_told (Err e) setting state number place us why before now updates judged grown = tt
batch_refusal_told (Ok x) setting state number place us why before now updates judged grown =
    batch_refused_told {T = Unit {0}} {E = Unit {0}} (Ok tt) setting state number place us why before now updates (place_named (judge state (together us)) place why grown.0 judged) grown.1

-- ---- the hosts of the seats

pub faults_set : {H : Type 0} (faults : H → ℕ) (hosts : List H) (seat : ℕ) (now : H) → map faults (set hosts seat now) ≡ set (map faults hosts) seat (faults now)
faults_set faults [] seat now = refl
faults_set faults (host ∷ hosts) zero now = refl
faults_set faults (host ∷ hosts) (suc seat) now = ap (λ l. faults host ∷ l) (faults_set faults hosts seat now)

pub faults_at : {H : Type 0} (faults : H → ℕ) (hosts : List H) (seat : ℕ) (default : H) → seat < length hosts → get_or (map faults hosts) seat 0 ≡ faults (get_or hosts seat default)
faults_at faults [] seat default inside = absurd (omega (arith, inside))
faults_at faults (host ∷ hosts) zero default inside = refl
faults_at faults (host ∷ hosts) (suc seat) default inside = faults_at faults hosts seat default (omega (arith, inside))

pub turn_inside : (asked seats : ℕ) → 0 < seats → asked % seats < seats
turn_inside asked seats some = mod-lt asked some

seat_fell : (hosts : List ℕ) (seat now : ℕ) → get_or hosts seat 0 ≤ now → NoneFell hosts (set hosts seat now)
seat_fell [] seat now le = tt
seat_fell (host ∷ hosts) zero now le = (le, none_fell_yet hosts)
seat_fell (host ∷ hosts) (suc seat) now le = (omega arith, seat_fell hosts seat now le)

-- one host was asked, and its count did not fall
pub one_asked : {H : Type 0} (faults : H → ℕ) (hosts : List H) (seat : ℕ) (default now : H) → seat < length hosts → faults (get_or hosts seat default) ≤ faults now
    → NoneFell (map faults hosts) (map faults (set hosts seat now))
one_asked faults hosts seat default now inside later =
    rw (faults_set faults hosts seat now) (seat_fell (map faults hosts) seat (faults now) (omega (arith, later, faults_at faults hosts seat default inside)))

-- the count of the host that was asked, by its place
pub asked_count : {T E H : Type 0} (result : Result T E) (faults : H → ℕ) (hosts : List H) (seat : ℕ) (default : H) (Fits : State → Answer → Type 0) (state : State) (number : ℕ) (before now : List ℕ) (is : ℕ)
    → seat < length hosts → OnOk result (AnswerTold Fits state number before now (faults (get_or hosts seat default)) is)
    → OnOk result (AnswerTold Fits state number before now (get_or (map faults hosts) seat 0) is)
asked_count result faults hosts seat default Fits state number before now is inside told =
    subst (λ (n : ℕ). OnOk result (AnswerTold Fits state number before now n is)) (sym (faults_at faults hosts seat default inside)) told
