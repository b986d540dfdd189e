-- A session goes on in turn, from whatever stands written.
use Rattle.std.proofs.Common.{◌≡◌, ℕ, suc, ◌+◌, ◌%◌, ◌≤◌, List, [], ◌∷◌, ◌++◌, length, Bool, true, false, cond, Option, Some, None, Result, Ok, Err, refl, sym, ap, ◌∙◌, inl, inr, subst, arith, append_assoc, append-nil, length-append, All}
use Rattle.std.specs.Prelude.{◌==◌, slice_get, Contains, filter_map}
use Rattle.std.proofs.lemmas.Bool.{cond_both}
use Rattle.std.proofs.lemmas.List.Elements.{All-nil, All-cons, All-append, filter_map-append}
use Rattle.dnr_base.specs.Faults.{Count}
use Rattle.dnr_base.specs.declared.request.Request.{Request}
use Rattle.dnr_spec.specs.Suffixes.{SuffixRule}
use Rattle.rule_spec.specs.State.{State}
use Rattle.update_spec.specs.declared.refusal.Refusal.{Refusal}
use Rattle.update_spec.specs.Entries.{Entry, one, batch as together, judge, after}
use Rattle.line_spec.specs.declared.command_path.CommandPath.TheVariants.{Cmd}
use Rattle.line_spec.specs.declared.line_fault.LineFault.{LineFault}
use Rattle.line_spec.specs.declared.line_fault.LineFault.TheVariants.{BadCommand}
use Rattle.line_spec.specs.Line.{Command, blank, sync, request, explain, update, batch, command_of}
use Rattle.session_spec.specs.Answers.{Setting, known_with, said_refused, Applies, IsAnswered, Explains, AnswersBy, RepliesWhy, Replies, Says, LinesSay, RoundsSay, HostRisesBy, Serves}
use Rattle.session_spec.specs.InTurn.{said_by, left_by, answer_in_turn, why_in_turn, reply_in_turn, state_in_turn, lines_in_turn, rounds_in_turn}
use Rattle.session_spec.specs.Rounds.{Held, holds_nothing, with_line, asks}
use Rattle.session_spec.specs.Said.{Answer, is_failed, Said, nothing, accepted, synced, bad, stopped, answered, said_line, lines_text, number_by, numbers_by, NeverFallFrom, count_failed, count_stopped}
use Rattle.run_laws.specs.Finished.{GoesOn}
use Rattle.session_laws.specs.Turns.{LineTold}
use Rattle.session_laws.proofs.Rises.{RisesWith}
use Rattle.session_laws.proofs.Served.{Served, count_in, served_first, served_more, served_round, serves_rounds}
use Rattle.session_laws.proofs.Told.{line_rises}

-- ---- a line that is answered in turn

applied_in_turn : (now : State) (entry : Entry) (judged : Option (ℕ × Refusal)) → Applies now entry judged (said_by now entry judged) (left_by now entry judged)
applied_in_turn now entry None = (refl, refl)
applied_in_turn now entry (Some at) = (refl, refl)

answered_in_turn : (follows : Bool) (suffixes : List SuffixRule) (now : State) (r : Request) → AnswersBy follows suffixes r now (answer_in_turn follows suffixes now r)
answered_in_turn true suffixes now r = refl
answered_in_turn false suffixes now r = refl

alone : (now : State) → Contains (now ∷ []) now
alone now = (0, omega arith, refl)

explained_in_turn : (follows : Bool) (suffixes : List SuffixRule) (now : State) (seat : ℕ) (r : Request) → RepliesWhy follows suffixes (now ∷ []) seat r (why_in_turn follows suffixes now seat r)
explained_in_turn true suffixes now seat r = refl
explained_in_turn false suffixes now seat r = record { state = now; answer = _; passed = alone now; fits = refl; same = refl }

reply_is : (setting : Setting) (now : State) (seat : ℕ) (read : Result Command LineFault) → Replies setting (now ∷ []) now seat read (reply_in_turn setting now seat read) (state_in_turn now read)
reply_is setting now seat (Ok blank) = (refl, refl)
reply_is setting now seat (Ok sync) = (refl, refl)
reply_is setting now seat (Ok (request r)) =
    (record { state = now; answer = answer_in_turn setting.follows setting.suffixes now r; passed = alone now; fits = answered_in_turn setting.follows setting.suffixes now r; same = refl }, refl)
reply_is setting now seat (Ok (explain r)) = (explained_in_turn setting.follows setting.suffixes now seat r, refl)
reply_is setting now seat (Ok (update new)) = applied_in_turn now (one new) (judge now (one new))
reply_is setting now seat (Ok (batch all)) = applied_in_turn now (together all) (judge now (together all))
reply_is setting now seat (Err fault) = (refl, refl)

-- ---- no host fails

record IsQuiet (told : Said) : Type 0 where
  finders : (seat : ℕ) → count_failed seat (told ∷ []) ≡ 0
  checker : count_stopped (told ∷ []) ≡ 0

applied_quiet : (now : State) (entry : Entry) (judged : Option (ℕ × Refusal)) → IsQuiet (said_by now entry judged)
applied_quiet now entry None = record { finders = λ seat. refl; checker = refl }
applied_quiet now (one new) (Some at) = record { finders = λ seat. refl; checker = refl }
applied_quiet now (together all) (Some at) = record { finders = λ seat. refl; checker = refl }

answer_quiet : (by number : ℕ) (answer : Answer) → is_failed answer ≡ false → IsQuiet (answered by number answer)
answer_quiet by number answer whole = record {
  finders = λ seat. cond_both (by == seat) (is_failed answer) false (λ (fails : Bool). 0 + cond {A = ℕ} fails 1 0 ≡ 0) (λ _. rw whole refl) (λ _. refl);
  checker = refl;
}

answers_quiet : (follows : Bool) (suffixes : List SuffixRule) (now : State) (r : Request) → is_failed (answer_in_turn follows suffixes now r) ≡ false
answers_quiet true suffixes now r = refl
answers_quiet false suffixes now r = refl

why_quiet : (follows : Bool) (suffixes : List SuffixRule) (now : State) (seat : ℕ) (r : Request) → IsQuiet (why_in_turn follows suffixes now seat r)
why_quiet true suffixes now seat r = record { finders = λ seat. refl; checker = refl }
why_quiet false suffixes now seat r = answer_quiet seat now.count _ refl

reply_quiet : (setting : Setting) (now : State) (seat : ℕ) (read : Result Command LineFault) → IsQuiet (reply_in_turn setting now seat read)
reply_quiet setting now seat (Ok blank) = record { finders = λ seat. refl; checker = refl }
reply_quiet setting now seat (Ok sync) = record { finders = λ seat. refl; checker = refl }
reply_quiet setting now seat (Ok (request r)) = answer_quiet seat now.count _ (answers_quiet setting.follows setting.suffixes now r)
reply_quiet setting now seat (Ok (explain r)) = why_quiet setting.follows setting.suffixes now seat r
reply_quiet setting now seat (Ok (update new)) = applied_quiet now (one new) (judge now (one new))
reply_quiet setting now seat (Ok (batch all)) = applied_quiet now (together all) (judge now (together all))
reply_quiet setting now seat (Err fault) = record { finders = λ seat. refl; checker = refl }

more_times : (times more : ℕ) (host : Option Count) → more ≡ 0 → HostRisesBy times host → HostRisesBy (times + more) host
more_times times more host none risen = let same : times ≡ times + more = omega (arith, none) in subst (λ (n : ℕ). HostRisesBy n host) same risen

quiet_rises : (hosts : List Count) (told : Said) → IsQuiet told → RisesWith hosts hosts told
quiet_rises hosts told quiet = record {
  finders = λ seat times risen. more_times times (count_failed seat (told ∷ [])) (slice_get hosts (suc seat)) (quiet.finders seat) risen;
  checker = λ times risen. more_times times (count_stopped (told ∷ [])) (slice_get hosts 0) quiet.checker risen;
}

-- ---- the lines of a round

-- the lines were answered in turn, and `later` says what is said after them
record LinesGoOn (setting : Setting) (first : State) (hosts : List Count) (rounds : List (List (List ℕ))) (round : List (List ℕ)) (written spelled : List ℕ) (later : State → ℕ → List Said) : Type 0 where
  text : List ℕ
  now : State
  held : Held
  number : ℕ
  served : Served setting first hosts rounds round written text now held number
  same : spelled ≡ text ++ lines_text number (later now number)

lines_go_on : (setting : Setting) (first : State) (hosts : List Count) (rounds : List (List (List ℕ))) (begun : List (List ℕ)) (written text : List ℕ) (now : State) (held : Held) (number : ℕ)
    (lines : List (List ℕ)) (later : State → ℕ → List Said) → Served setting first hosts rounds begun written text now held number
    → LinesGoOn setting first hosts rounds (begun ++ lines) written (text ++ lines_text number (lines_in_turn setting now number held.asked lines later)) later
lines_go_on setting first hosts rounds begun written text now held number [] later served = record {
  text = text;
  now = now;
  held = held;
  number = number;
  served = subst (λ (round : List (List ℕ)). Served setting first hosts rounds round written text now held number) (sym (append-nil begun)) served;
  same = refl;
}
lines_go_on setting first hosts rounds begun written text now held number (line ∷ lines) later served =
    let seat : ℕ = held.asked % setting.workers in
    let read : Result Command LineFault = known_with setting.updates (command_of number line) in
    let told : Said = reply_in_turn setting now seat read in
    let next : State = state_in_turn now read in
    let grown : List ℕ = text ++ said_line number told in
    let one : LineTold setting now number seat line text grown next (RisesWith hosts hosts) = record {
      told = told;
      says = inl (reply_is setting now seat read);
      appended = refl;
      rises = quiet_rises hosts told (reply_quiet setting now seat read);
    } in
    let more = lines_go_on setting first hosts rounds (begun ++ line ∷ []) written grown next (with_line held number line) (number + 1) lines later
    (served_more setting first hosts hosts rounds begun written text now held number line grown next served one) in
    record {
      text = more.text;
      now = more.now;
      held = more.held;
      number = more.number;
      served = subst (λ (round : List (List ℕ)). Served setting first hosts rounds round written more.text more.now more.held more.number) (append_assoc begun (line ∷ []) lines) more.served;
      same = sym (append_assoc text (said_line number told) (lines_text (number + 1) (lines_in_turn setting next (number + 1) (with_line held number line).asked lines later))) ∙ more.same;
    }

-- ---- rounds

record RoundsGoOn (setting : Setting) (first : State) (hosts : List Count) (rounds : List (List (List ℕ))) (written : List ℕ) : Type 0 where
  now : State
  number : ℕ
  served : Served setting first hosts rounds [] written [] now holds_nothing number

rounds_go_on : (setting : Setting) (first : State) (hosts : List Count) (rounds : List (List (List ℕ))) (written : List ℕ) (now : State) (number : ℕ)
    (more : List (List (List ℕ))) → Served setting first hosts rounds [] written [] now holds_nothing number
    → RoundsGoOn setting first hosts (rounds ++ more) (written ++ lines_text number (rounds_in_turn setting now number more))
rounds_go_on setting first hosts rounds written now number [] served = record {
  now = now;
  number = number;
  served = rw (append-nil rounds, append-nil written) served;
}
rounds_go_on setting first hosts rounds written now number (round ∷ more) served =
    let later : State → ℕ → List Said = λ next after. rounds_in_turn setting next after more in
    let one = lines_go_on setting first hosts rounds [] written [] now holds_nothing number round later served in
    let rest = rounds_go_on setting first hosts (rounds ++ round ∷ []) (written ++ one.text) one.now one.number more
    (served_round setting first hosts rounds round written one.text one.now one.held one.number one.served) in
    let text : written ++ lines_text number (rounds_in_turn setting now number (round ∷ more)) ≡ (written ++ one.text) ++ lines_text one.number (rounds_in_turn setting one.now one.number more) =
    ap (λ t. written ++ t) one.same ∙ sym (append_assoc written one.text (lines_text one.number (rounds_in_turn setting one.now one.number more))) in
    record {
      now = rest.now;
      number = rest.number;
      served = subst (λ (t : List ℕ). Served setting first hosts (rounds ++ round ∷ more) [] t [] rest.now holds_nothing rest.number) (sym text)
          (subst (λ (rs : List (List (List ℕ))). Served setting first hosts rs [] ((written ++ one.text) ++ lines_text one.number (rounds_in_turn setting one.now one.number more)) [] rest.now holds_nothing rest.number)
          (append_assoc rounds (round ∷ []) more) rest.served);
    }

-- all rounds in turn, from the first line on
pub served_in_turn : (hosts : List Count) (setting : Setting) (first : State) (rounds : List (List (List ℕ))) → ((place : ℕ) → HostRisesBy 0 (slice_get hosts place))
    → Serves hosts setting first rounds (lines_text 1 (rounds_in_turn setting first 1 rounds))
served_in_turn hosts setting first rounds none =
    let all = rounds_go_on setting first hosts [] [] first 1 rounds (served_first setting first hosts none) in
    serves_rounds setting first hosts rounds [] (lines_text 1 (rounds_in_turn setting first 1 rounds)) [] all.now holds_nothing all.number all.served

-- ---- from whatever was served

lines_rise : (setting : Setting) (states : List State) (now : State) (number asked : ℕ) (lines : List (List ℕ)) (said : List Said) (through : List State) (last : State)
    → LinesSay setting states now number asked lines said through last → now.count ≤ last.count
lines_rise setting states now number asked [] said through last says = let same = ap (λ (s : State). s.count) says.2 in omega (arith, same)
lines_rise setting states now number asked (line ∷ lines) said through last says =
    let one = line_rises setting states now number (asked % setting.workers) line says.told says.next says.first in
    omega (arith, one, lines_rise setting states says.next (number + 1) (asked + asks (command_of number line)) lines says.others says.later last says.rest)

-- no state has counted more than this
abbrev Below : ℕ → List State → Type 0
Below most states = All (λ state. state.count ≤ most) states

through_below : (setting : Setting) (states : List State) (now : State) (number asked : ℕ) (lines : List (List ℕ)) (said : List Said) (through : List State) (last : State)
    → LinesSay setting states now number asked lines said through last → Below last.count through
through_below setting states now number asked [] said through last says =
    let same = ap (λ (s : State). s.count) says.2 in
    subst (Below last.count) (sym says.1) (All-cons (λ (s : State). s.count ≤ last.count) now [] (omega (arith, same)) (All-nil (λ (s : State). s.count ≤ last.count)))
through_below setting states now number asked (line ∷ lines) said through last says =
    let rises = lines_rise setting states now number asked (line ∷ lines) said through last says in
    subst (Below last.count) (sym says.passes) (All-cons (λ (s : State). s.count ≤ last.count) now says.later rises
    (through_below setting states says.next (number + 1) (asked + asks (command_of number line)) lines says.others says.later last says.rest))

-- the numbers of a seat's answers are no more than this
abbrev Low : ℕ → List Said → Type 0
Low most said = (seat : ℕ) → All (λ number. number ≤ most) (numbers_by seat said)

none_low : (most : ℕ) (told other : Said) → ((seat : ℕ) → number_by seat other ≡ None) → told ≡ other → Low most (told ∷ [])
none_low most told other none is seat =
    let no : number_by seat told ≡ None = ap (number_by seat) is ∙ none seat in rw no (All-nil (λ (n : ℕ). n ≤ most))

answer_low : (most : ℕ) (states : List State) (seat : ℕ) (Fits : State → Answer → Type 0) (told : Said) → Below most states → IsAnswered states seat Fits told → Low most (told ∷ [])
answer_low most states seat Fits told below by other =
    let few : by.state.count ≤ most = subst (λ (s : State). s.count ≤ most) by.passed.2 (below by.passed.0 by.state by.passed.1) in
    rw by.same (cond_both (seat == other) (Some by.state.count) None (λ (number : Option ℕ). All (λ (n : ℕ). n ≤ most) (filter_map (λ (o : Option ℕ). o) (number ∷ [])))
    (λ _. All-cons (λ (n : ℕ). n ≤ most) by.state.count [] few (All-nil (λ (n : ℕ). n ≤ most))) (λ _. All-nil (λ (n : ℕ). n ≤ most)))

refusal_numbered : (seat : ℕ) (entry : Entry) (at : ℕ × Refusal) → number_by seat (said_refused entry at) ≡ None
refusal_numbered seat (one new) at = refl
refusal_numbered seat (together all) at = refl

applied_low : (most : ℕ) (now : State) (entry : Entry) (judged : Option (ℕ × Refusal)) (told : Said) (next : State) → Applies now entry judged told next → Low most (told ∷ [])
applied_low most now entry None told next applies = none_low most told (accepted (after now entry).count) (λ seat. refl) applies.0
applied_low most now entry (Some at) told next applies = none_low most told (said_refused entry at) (λ seat. refusal_numbered seat entry at) applies.0

why_low : (most : ℕ) (follows : Bool) (suffixes : List SuffixRule) (states : List State) (seat : ℕ) (r : Request) (told : Said) → Below most states
    → RepliesWhy follows suffixes states seat r told → Low most (told ∷ [])
why_low most true suffixes states seat r told below says = none_low most told (bad (BadCommand Cmd)) (λ s. refl) says
why_low most false suffixes states seat r told below says = answer_low most states seat (Explains suffixes r) told below says

reply_low : (most : ℕ) (setting : Setting) (states : List State) (now : State) (seat : ℕ) (read : Result Command LineFault) (told : Said) (next : State) → Below most states
    → Replies setting states now seat read told next → Low most (told ∷ [])
reply_low most setting states now seat (Ok blank) told next below says = none_low most told nothing (λ s. refl) says.0
reply_low most setting states now seat (Ok sync) told next below says = none_low most told (synced now.count) (λ s. refl) says.0
reply_low most setting states now seat (Ok (request r)) told next below says = answer_low most states seat (AnswersBy setting.follows setting.suffixes r) told below says.0
reply_low most setting states now seat (Ok (explain r)) told next below says = why_low most setting.follows setting.suffixes states seat r told below says.0
reply_low most setting states now seat (Ok (update new)) told next below says = applied_low most now (one new) (judge now (one new)) told next says
reply_low most setting states now seat (Ok (batch all)) told next below says = applied_low most now (together all) (judge now (together all)) told next says
reply_low most setting states now seat (Err fault) told next below says = none_low most told (bad fault) (λ s. refl) says.0

line_low : (most : ℕ) (setting : Setting) (states : List State) (now : State) (number seat : ℕ) (line : List ℕ) (told : Said) (next : State) → Below most states
    → Says setting states now number seat line told next → Low most (told ∷ [])
line_low most setting states now number seat line told next below (inl says) = reply_low most setting states now seat (known_with setting.updates (command_of number line)) told next below says
line_low most setting states now number seat line told next below (inr stops) = none_low most told (stopped stops.fault) (λ s. refl) stops.same

low_both : (most : ℕ) (said more : List Said) → Low most said → Low most more → Low most (said ++ more)
low_both most said more a b seat =
    rw (filter_map-append (number_by seat) said more) (All-append (λ (n : ℕ). n ≤ most) (numbers_by seat said) (numbers_by seat more) (a seat) (b seat))

lines_low : (most : ℕ) (setting : Setting) (states : List State) (now : State) (number asked : ℕ) (lines : List (List ℕ)) (said : List Said) (through : List State) (last : State) → Below most states
    → LinesSay setting states now number asked lines said through last → Low most said
lines_low most setting states now number asked [] said through last below says = λ seat. rw says.0 (All-nil (λ (n : ℕ). n ≤ most))
lines_low most setting states now number asked (line ∷ lines) said through last below says =
    subst (Low most) (sym says.all)
    (low_both most (says.told ∷ []) says.others (line_low most setting states now number (asked % setting.workers) line says.told says.next below says.first)
    (lines_low most setting states says.next (number + 1) (asked + asks (command_of number line)) lines says.others says.later last below says.rest))

wider : (few most : ℕ) (states : List State) → few ≤ most → Below few states → Below most states
wider few most states le below k d inside = let here = below k d inside in omega (arith, le, here)

-- what rounds leave counted is at least what they begin with
rounds_rise : (setting : Setting) (now : State) (number : ℕ) (rounds : List (List (List ℕ))) (said : List Said) (last : State) → RoundsSay setting now number rounds said last → now.count ≤ last.count
rounds_rise setting now number [] said last says = let same = ap (λ (s : State). s.count) says.1 in omega (arith, same)
rounds_rise setting now number (round ∷ rounds) said last says =
    let one = lines_rise setting says.first.states now number 0 round says.told says.first.states says.next says.first.says in
    omega (arith, one, rounds_rise setting says.next (number + length round) rounds says.others last says.rest)

rounds_low : (setting : Setting) (now : State) (number : ℕ) (rounds : List (List (List ℕ))) (said : List Said) (last : State) → RoundsSay setting now number rounds said last → Low last.count said
rounds_low setting now number [] said last says = λ seat. rw says.0 (All-nil (λ (n : ℕ). n ≤ last.count))
rounds_low setting now number (round ∷ rounds) said last says =
    let states = says.first.states in
    let below = wider says.next.count last.count states (rounds_rise setting says.next (number + length round) rounds says.others last says.rest)
    (through_below setting states now number 0 round says.told states says.next says.first.says) in
    subst (Low last.count) (sym says.all)
    (low_both last.count says.told says.others (lines_low last.count setting states now number 0 round says.told states says.next below says.first.says)
    (rounds_low setting says.next (number + length round) rounds says.others last says.rest))

-- numbers that never fall, and one that none of them is above
fall_on : (least most : ℕ) (numbers : List ℕ) → least ≤ most → NeverFallFrom least numbers → All (λ number. number ≤ most) numbers → NeverFallFrom least (numbers ++ most ∷ [])
fall_on least most [] le order low = (le, tt)
fall_on least most (first ∷ numbers) le order low =
    let here : first ≤ most = low 0 first (omega arith) in
    (order.0, fall_on first most numbers here order.1 (λ k d inside. low (suc k) d (omega (arith, inside))))

as_many_lines : (setting : Setting) (states : List State) (now : State) (number asked : ℕ) (lines : List (List ℕ)) (said : List Said) (through : List State) (last : State)
    → LinesSay setting states now number asked lines said through last → length said ≡ length lines
as_many_lines setting states now number asked [] said through last says = ap length says.0
as_many_lines setting states now number asked (line ∷ lines) said through last says =
    omega (arith, as_many_lines setting states says.next (number + 1) (asked + asks (command_of number line)) lines says.others says.later last says.rest, ap length says.all)

as_many_said : (setting : Setting) (now : State) (number : ℕ) (rounds : List (List (List ℕ))) (said : List Said) (last : State) → RoundsSay setting now number rounds said last → length said ≡ count_in rounds
as_many_said setting now number [] said last says = ap length says.0
as_many_said setting now number (round ∷ rounds) said last says =
    let one = as_many_lines setting says.first.states now number 0 round says.told says.first.states says.next says.first.says in
    let more = as_many_said setting says.next (number + length round) rounds says.others last says.rest in
    ap length says.all ∙ omega (arith, one, more, length-append says.told says.others)

served_of : (hosts : List Count) (setting : Setting) (first : State) (rounds : List (List (List ℕ))) (written : List ℕ) → (serves : Serves hosts setting first rounds written)
    → Served setting first hosts rounds [] written [] serves.last holds_nothing (1 + count_in rounds)
served_of hosts setting first rounds written serves = record {
  said = serves.said;
  middle = serves.last;
  says = serves.says;
  start = 1 + count_in rounds;
  after_said = omega (arith, as_many_said setting first 1 rounds serves.said serves.last serves.says);
  after_rounds = refl;
  told = [];
  through = serves.last ∷ [];
  turns = (refl, refl, refl, refl);
  here = omega arith;
  as_many = refl;
  order = λ seat. rw (append-nil serves.said) (fall_on 0 serves.last.count (numbers_by seat serves.said) (omega arith) (serves.order seat) (rounds_low setting first 1 rounds serves.said serves.last serves.says seat));
  sent = serves.text;
  kept = refl;
  finders = λ seat. rw (append-nil serves.said) (serves.finders seat);
  checker = rw (append-nil serves.said) serves.checker;
}

-- the next rounds may be served behind what was served
pub goes_on : (hosts : List Count) (setting : Setting) (first : State) (rounds more : List (List (List ℕ))) (written : List ℕ) → Serves hosts setting first rounds written
    → GoesOn hosts setting first rounds more written
goes_on hosts setting first rounds more written serves =
    let number = 1 + count_in rounds in
    let rest = lines_text number (rounds_in_turn setting serves.last number more) in
    let all = rounds_go_on setting first hosts rounds written serves.last number more (served_of hosts setting first rounds written serves) in
    record { rest = rest; serves = serves_rounds setting first hosts (rounds ++ more) [] (written ++ rest) [] all.now holds_nothing all.number all.served }
