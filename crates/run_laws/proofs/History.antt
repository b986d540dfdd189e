-- Each line of a session by the one list of all that was accepted.
use Rattle.std.proofs.Common.{◌≡◌, ◌⊎◌, ℕ, zero, suc, ◌+◌, ◌%◌, ◌≤◌, List, [], ◌∷◌, ◌++◌, length, take, Bool, true, false, Option, Some, None, Result, Ok, Err, refl, sym, ap, ◌∙◌, inl, inr, subst, arith, append_assoc, length-append}
use Rattle.std.specs.Prelude.{slice_get, fold, Contains}
use Rattle.std.proofs.Math.Seq.{take-append_seam, take-append-add}
use Rattle.std.proofs.lemmas.List.{take-append-le, length-take-le}
use Rattle.std.proofs.lemmas.List.Sums.{fold-append}
use Rattle.dnr_base.specs.declared.request.Request.{Request}
use Rattle.dnr_base.specs.Faults.{Count}
use Rattle.dnr_spec.specs.Suffixes.{SuffixRule}
use Rattle.rule_spec.specs.State.{State}
use Rattle.update_spec.specs.declared.refusal.Refusal.{Refusal}
use Rattle.update_spec.specs.Update.{Update, changed}
use Rattle.update_spec.specs.Entries.{Entry, one, batch as together, judge, after, replay}
use Rattle.line_spec.specs.declared.line_fault.LineFault.{LineFault}
use Rattle.line_spec.specs.Line.{Command, blank, sync, request, explain, update, batch, command_of}
use Rattle.session_spec.specs.Answers.{Setting, known_with, Applies, Explains, AnswersBy, RepliesWhy, IsAnswered, Replies, Says, LinesSay, RoundSays, RoundsSay, Serves}
use Rattle.session_spec.specs.Rounds.{asks}
use Rattle.session_spec.specs.Said.{Answer, Said, accepted, synced, answered}
use Rattle.run_laws.specs.History.{entry_in, if_accepted, accepted_from, lines_in, Place, round_at, rounds_around, lines_before, number_at, command_at, asked_in, seat_at, Transcript, accepted_in, all_accepted, state_after, count_before, count_in_earlier, count_when_ended, IsAnsweredAt, IsJudged, TellsWhy, Tells, IsStopped, IsHistory}
use Rattle.session_laws.proofs.Turns.{only_one}

-- ---- one entry, and as many as there are lines

changes_keep_count : (updates : List Update) (state : State) → (fold changed state updates).count ≡ state.count
changes_keep_count [] state = refl
changes_keep_count (first ∷ updates) state = changes_keep_count updates (changed state first)

entry_counts : (state : State) (entry : Entry) → (after state entry).count ≡ state.count + 1
entry_counts state (one new) = refl
entry_counts state (together all) = ap (λ n. n + 1) (changes_keep_count all state)

as_many_said : (setting : Setting) (states : List State) (now : State) (number asked : ℕ) (lines : List (List ℕ)) (said : List Said) (through : List State) (last : State)
    → LinesSay setting states now number asked lines said through last → length said ≡ length lines
as_many_said setting states now number asked [] said through last says = ap length says.0
as_many_said setting states now number asked (line ∷ lines) said through last says =
    let more = as_many_said setting states says.next (number + 1) (asked + asks (command_of number line)) lines says.others says.later last says.rest in
    omega (arith, more, ap length says.all)

-- ---- what was accepted

-- what is said after these lines says nothing of them
pub more_said : (updates : Bool) (number : ℕ) (lines : List (List ℕ)) (said more : List Said) → length said ≡ length lines
    → accepted_from updates number lines (said ++ more) ≡ accepted_from updates number lines said
more_said updates number [] said more same = refl
more_said updates number (line ∷ lines) [] more same = absurd (omega (arith, same))
more_said updates number (line ∷ lines) (told ∷ said) more same =
    ap (λ es. if_accepted told (entry_in (known_with updates (command_of number line))) ++ es) (more_said updates (number + 1) lines said more (omega (arith, same)))

pub lines_more : (updates : Bool) (number next : ℕ) (lines others : List (List ℕ)) (said more : List Said) → length said ≡ length lines → next ≡ number + length lines
    → accepted_from updates number (lines ++ others) (said ++ more) ≡ accepted_from updates number lines said ++ accepted_from updates next others more
lines_more updates number next [] others [] more same place = let here : number ≡ next = omega (arith, place) in ap (λ n. accepted_from updates n others more) here
lines_more updates number next [] others (told ∷ said) more same place = absurd (omega (arith, same))
lines_more updates number next (line ∷ lines) others [] more same place = absurd (omega (arith, same))
lines_more updates number next (line ∷ lines) others (told ∷ said) more same place =
    let es = if_accepted told (entry_in (known_with updates (command_of number line))) in
    ap (λ l. es ++ l) (lines_more updates (number + 1) next lines others said more (omega (arith, same)) (omega (arith, place)))
    ∙ sym (append_assoc es (accepted_from updates (number + 1) lines said) (accepted_from updates next others more))

-- a list that begins so
record Begins (entries all : List Entry) : Type 0 where
  rest : List Entry
  whole : all ≡ entries ++ rest

-- what was accepted of first lines is the beginning of what was accepted
first_lines : (updates : Bool) (number : ℕ) (lines others : List (List ℕ)) (said : List Said)
    → Begins (accepted_from updates number lines said) (accepted_from updates number (lines ++ others) said)
first_lines updates number [] others said = record { rest = accepted_from updates number others said; whole = refl }
first_lines updates number (line ∷ lines) others [] = record { rest = []; whole = refl }
first_lines updates number (line ∷ lines) others (told ∷ said) =
    let es = if_accepted told (entry_in (known_with updates (command_of number line))) in
    let more = first_lines updates (number + 1) lines others said in
    record { rest = more.rest; whole = ap (λ l. es ++ l) more.whole ∙ sym (append_assoc es (accepted_from updates (number + 1) lines said) more.rest) }

replay_counts : (state : State) (entries : List Entry) → (replay state entries).count ≡ state.count + length entries
replay_counts state [] = omega arith
replay_counts state (entry ∷ entries) = omega (arith, replay_counts (after state entry) entries, entry_counts state entry)

-- ---- the state after a line

applied_leaves : (now : State) (entry : Entry) (judged : Option (ℕ × Refusal)) (told : Said) (next : State) → Applies now entry judged told next
    → next ≡ replay now (if_accepted told (entry ∷ []))
applied_leaves now entry None told next applies = rw applies.0 applies.1
applied_leaves now (one new) (Some at) told next applies = rw applies.0 applies.1
applied_leaves now (together all) (Some at) told next applies = rw applies.0 applies.1

why_leaves : (follows : Bool) (suffixes : List SuffixRule) (states : List State) (now : State) (seat : ℕ) (r : Request) (told : Said) (next : State)
    → RepliesWhy follows suffixes states seat r told → next ≡ now → next ≡ replay now (if_accepted told [])
why_leaves true suffixes states now seat r told next says same = rw says same
why_leaves false suffixes states now seat r told next says same = rw says.same same

reply_leaves : (setting : Setting) (states : List State) (now : State) (seat : ℕ) (read : Result Command LineFault) (told : Said) (next : State)
    → Replies setting states now seat read told next → next ≡ replay now (if_accepted told (entry_in read))
reply_leaves setting states now seat (Ok blank) told next says = rw says.0 says.1
reply_leaves setting states now seat (Ok sync) told next says = rw says.0 says.1
reply_leaves setting states now seat (Ok (request r)) told next says = rw says.0.same says.1
reply_leaves setting states now seat (Ok (explain r)) told next says = why_leaves setting.follows setting.suffixes states now seat r told next says.0 says.1
reply_leaves setting states now seat (Ok (update new)) told next says = applied_leaves now (one new) (judge now (one new)) told next says
reply_leaves setting states now seat (Ok (batch all)) told next says = applied_leaves now (together all) (judge now (together all)) told next says
reply_leaves setting states now seat (Err fault) told next says = rw says.0 says.1

line_leaves : (setting : Setting) (states : List State) (now : State) (number seat : ℕ) (line : List ℕ) (told : Said) (next : State)
    → Says setting states now number seat line told next → next ≡ replay now (if_accepted told (entry_in (known_with setting.updates (command_of number line))))
line_leaves setting states now number seat line told next (inl says) = reply_leaves setting states now seat (known_with setting.updates (command_of number line)) told next says
line_leaves setting states now number seat line told next (inr stops) = rw stops.same stops.stays

-- ---- the states of a round

-- the first so many of these entries leave this state
record IsReached (now : State) (entries : List Entry) (state : State) : Type 0 where
  count : ℕ
  few : count ≤ length entries
  same : state ≡ replay now (take count entries)

reached_first : (now : State) (entries : List Entry) (state : State) → now ≡ state → IsReached now entries state
reached_first now entries state is = record { count = 0; few = omega arith; same = sym is }

reached_later : (now next : State) (these entries : List Entry) (state : State) → next ≡ replay now these → IsReached next entries state → IsReached now (these ++ entries) state
reached_later now next these entries state leaves later = record {
  count = length these + later.count;
  few = omega (arith, later.few, length-append these entries);
  same = later.same ∙ ap (λ s. replay s (take later.count entries)) leaves ∙ sym (fold-append after now these (take later.count entries))
      ∙ ap (λ es. replay now es) (sym (take-append-add these entries later.count));
}

reached_in : (now next : State) (these entries : List Entry) (later : List State) (state : State) → next ≡ replay now these
    → (Contains later state → IsReached next entries state) → Contains (now ∷ later) state → IsReached now (these ++ entries) state
reached_in now next these entries later state leaves reached (zero, inside, is) = reached_first now (these ++ entries) state is
reached_in now next these entries later state leaves reached (suc k, inside, is) =
    reached_later now next these entries state leaves (reached (k, omega (arith, inside), is))

states_reached : (setting : Setting) (states : List State) (now : State) (number asked : ℕ) (lines : List (List ℕ)) (said : List Said) (through : List State) (last state : State)
    → LinesSay setting states now number asked lines said through last → Contains through state → IsReached now (accepted_from setting.updates number lines said) state
states_reached setting states now number asked [] said through last state says among =
    reached_first now [] state (only_one now state (subst (λ (t : List State). Contains t state) says.1 among))
states_reached setting states now number asked (line ∷ lines) said through last state says among =
    subst (λ (s : List Said). IsReached now (accepted_from setting.updates number (line ∷ lines) s) state) (sym says.all)
    (reached_in now says.next (if_accepted says.told (entry_in (known_with setting.updates (command_of number line)))) (accepted_from setting.updates (number + 1) lines says.others) says.later state
    (line_leaves setting states now number (asked % setting.workers) line says.told says.next says.first)
    (states_reached setting states says.next (number + 1) (asked + asks (command_of number line)) lines says.others says.later last state says.rest)
    (subst (λ (t : List State). Contains t state) says.passes among))

lines_leave : (setting : Setting) (states : List State) (now : State) (number asked : ℕ) (lines : List (List ℕ)) (said : List Said) (through : List State) (last : State)
    → LinesSay setting states now number asked lines said through last → last ≡ replay now (accepted_from setting.updates number lines said)
lines_leave setting states now number asked [] said through last says = says.2
lines_leave setting states now number asked (line ∷ lines) said through last says =
    let es = if_accepted says.told (entry_in (known_with setting.updates (command_of number line))) in
    let more = accepted_from setting.updates (number + 1) lines says.others in
    subst (λ (s : List Said). last ≡ replay now (accepted_from setting.updates number (line ∷ lines) s)) (sym says.all)
    (lines_leave setting states says.next (number + 1) (asked + asks (command_of number line)) lines says.others says.later last says.rest
    ∙ ap (λ s. replay s more) (line_leaves setting states now number (asked % setting.workers) line says.told says.next says.first)
    ∙ sym (fold-append after now es more))

-- ---- a line in its round

record AtLine (setting : Setting) (states : List State) (now : State) (number : ℕ) (before : List (List ℕ)) (line : List ℕ) (said : List Said) (here asked : ℕ) : Type 0 where
  ahead : List Said
  told : Said
  rest : List Said
  next : State
  all : said ≡ ahead ++ told ∷ rest
  as_many : length ahead ≡ length before
  says : Says setting states (replay now (accepted_from setting.updates number before ahead)) here (asked % setting.workers) line told next

at_line : (setting : Setting) (states : List State) (now : State) (number asked : ℕ) (before : List (List ℕ)) (line : List ℕ) (behind : List (List ℕ)) (said : List Said) (through : List State) (last : State) (here all : ℕ)
    → here ≡ number + length before → all ≡ asked + asked_in number before
    → LinesSay setting states now number asked (before ++ line ∷ behind) said through last → AtLine setting states now number before line said here all
at_line setting states now number asked [] line behind said through last here all place many says =
    let same : number ≡ here = omega (arith, place) in
    let as_asked : asked ≡ all = omega (arith, many) in
    record {
      ahead = [];
      told = says.told;
      rest = says.others;
      next = says.next;
      all = says.all;
      as_many = refl;
      says = subst (λ (a : ℕ). Says setting states now here (a % setting.workers) line says.told says.next) as_asked
          (subst (λ (n : ℕ). Says setting states now n (asked % setting.workers) line says.told says.next) same says.first);
    }
at_line setting states now number asked (first ∷ before) line behind said through last here all place many says =
    let later = at_line setting states says.next (number + 1) (asked + asks (command_of number first)) before line behind says.others says.later last here all (omega (arith, place)) (omega (arith, many)) says.rest in
    let es = if_accepted says.told (entry_in (known_with setting.updates (command_of number first))) in
    let more = accepted_from setting.updates (number + 1) before later.ahead in
    record {
      ahead = says.told ∷ later.ahead;
      told = later.told;
      rest = later.rest;
      next = later.next;
      all = says.all ∙ ap (λ l. says.told ∷ l) later.all;
      as_many = ap suc later.as_many;
      says = subst (λ (s : State). Says setting states s here (all % setting.workers) line later.told later.next)
          (ap (λ s. replay s more) (line_leaves setting states now number (asked % setting.workers) first says.told says.next says.first) ∙ sym (fold-append after now es more)) later.says;
    }

-- ---- a round in its session

record AtRound (setting : Setting) (now : State) (number : ℕ) (earlier : List (List (List ℕ))) (round : List (List ℕ)) (said : List Said) (here : ℕ) : Type 0 where
  ahead : List Said
  told : List Said
  rest : List Said
  next : State
  all : said ≡ ahead ++ (told ++ rest)
  as_many : length ahead ≡ length (lines_in earlier)
  says : RoundSays setting (replay now (accepted_from setting.updates number (lines_in earlier) ahead)) here round told next

at_round : (setting : Setting) (now : State) (number : ℕ) (earlier : List (List (List ℕ))) (round : List (List ℕ)) (later : List (List (List ℕ))) (said : List Said) (last : State) (here : ℕ)
    → here ≡ number + length (lines_in earlier) → RoundsSay setting now number (earlier ++ round ∷ later) said last → AtRound setting now number earlier round said here
at_round setting now number [] round later said last here place says =
    let same : number ≡ here = omega (arith, place) in
    record {
      ahead = [];
      told = says.told;
      rest = says.others;
      next = says.next;
      all = says.all;
      as_many = refl;
      says = subst (λ (n : ℕ). RoundSays setting now n round says.told says.next) same says.first;
    }
at_round setting now number (first ∷ earlier) round later said last here place says =
    let as_long = as_many_said setting says.first.states now number 0 first says.told says.first.states says.next says.first.says in
    let further = at_round setting says.next (number + length first) earlier round later says.others last here (omega (arith, place, length-append first (lines_in earlier))) says.rest in
    let these = accepted_from setting.updates number first says.told in
    let more = accepted_from setting.updates (number + length first) (lines_in earlier) further.ahead in
    record {
      ahead = says.told ++ further.ahead;
      told = further.told;
      rest = further.rest;
      next = further.next;
      all = says.all ∙ ap (λ l. says.told ++ l) further.all ∙ sym (append_assoc says.told further.ahead (further.told ++ further.rest));
      as_many = omega (arith, as_long, further.as_many, length-append says.told further.ahead, length-append first (lines_in earlier));
      says = subst (λ (s : State). RoundSays setting s here round further.told further.next)
          (ap (λ s. replay s more) (lines_leave setting says.first.states now number 0 first says.told says.first.states says.next says.first.says)
          ∙ sym (fold-append after now these more)
          ∙ ap (λ es. replay now es) (sym (lines_more setting.updates number (number + length first) first (lines_in earlier) says.told further.ahead as_long refl))) further.says;
    }

rounds_as_many : (setting : Setting) (now : State) (number : ℕ) (rounds : List (List (List ℕ))) (said : List Said) (last : State) → RoundsSay setting now number rounds said last → length said ≡ length (lines_in rounds)
rounds_as_many setting now number [] said last says = ap length says.0
rounds_as_many setting now number (round ∷ rounds) said last says =
    let as_long = as_many_said setting says.first.states now number 0 round says.told says.first.states says.next says.first.says in
    let more = rounds_as_many setting says.next (number + length round) rounds says.others last says.rest in
    ap length says.all ∙ omega (arith, as_long, more, length-append says.told says.others, length-append round (lines_in rounds))

lines_around : (earlier : List (List (List ℕ))) (round : List (List ℕ)) (later : List (List (List ℕ))) → lines_in (earlier ++ round ∷ later) ≡ lines_in earlier ++ (round ++ lines_in later)
lines_around [] round later = refl
lines_around (first ∷ earlier) round later = ap (λ l. first ++ l) (lines_around earlier round later) ∙ sym (append_assoc first (lines_in earlier) (round ++ lines_in later))

at_seam : {X : Type 0} (xs : List X) (x : X) (ys : List X) → slice_get (xs ++ x ∷ ys) (length xs) ≡ Some x
at_seam [] x ys = refl
at_seam (y ∷ xs) x ys = at_seam xs x ys

-- ---- a line by the list of all that was accepted

-- the state is that after as many as it counts, and these are as many as an answer at this place may have seen
record IsSeen (t : Transcript) (at : Place) (state : State) : Type 0 where
  same : state ≡ state_after t state.count
  least : count_in_earlier t at ≤ state.count
  most : state.count ≤ count_when_ended t at

answer_tells : (t : Transcript) (at : Place) (states : List State) (seat : ℕ) (Fits : State → Answer → Type 0) (told : Said) → seat ≡ seat_at t.setting at
    → ((state : State) → Contains states state → IsSeen t at state) → IsAnswered states seat Fits told → IsAnsweredAt t at Fits told
answer_tells t at states seat Fits told turn seen by =
    let is = seen by.state by.passed in
    record {
      number = by.state.count;
      answer = by.answer;
      same = by.same ∙ ap (λ s. answered s by.state.count by.answer) turn;
      of_state = record {
        least = is.least;
        most = is.most;
        fits = subst (λ (s : State). Fits s by.answer) is.same by.fits;
      };
    }

why_tells : (follows : Bool) (t : Transcript) (at : Place) (states : List State) (seat : ℕ) (r : Request) (told : Said) → seat ≡ seat_at t.setting at
    → ((state : State) → Contains states state → IsSeen t at state) → RepliesWhy follows t.setting.suffixes states seat r told → TellsWhy follows t at r told
why_tells true t at states seat r told turn seen says = says
why_tells false t at states seat r told turn seen says = answer_tells t at states seat (Explains t.setting.suffixes r) told turn seen says

applied_tells : (now : State) (entry : Entry) (judged : Option (ℕ × Refusal)) (told : Said) (next : State) (count : ℕ) → now.count ≡ count → Applies now entry judged told next → IsJudged count entry judged told
applied_tells now entry None told next count counts applies =
    let same : (after now entry).count ≡ count + 1 = omega (arith, counts, entry_counts now entry) in applies.0 ∙ ap accepted same
applied_tells now entry (Some at) told next count counts applies = applies.0

entry_tells : (now state : State) (entry : Entry) (told : Said) (next : State) (count : ℕ) → now ≡ state → now.count ≡ count → Applies now entry (judge now entry) told next
    → IsJudged count entry (judge state entry) told
entry_tells now state entry told next count same counts applies =
    subst (λ (s : State). IsJudged count entry (judge s entry) told) same (applied_tells now entry (judge now entry) told next count counts applies)

reply_tells : (t : Transcript) (at : Place) (states : List State) (now : State) (seat : ℕ) (read : Result Command LineFault) (told : Said) (next : State)
    → now ≡ state_after t (count_before t at) → now.count ≡ count_before t at → seat ≡ seat_at t.setting at → ((state : State) → Contains states state → IsSeen t at state)
    → Replies t.setting states now seat read told next → Tells t at read told
reply_tells t at states now seat (Ok blank) told next same counts turn seen says = says.0
reply_tells t at states now seat (Ok sync) told next same counts turn seen says = says.0 ∙ ap synced counts
reply_tells t at states now seat (Ok (request r)) told next same counts turn seen says = answer_tells t at states seat (AnswersBy t.setting.follows t.setting.suffixes r) told turn seen says.0
reply_tells t at states now seat (Ok (explain r)) told next same counts turn seen says = why_tells t.setting.follows t at states seat r told turn seen says.0
reply_tells t at states now seat (Ok (update new)) told next same counts turn seen says = entry_tells now (state_after t (count_before t at)) (one new) told next (count_before t at) same counts says
reply_tells t at states now seat (Ok (batch all)) told next same counts turn seen says = entry_tells now (state_after t (count_before t at)) (together all) told next (count_before t at) same counts says
reply_tells t at states now seat (Err fault) told next same counts turn seen says = says.0

line_tells : (t : Transcript) (at : Place) (states : List State) (now : State) (seat : ℕ) (told : Said) (next : State)
    → now ≡ state_after t (count_before t at) → now.count ≡ count_before t at → seat ≡ seat_at t.setting at → ((state : State) → Contains states state → IsSeen t at state)
    → Says t.setting states now (number_at at) seat at.line told next → Tells t at (command_at t.setting at) told ⊎ IsStopped at.line told
line_tells t at states now seat told next same counts turn seen (inl says) =
    inl (reply_tells t at states now seat (command_at t.setting at) told next same counts turn seen says)
line_tells t at states now seat told next same counts turn seen (inr stops) = inr (record { fault = stops.fault; stops = stops.stops; same = stops.same })

-- ---- every line

taken : (first : State) (entries all : List Entry) → Begins entries all → replay first entries ≡ replay first (take (length entries) all)
taken first entries all begins = ap (λ es. replay first es) (sym (ap (λ es. take (length entries) es) begins.whole ∙ take-append_seam entries begins.rest))

begins_with : (updates : Bool) (lines others whole : List (List ℕ)) (said : List Said) → whole ≡ lines ++ others → Begins (accepted_from updates 1 lines said) (accepted_from updates 1 whole said)
begins_with updates lines others whole said same =
    subst (λ (w : List (List ℕ)). Begins (accepted_from updates 1 lines said) (accepted_from updates 1 w said)) (sym same) (first_lines updates 1 lines others said)

reached_counts : (now : State) (entries : List Entry) (state : State) → (reached : IsReached now entries state) → state.count ≡ now.count + reached.count
reached_counts now entries state reached =
    ap (λ (s : State). s.count) reached.same ∙ replay_counts now (take reached.count entries) ∙ ap (λ n. now.count + n) (length-take-le reached.count entries reached.few)

-- a state of a round, by all that was accepted
seen_state : (t : Transcript) (at : Place) (earlier these : List Entry) (state : State) → t.first.count ≡ 0 → accepted_in t (lines_in at.earlier) ≡ earlier
    → accepted_in t (lines_in at.earlier ++ round_at at) ≡ earlier ++ these → Begins (earlier ++ these) (all_accepted t) → IsReached (replay t.first earlier) these state → IsSeen t at state
seen_state t at earlier these state none is_earlier is_ended begins reached =
    let counts : state.count ≡ length earlier + reached.count = omega (arith, none, reached_counts (replay t.first earlier) these state reached, replay_counts t.first earlier) in
    let within : length earlier + reached.count ≤ length (earlier ++ these) = omega (arith, reached.few, length-append earlier these) in
    record {
      same = reached.same ∙ sym (fold-append after t.first earlier (take reached.count these))
          ∙ ap (λ es. replay t.first es) (sym (ap (λ n. take n (all_accepted t)) counts ∙ ap (λ es. take (length earlier + reached.count) es) begins.whole
          ∙ take-append-le (length earlier + reached.count) (earlier ++ these) begins.rest within ∙ take-append-add earlier these reached.count));
      least = omega (arith, counts, ap (λ (es : List Entry). length es) is_earlier);
      most = omega (arith, counts, within, ap (λ (es : List Entry). length es) is_ended);
    }

-- the line before which so much was accepted
at_place : (t : Transcript) (at : Place) (earlier before : List Entry) → t.first.count ≡ 0 → accepted_in t (lines_before at) ≡ earlier ++ before → Begins (accepted_in t (lines_before at)) (all_accepted t)
    → (replay (replay t.first earlier) before ≡ state_after t (count_before t at)) × ((replay (replay t.first earlier) before).count ≡ count_before t at)
at_place t at earlier before none is begins =
    let same : replay (replay t.first earlier) before ≡ replay t.first (accepted_in t (lines_before at)) = sym (fold-append after t.first earlier before) ∙ ap (λ es. replay t.first es) (sym is) in (
      same ∙ taken t.first (accepted_in t (lines_before at)) (all_accepted t) begins,
      ap (λ (s : State). s.count) same ∙ omega (arith, none, replay_counts t.first (accepted_in t (lines_before at))),
    )

place_tells : (hosts : List Count) (setting : Setting) (first : State) (said : List Said) (last : State) (at : Place) (told : Said) → first.count ≡ 0 → RoundsSay setting first 1 (rounds_around at) said last
    → slice_get said (length (lines_before at)) ≡ Some told
    → Tells (record { hosts = hosts; setting = setting; first = first; rounds = rounds_around at; said = said }) at (command_at setting at) told ⊎ IsStopped at.line told
place_tells hosts setting first said last at told none says there =
    let t : Transcript = record { hosts = hosts; setting = setting; first = first; rounds = rounds_around at; said = said } in
    let here : ℕ = length (lines_in at.earlier) + 1 in
    let from_one : here ≡ 1 + length (lines_in at.earlier) = omega arith in
    let r : AtRound setting first 1 at.earlier (round_at at) said here = at_round setting first 1 at.earlier (round_at at) at.later said last here from_one says in
    let earlier : List Entry = accepted_from setting.updates 1 (lines_in at.earlier) r.ahead in
    let these : List Entry = accepted_from setting.updates here (round_at at) r.told in
    let as_long : length r.told ≡ length (round_at at) = as_many_said setting r.says.states (replay first earlier) here 0 (round_at at) r.told r.says.states r.next r.says.says in
    let l : AtLine setting r.says.states (replay first earlier) here at.before at.line r.told (number_at at) (asked_in here at.before) =
    at_line setting r.says.states (replay first earlier) here 0 at.before at.line at.behind r.told r.says.states r.next (number_at at) (asked_in here at.before)
    (omega (arith, length-append (lines_in at.earlier) at.before)) (omega arith) r.says.says in
    let before : List Entry = accepted_from setting.updates here at.before l.ahead in
    let behind : List Said = l.told ∷ (l.rest ++ r.rest) in
    let by_line : said ≡ r.ahead ++ (l.ahead ++ behind) = r.all ∙ ap (λ ts. r.ahead ++ (ts ++ r.rest)) l.all ∙ ap (λ ts. r.ahead ++ ts) (append_assoc l.ahead (l.told ∷ l.rest) r.rest) in
    let is_earlier : accepted_in t (lines_in at.earlier) ≡ earlier =
    ap (λ ts. accepted_from setting.updates 1 (lines_in at.earlier) ts) r.all ∙ more_said setting.updates 1 (lines_in at.earlier) r.ahead (r.told ++ r.rest) r.as_many in
    let is_ended : accepted_in t (lines_in at.earlier ++ round_at at) ≡ earlier ++ these =
    ap (λ ts. accepted_from setting.updates 1 (lines_in at.earlier ++ round_at at) ts) r.all
    ∙ lines_more setting.updates 1 here (lines_in at.earlier) (round_at at) r.ahead (r.told ++ r.rest) r.as_many from_one
    ∙ ap (λ es. earlier ++ es) (more_said setting.updates here (round_at at) r.told r.rest as_long) in
    let is_before : accepted_in t (lines_before at) ≡ earlier ++ before =
    ap (λ ts. accepted_from setting.updates 1 (lines_before at) ts) by_line
    ∙ lines_more setting.updates 1 here (lines_in at.earlier) at.before r.ahead (l.ahead ++ behind) r.as_many from_one
    ∙ ap (λ es. earlier ++ es) (more_said setting.updates here at.before l.ahead behind l.as_many) in
    let whole : lines_in (rounds_around at) ≡ lines_in at.earlier ++ (round_at at ++ lines_in at.later) = lines_around at.earlier (round_at at) at.later in
    let all_ended : lines_in (rounds_around at) ≡ (lines_in at.earlier ++ round_at at) ++ lines_in at.later = whole ∙ sym (append_assoc (lines_in at.earlier) (round_at at) (lines_in at.later)) in
    let all_before : lines_in (rounds_around at) ≡ lines_before at ++ ((at.line ∷ at.behind) ++ lines_in at.later) =
    whole ∙ ap (λ ls. lines_in at.earlier ++ ls) (append_assoc at.before (at.line ∷ at.behind) (lines_in at.later)) ∙ sym (append_assoc (lines_in at.earlier) at.before ((at.line ∷ at.behind) ++ lines_in at.later)) in
    let begins : Begins (earlier ++ these) (all_accepted t) = subst (λ (es : List Entry). Begins es (all_accepted t)) is_ended
    (begins_with setting.updates (lines_in at.earlier ++ round_at at) (lines_in at.later) (lines_in (rounds_around at)) said all_ended) in
    let begins_before : Begins (accepted_in t (lines_before at)) (all_accepted t) =
    begins_with setting.updates (lines_before at) ((at.line ∷ at.behind) ++ lines_in at.later) (lines_in (rounds_around at)) said all_before in
    let now = at_place t at earlier before none is_before begins_before in
    let place : length (lines_before at) ≡ length (r.ahead ++ l.ahead) = omega (arith, r.as_many, l.as_many, length-append (lines_in at.earlier) at.before, length-append r.ahead l.ahead) in
    let found : slice_get said (length (lines_before at)) ≡ Some l.told =
    ap (λ n. slice_get said n) place ∙ ap (λ ts. slice_get ts (length (r.ahead ++ l.ahead))) (by_line ∙ sym (append_assoc r.ahead l.ahead behind)) ∙ at_seam (r.ahead ++ l.ahead) l.told (l.rest ++ r.rest) in
    let is : l.told ≡ told = let both : Some l.told ≡ Some told = sym found ∙ there in cc both in
    subst (λ (s : Said). Tells t at (command_at setting at) s ⊎ IsStopped at.line s) is
    (line_tells t at r.says.states (replay (replay first earlier) before) (seat_at setting at) l.told l.next now.0 now.1 refl
    (λ state among. seen_state t at earlier these state none is_earlier is_ended begins
    (states_reached setting r.says.states (replay first earlier) here 0 (round_at at) r.told r.says.states r.next state r.says.says among)) l.says)

pub one_history : (hosts : List Count) (setting : Setting) (first : State) (rounds : List (List (List ℕ))) (written : List ℕ) → first.count ≡ 0
    → Serves hosts setting first rounds written → IsHistory hosts setting first rounds written
one_history hosts setting first rounds written none serves = record {
  said = serves.said;
  told = record {
    whole = rounds_as_many setting first 1 rounds serves.said serves.last serves.says;
    text = serves.text;
    lines = λ at told there.
        subst (λ (rs : List (List (List ℕ))). Tells (record { hosts = hosts; setting = setting; first = first; rounds = rs; said = serves.said }) at (command_at setting at) told ⊎ IsStopped at.line told) (sym there.among)
        (place_tells hosts setting first serves.said serves.last at told none (subst (λ (rs : List (List (List ℕ))). RoundsSay setting first 1 rs serves.said serves.last) there.among serves.says) there.says);
    order = serves.order;
    finders = serves.finders;
    checker = serves.checker;
  };
}
