-- One line of what a session wrote.
use Rattle.std.proofs.Common.{◌≡◌, ◌⊎◌, ℕ, zero, suc, ◌+◌, ◌<◌, ◌≤◌, List, [], ◌∷◌, ◌++◌, length, take, Bool, true, false, Option, Some, None, Result, Ok, Err, refl, sym, ap, ◌∙◌, inl, inr, subst, arith, append-nil}
use Rattle.std.specs.Prelude.{slice_get}
use Rattle.std.specs.List.{cons_option}
use Rattle.std.proofs.lemmas.Bool.{eq-eqb}
use Rattle.dnr_base.specs.declared.request.Request.{Request}
use Rattle.dnr_base.specs.Faults.{Count}
use Rattle.rule_spec.specs.State.{State}
use Rattle.update_spec.specs.declared.refusal.Refusal.{Refusal}
use Rattle.update_spec.specs.Entries.{Entry, one, batch as together}
use Rattle.line_spec.specs.declared.line_fault.LineFault.{LineFault}
use Rattle.line_spec.specs.Line.{Command, blank, sync, request, explain, update, batch}
use Rattle.session_spec.specs.Answers.{said_refused, Decides, Explains, Follows, AnswersBy, HostRisesBy}
use Rattle.session_spec.specs.Out.{HasRisen}
use Rattle.session_spec.specs.Said.{Answer, decided, explained, failed, traced, failed_at, Said, answered, is_failed, lines_text, number_by, numbers_by, NeverFallFrom, NeverFall, count_failed, count_stopped}
use Rattle.run_laws.specs.History.{entry_in, if_accepted, accepted_from, Place, lines_before, lines_up_to, number_at, command_at, Transcript, SaysAt, accepted_in, state_after, count_before, judged_at, IsAnsweredAt, IsJudged, TellsWhy, Tells, IsStopped}
use Rattle.run_laws.specs.Printed.{PrintsAt, IsAnswerOn, IsAfterSoMany, WasAccepted, WasRefused, WasStopped}
use Rattle.run_laws.specs.Laws.{VerdictsAreScans, RefusalsNameTheirCause, FaultsAreCounted}
use Rattle.session_laws.proofs.Told.{failed_more, stopped_more, text_append}
use Rattle.run_laws.proofs.History.{more_said, lines_more}

-- a list before an element, and behind it
record SplitAt {X : Type 0} (xs : List X) (k : ℕ) (x : X) : Type 0 where
  rest : List X
  all : xs ≡ take k xs ++ x ∷ rest
  long : length (take k xs) ≡ k

split_at : {X : Type 0} (xs : List X) (k : ℕ) (x : X) → slice_get xs k ≡ Some x → SplitAt xs k x
split_at [] k x is = absurd (cc is)
split_at (y ∷ xs) zero x is = record { rest = xs; all = let same : y ≡ x = cc is in ap (λ z. z ∷ xs) same; long = refl }
split_at (y ∷ xs) (suc k) x is =
    let further = split_at xs k x is in record { rest = further.rest; all = ap (λ zs. y ∷ zs) further.all; long = ap suc further.long }

prints_at : (t : Transcript) (written : List ℕ) (at : Place) (told : Said) → written ≡ lines_text 1 t.said → SaysAt t at told → PrintsAt t written at told
prints_at t written at told text there =
    let split = split_at t.said (length (lines_before at)) told there.says in
    let ahead : List Said = take (length (lines_before at)) t.said in
    let number : 1 + length ahead ≡ number_at at = omega (arith, split.long) in
    record {
      behind = lines_text (number_at at + 1) split.rest;
      whole = text ∙ ap (λ ts. lines_text 1 ts) split.all ∙ text_append 1 ahead (told ∷ split.rest) ∙ ap (λ n. lines_text 1 ahead ++ lines_text n (told ∷ split.rest)) number;
    }

-- ---- requests

decided_on : (t : Transcript) (at : Place) (r : Request) (answer : Answer) (state : State) → command_at t.setting at ≡ Ok (request r) → Decides t.setting.suffixes r state answer → IsAnswerOn t at answer state
decided_on t at r (decided verdict) state asked fits = (r, asked, fits)
decided_on t at r (explained explanation) state asked fits = absurd fits
decided_on t at r (failed rule) state asked fits = fits
decided_on t at r (traced way) state asked fits = absurd fits
decided_on t at r (failed_at hop rule) state asked fits = absurd fits

followed_on : (t : Transcript) (at : Place) (r : Request) (answer : Answer) (state : State) → command_at t.setting at ≡ Ok (request r) → Follows t.setting.suffixes r state answer → IsAnswerOn t at answer state
followed_on t at r (decided verdict) state asked fits = absurd fits
followed_on t at r (explained explanation) state asked fits = absurd fits
followed_on t at r (failed rule) state asked fits = absurd fits
followed_on t at r (traced way) state asked fits = (r, asked, fits)
followed_on t at r (failed_at hop rule) state asked fits = (fits.0, (r, asked, fits.1))

asked_on : (follows : Bool) (t : Transcript) (at : Place) (r : Request) (answer : Answer) (state : State) → command_at t.setting at ≡ Ok (request r)
    → AnswersBy follows t.setting.suffixes r state answer → IsAnswerOn t at answer state
asked_on true t at r answer state asked fits = followed_on t at r answer state asked fits
asked_on false t at r answer state asked fits = decided_on t at r answer state asked fits

explained_on : (t : Transcript) (at : Place) (r : Request) (answer : Answer) (state : State) → command_at t.setting at ≡ Ok (explain r) → Explains t.setting.suffixes r state answer → IsAnswerOn t at answer state
explained_on t at r (decided verdict) state asked fits = absurd fits
explained_on t at r (explained explanation) state asked fits = (r, asked, fits)
explained_on t at r (failed rule) state asked fits = fits
explained_on t at r (traced way) state asked fits = absurd fits
explained_on t at r (failed_at hop rule) state asked fits = absurd fits

-- ---- the numbers of a seat

numbered : (seat number : ℕ) (answer : Answer) (told : Said) → told ≡ answered seat number answer → number_by seat told ≡ Some number
numbered seat number answer told is = rw (is, eq-eqb seat seat refl) refl

-- numbers that never fall, without the first, if there is one
record FallsNot (least : ℕ) (rest : List ℕ) : Type 0 where
  from : ℕ
  up : least ≤ from
  later : NeverFallFrom from rest

later_numbers : (number : Option ℕ) (least : ℕ) (rest : List ℕ) → NeverFallFrom least (cons_option number rest) → FallsNot least rest
later_numbers None least rest fall = record { from = least; up = omega arith; later = fall }
later_numbers (Some n) least rest fall = record { from = n; up = fall.0; later = fall.1 }

numbers_after : (seat number least : ℕ) (answer : Answer) (told : Said) (rest : List ℕ) → told ≡ answered seat number answer → NeverFallFrom least (cons_option (number_by seat told) rest)
    → (least ≤ number) × NeverFallFrom number rest
numbers_after seat number least answer told rest is fall = subst (λ (n : Option ℕ). NeverFallFrom least (cons_option n rest)) (numbered seat number answer told is) fall

not_below : (seat number least : ℕ) (answer : Answer) (said : List Said) (place : ℕ) → NeverFallFrom least (numbers_by seat said) → slice_get said place ≡ Some (answered seat number answer) → least ≤ number
not_below seat number least answer [] place fall is = absurd (cc is)
not_below seat number least answer (told ∷ said) zero fall is = (numbers_after seat number least answer told (numbers_by seat said) (cc is) fall).0
not_below seat number least answer (told ∷ said) (suc place) fall is =
    let more = later_numbers (number_by seat told) least (numbers_by seat said) fall in
    omega (arith, more.up, not_below seat number more.from answer said place more.later is)

not_fallen : (seat older number least : ℕ) (reply answer : Answer) (said : List Said) (place later : ℕ) → place < later → NeverFallFrom least (numbers_by seat said)
    → slice_get said place ≡ Some (answered seat older reply) → slice_get said later ≡ Some (answered seat number answer) → older ≤ number
not_fallen seat older number least reply answer [] place later before fall is then = absurd (cc is)
not_fallen seat older number least reply answer (told ∷ said) place zero before fall is then = absurd (omega (arith, before))
not_fallen seat older number least reply answer (told ∷ said) zero (suc later) before fall is then =
    not_below seat number older answer said later (numbers_after seat older least reply told (numbers_by seat said) (cc is) fall).1 then
not_fallen seat older number least reply answer (told ∷ said) (suc place) (suc later) before fall is then =
    let more = later_numbers (number_by seat told) least (numbers_by seat said) fall in
    not_fallen seat older number more.from reply answer said place later (omega (arith, before)) more.later is then

-- as many as its seat has answered by on any earlier line
abbrev Seen : Transcript → Place → ℕ → ℕ → Type 0
Seen t at seat number = (other : Place) (older : ℕ) (reply : Answer) → SaysAt t other (answered seat older reply) → number_at other < number_at at → older ≤ number

has_seen : (t : Transcript) (at : Place) (seat number : ℕ) (answer : Answer) → NeverFall (numbers_by seat t.said) → SaysAt t at (answered seat number answer) → Seen t at seat number
has_seen t at seat number answer order there other older reply so before =
    not_fallen seat older number 0 reply answer t.said (length (lines_before other)) (length (lines_before at)) (omega (arith, before)) order so.says there.says

answered_on : (t : Transcript) (written : List ℕ) (at : Place) (seat number : ℕ) (answer : Answer) (Fits : State → Answer → Type 0) → PrintsAt t written at (answered seat number answer) → Seen t at seat number
    → ((other : Answer) (state : State) → Fits state other → IsAnswerOn t at other state) → IsAnsweredAt t at Fits (answered seat number answer) → IsAfterSoMany t written at seat number answer
answered_on t written at seat number answer Fits prints seen means by =
    let same_answer : by.answer ≡ answer = let is = by.same in cc is in
    let same_number : by.number ≡ number = let is = by.same in cc is in
    record {
      prints = prints;
      turn = let is = by.same in cc is;
      seen = seen;
      of_state = record {
        least = omega (arith, by.of_state.least, same_number);
        most = omega (arith, by.of_state.most, same_number);
        fits = subst (λ (n : ℕ). IsAnswerOn t at answer (state_after t n)) same_number
            (subst (λ (a : Answer). IsAnswerOn t at a (state_after t by.number)) same_answer (means by.answer (state_after t by.number) by.of_state.fits));
      };
    }

not_judged : (count : ℕ) (entry : Entry) (judged : Option (ℕ × Refusal)) (seat number : ℕ) (answer : Answer) → IsJudged count entry judged (answered seat number answer) → ⊥
not_judged count entry None seat number answer tells = absurd (cc tells)
not_judged count (one new) (Some at) seat number answer tells = absurd (cc tells)
not_judged count (together all) (Some at) seat number answer tells = absurd (cc tells)

why_by : (follows : Bool) (t : Transcript) (written : List ℕ) (at : Place) (seat number : ℕ) (answer : Answer) (r : Request) → command_at t.setting at ≡ Ok (explain r)
    → PrintsAt t written at (answered seat number answer) → Seen t at seat number → TellsWhy follows t at r (answered seat number answer)
    → IsAfterSoMany t written at seat number answer
why_by true t written at seat number answer r is prints seen tells = absurd (cc tells)
why_by false t written at seat number answer r is prints seen tells =
    answered_on t written at seat number answer (Explains t.setting.suffixes r) prints seen (λ other state fits. explained_on t at r other state is fits) tells

answer_by : (t : Transcript) (written : List ℕ) (at : Place) (seat number : ℕ) (answer : Answer) (read : Result Command LineFault) → command_at t.setting at ≡ read
    → PrintsAt t written at (answered seat number answer) → Seen t at seat number → Tells t at read (answered seat number answer) → IsAfterSoMany t written at seat number answer
answer_by t written at seat number answer (Ok blank) is prints seen tells = absurd (cc tells)
answer_by t written at seat number answer (Ok sync) is prints seen tells = absurd (cc tells)
answer_by t written at seat number answer (Ok (request r)) is prints seen tells =
    answered_on t written at seat number answer (AnswersBy t.setting.follows t.setting.suffixes r) prints seen
    (λ other state fits. asked_on t.setting.follows t at r other state is fits) tells
answer_by t written at seat number answer (Ok (explain r)) is prints seen tells =
    why_by t.setting.follows t written at seat number answer r is prints seen tells
answer_by t written at seat number answer (Ok (update new)) is prints seen tells = absurd (not_judged (count_before t at) (one new) (judged_at t at (one new)) seat number answer tells)
answer_by t written at seat number answer (Ok (batch all)) is prints seen tells = absurd (not_judged (count_before t at) (together all) (judged_at t at (together all)) seat number answer tells)
answer_by t written at seat number answer (Err fault) is prints seen tells = absurd (cc tells)

answer_or_stop : (t : Transcript) (written : List ℕ) (at : Place) (seat number : ℕ) (answer : Answer) → PrintsAt t written at (answered seat number answer) → Seen t at seat number
    → Tells t at (command_at t.setting at) (answered seat number answer) ⊎ IsStopped at.line (answered seat number answer) → IsAfterSoMany t written at seat number answer
answer_or_stop t written at seat number answer prints seen (inl tells) = answer_by t written at seat number answer (command_at t.setting at) refl prints seen tells
answer_or_stop t written at seat number answer prints seen (inr stops) = let is = stops.same in absurd (cc is)

pub verdicts_are_scans : VerdictsAreScans
verdicts_are_scans t written is at seat number answer there =
    answer_or_stop t written at seat number answer (prints_at t written at (answered seat number answer) is.text there)
    (has_seen t at seat number answer (is.order seat) there) (is.lines at (answered seat number answer) there)

-- ---- updates and batches

-- what is accepted with this line
up_to : (t : Transcript) (at : Place) (told : Said) → SaysAt t at told
    → accepted_in t (lines_up_to at) ≡ accepted_in t (lines_before at) ++ if_accepted told (entry_in (command_at t.setting at))
up_to t at told there =
    let split = split_at t.said (length (lines_before at)) told there.says in
    let ahead : List Said = take (length (lines_before at)) t.said in
    let these : List Entry = if_accepted told (entry_in (command_at t.setting at)) in
    let number : number_at at ≡ 1 + length (lines_before at) = omega arith in
    ap (λ ts. accepted_from t.setting.updates 1 (lines_up_to at) ts) split.all
    ∙ lines_more t.setting.updates 1 (number_at at) (lines_before at) (at.line ∷ []) ahead (told ∷ split.rest) split.long number
    ∙ ap (λ es. accepted_from t.setting.updates 1 (lines_before at) ahead ++ es) (append-nil these)
    ∙ ap (λ es. es ++ these) (sym (ap (λ ts. accepted_from t.setting.updates 1 (lines_before at) ts) split.all ∙ more_said t.setting.updates 1 (lines_before at) ahead (told ∷ split.rest) split.long))

refused_adds : (entry : Entry) (cause : ℕ × Refusal) (entries : List Entry) → if_accepted (said_refused entry cause) entries ≡ []
refused_adds (one new) cause entries = refl
refused_adds (together all) cause entries = refl

nothing_more : (before these all : List Entry) → all ≡ before ++ these → these ≡ [] → all ≡ before
nothing_more before these all is none = is ∙ ap (λ es. before ++ es) none ∙ append-nil before

settled_by : (t : Transcript) (at : Place) (entry : Entry) (told : Said) (judged : Option (ℕ × Refusal)) → judged_at t at entry ≡ judged → IsJudged (count_before t at) entry judged told
    → accepted_in t (lines_up_to at) ≡ accepted_in t (lines_before at) ++ if_accepted told (entry ∷ []) → WasAccepted t at entry told ⊎ WasRefused t at entry told ⊎ WasStopped t at told
settled_by t at entry told None is same adds =
    inl (record { judged = is; same = same; adds = adds ∙ ap (λ s. accepted_in t (lines_before at) ++ if_accepted s (entry ∷ [])) same })
settled_by t at entry told (Some cause) is same adds = inr (inl (record {
  cause = cause;
  judged = is;
  same = same;
  stays = nothing_more _ _ _ adds (ap (λ s. if_accepted s (entry ∷ [])) same ∙ refused_adds entry cause (entry ∷ []));
}))

settled_as : (t : Transcript) (at : Place) (entry other : Entry) (told : Said) → other ∷ [] ≡ entry ∷ [] → IsJudged (count_before t at) other (judged_at t at other) told
    → accepted_in t (lines_up_to at) ≡ accepted_in t (lines_before at) ++ if_accepted told (entry ∷ []) → WasAccepted t at entry told ⊎ WasRefused t at entry told ⊎ WasStopped t at told
settled_as t at entry other told is tells adds =
    let same : other ≡ entry = cc is in
    settled_by t at entry told (judged_at t at entry) refl (subst (λ (e : Entry). IsJudged (count_before t at) e (judged_at t at e) told) same tells) adds

entry_settled : (t : Transcript) (at : Place) (entry : Entry) (told : Said) (read : Result Command LineFault) → entry_in read ≡ entry ∷ [] → Tells t at read told
    → accepted_in t (lines_up_to at) ≡ accepted_in t (lines_before at) ++ if_accepted told (entry ∷ []) → WasAccepted t at entry told ⊎ WasRefused t at entry told ⊎ WasStopped t at told
entry_settled t at entry told (Ok blank) is tells adds = absurd (cc is)
entry_settled t at entry told (Ok sync) is tells adds = absurd (cc is)
entry_settled t at entry told (Ok (request r)) is tells adds = absurd (cc is)
entry_settled t at entry told (Ok (explain r)) is tells adds = absurd (cc is)
entry_settled t at entry told (Ok (update new)) is tells adds = settled_as t at entry (one new) told is tells adds
entry_settled t at entry told (Ok (batch all)) is tells adds = settled_as t at entry (together all) told is tells adds
entry_settled t at entry told (Err fault) is tells adds = absurd (cc is)

settled_or_stopped : (t : Transcript) (at : Place) (entry : Entry) (told : Said) → entry_in (command_at t.setting at) ≡ entry ∷ []
    → accepted_in t (lines_up_to at) ≡ accepted_in t (lines_before at) ++ if_accepted told (entry ∷ [])
    → Tells t at (command_at t.setting at) told ⊎ IsStopped at.line told → WasAccepted t at entry told ⊎ WasRefused t at entry told ⊎ WasStopped t at told
settled_or_stopped t at entry told is adds (inl tells) = entry_settled t at entry told (command_at t.setting at) is tells adds
settled_or_stopped t at entry told is adds (inr stops) = inr (inr (record {
  stopped = stops;
  stays = nothing_more _ _ _ adds (ap (λ s. if_accepted s (entry ∷ [])) stops.same);
}))

pub refusals_name_their_cause : RefusalsNameTheirCause
refusals_name_their_cause t written is at entry told there asks = record {
  prints = prints_at t written at told is.text there;
  settled = settled_or_stopped t at entry told asks
      (up_to t at told there ∙ ap (λ es. accepted_in t (lines_before at) ++ if_accepted told es) asks) (is.lines at told there);
}

-- ---- faults

-- one more than none
some_risen : (times : ℕ) (count : Option Count) → 1 ≤ times → HostRisesBy times count → HasRisen count
some_risen times None many rises = absurd (omega (arith, many, rises))
some_risen times (Some count) many rises = omega (arith, many, rises)

counted : (told : Said) (ahead rest all : List Said) (count : List Said → ℕ) → all ≡ ahead ++ told ∷ rest → ((xs ys : List Said) → count (xs ++ ys) ≡ count xs + count ys)
    → count (told ∷ []) ≡ 1 → 1 ≤ count all
counted told ahead rest all count is adds once = omega (arith, ap count is, adds ahead (told ∷ rest), adds (told ∷ []) rest, once)

one_failed : (seat number : ℕ) (answer : Answer) (told : Said) → is_failed answer ≡ true → told ≡ answered seat number answer → count_failed seat (told ∷ []) ≡ 1
one_failed seat number answer told fails is = rw (is, eq-eqb seat seat refl, fails) refl

pub faults_are_counted : FaultsAreCounted
faults_are_counted t written is at told there =
    let split = split_at t.said (length (lines_before at)) told there.says in
    let ahead : List Said = take (length (lines_before at)) t.said in
    record {
      checker = λ stops. some_risen (count_stopped t.said) (slice_get t.hosts 0)
          (counted told ahead split.rest t.said count_stopped split.all stopped_more (ap (λ s. count_stopped (s ∷ [])) stops.same)) is.checker;
      finder = λ seat number answer fails same. some_risen (count_failed seat t.said) (slice_get t.hosts (suc seat))
          (counted told ahead split.rest t.said (count_failed seat) split.all (failed_more seat) (one_failed seat number answer told fails same)) (is.finders seat);
    }
