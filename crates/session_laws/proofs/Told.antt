-- What is counted of lines that are answered in turn.
use Rattle.std.proofs.Common.{◌≡◌, ◌⊎◌, ℕ, ◌+◌, ◌≤◌, List, [], ◌∷◌, ◌++◌, length, Bool, true, false, Option, Some, None, Result, Ok, Err, refl, sym, ap, ◌∙◌, inl, inr, subst, arith, append_assoc, append-nil}
use Rattle.std.specs.Prelude.{◌==◌, fold, filter_map, if◌then◌else◌}
use Rattle.std.proofs.lemmas.List.Elements.{filter_map-append}
use Rattle.std.proofs.lemmas.List.Sums.{sum_by-append}
use Rattle.dnr_base.specs.declared.request.Request.{Request}
use Rattle.dnr_spec.specs.Suffixes.{SuffixRule}
use Rattle.rule_spec.specs.State.{State}
use Rattle.update_spec.specs.declared.refusal.Refusal.{Refusal}
use Rattle.update_spec.specs.Update.{Update, changed}
use Rattle.update_spec.specs.Entries.{Entry, one, batch as together, judge, after}
use Rattle.line_spec.specs.declared.command_path.CommandPath.TheVariants.{Cmd}
use Rattle.line_spec.specs.declared.line_fault.LineFault.{LineFault}
use Rattle.line_spec.specs.declared.line_fault.LineFault.TheVariants.{BadCommand}
use Rattle.line_spec.specs.Line.{Command, blank, sync, request, explain, update, batch, command_of}
use Rattle.session_spec.specs.Answers.{Setting, known_with, said_refused, Applies, IsAnswered, Explains, AnswersBy, RepliesWhy, Replies, Says}
use Rattle.session_spec.specs.Said.{Said, nothing, accepted, synced, bad, stopped, Answer, number_by, numbers_by, NeverFallFrom, NeverFall, count_failed, count_stopped, said_line, lines_text}
use Rattle.session_laws.proofs.Turns.{only_one}

-- ---- the count of the state

changes_keep_count : (updates : List Update) (state : State) → (fold changed state updates).count ≡ state.count
changes_keep_count [] state = refl
changes_keep_count (first ∷ updates) state = changes_keep_count updates (changed state first)

entry_counts : (state : State) (entry : Entry) → (after state entry).count ≡ state.count + 1
entry_counts state (one new) = refl
entry_counts state (together all) = ap (λ n. n + 1) (changes_keep_count all state)

applied_rises : (now : State) (entry : Entry) (judged : Option (ℕ × Refusal)) (said : Said) (next : State) → Applies now entry judged said next → now.count ≤ next.count
applied_rises now entry None said next applies = omega (arith, entry_counts now entry, ap (λ (s : State). s.count) applies.1)
applied_rises now entry (Some at) said next applies = omega (arith, ap (λ (s : State). s.count) applies.1)

stays : (now next : State) → next ≡ now → now.count ≤ next.count
stays now next same = omega (arith, ap (λ (s : State). s.count) same)

reply_rises : (setting : Setting) (states : List State) (now : State) (seat : ℕ) (read : Result Command LineFault) (said : Said) (next : State)
    → Replies setting states now seat read said next → now.count ≤ next.count
reply_rises setting states now seat (Ok blank) said next says = stays now next says.1
reply_rises setting states now seat (Ok sync) said next says = stays now next says.1
reply_rises setting states now seat (Ok (request r)) said next says = stays now next says.1
reply_rises setting states now seat (Ok (explain r)) said next says = stays now next says.1
reply_rises setting states now seat (Ok (update new)) said next says = applied_rises now (one new) (judge now (one new)) said next says
reply_rises setting states now seat (Ok (batch all)) said next says = applied_rises now (together all) (judge now (together all)) said next says
reply_rises setting states now seat (Err fault) said next says = stays now next says.1

pub line_rises : (setting : Setting) (states : List State) (now : State) (number seat : ℕ) (line : List ℕ) (said : Said) (next : State)
    → Says setting states now number seat line said next → now.count ≤ next.count
line_rises setting states now number seat line said next (inl says) = reply_rises setting states now seat (known_with setting.updates (command_of number line)) said next says
line_rises setting states now number seat line said next (inr stops) = stays now next stops.stays

-- ---- the number of an answer

-- a line of no seat has no number, and one of a seat has the count of the state before it
abbrev pub IsNumbered : State → Said → Type 0
IsNumbered now said = (seat : ℕ) → (number_by seat said ≡ None) ⊎ (number_by seat said ≡ Some now.count)

if_some : (mine : Bool) (n count : ℕ) → n ≡ count → ((if mine then Some n else None) ≡ None) ⊎ ((if mine then Some n else None) ≡ Some count)
if_some true n count same = inr (ap Some same)
if_some false n count same = inl refl

answer_numbered : (now : State) (seat : ℕ) (Fits : State → Answer → Type 0) (said : Said) → IsAnswered (now ∷ []) seat Fits said → IsNumbered now said
answer_numbered now seat Fits said by other =
    subst (λ (told : Said). (number_by other told ≡ None) ⊎ (number_by other told ≡ Some now.count)) (sym by.same)
    (if_some (seat == other) by.state.count now.count (ap (λ (s : State). s.count) (sym (only_one now by.state by.passed))))

no_number : (now : State) (said other : Said) → ((seat : ℕ) → number_by seat other ≡ None) → said ≡ other → IsNumbered now said
no_number now said other none same seat = inl (ap (number_by seat) same ∙ none seat)

refusal_numbered : (seat : ℕ) (entry : Entry) (at : ℕ × Refusal) → number_by seat (said_refused entry at) ≡ None
refusal_numbered seat (one new) at = refl
refusal_numbered seat (together all) at = refl

applied_numbered : (now : State) (entry : Entry) (judged : Option (ℕ × Refusal)) (said : Said) (next : State) → Applies now entry judged said next → IsNumbered now said
applied_numbered now entry None said next applies = no_number now said (accepted (after now entry).count) (λ seat. refl) applies.0
applied_numbered now entry (Some at) said next applies = no_number now said (said_refused entry at) (λ seat. refusal_numbered seat entry at) applies.0

why_numbered : (follows : Bool) (suffixes : List SuffixRule) (now : State) (seat : ℕ) (r : Request) (said : Said)
    → RepliesWhy follows suffixes (now ∷ []) seat r said → IsNumbered now said
why_numbered true suffixes now seat r said says = no_number now said (bad (BadCommand Cmd)) (λ s. refl) says
why_numbered false suffixes now seat r said says = answer_numbered now seat (Explains suffixes r) said says

reply_numbered : (setting : Setting) (now : State) (seat : ℕ) (read : Result Command LineFault) (said : Said) (next : State)
    → Replies setting (now ∷ []) now seat read said next → IsNumbered now said
reply_numbered setting now seat (Ok blank) said next says = no_number now said nothing (λ s. refl) says.0
reply_numbered setting now seat (Ok sync) said next says = no_number now said (synced now.count) (λ s. refl) says.0
reply_numbered setting now seat (Ok (request r)) said next says = answer_numbered now seat (AnswersBy setting.follows setting.suffixes r) said says.0
reply_numbered setting now seat (Ok (explain r)) said next says = why_numbered setting.follows setting.suffixes now seat r said says.0
reply_numbered setting now seat (Ok (update new)) said next says = applied_numbered now (one new) (judge now (one new)) said next says
reply_numbered setting now seat (Ok (batch all)) said next says = applied_numbered now (together all) (judge now (together all)) said next says
reply_numbered setting now seat (Err fault) said next says = no_number now said (bad fault) (λ s. refl) says.0

pub line_numbered : (setting : Setting) (now : State) (number seat : ℕ) (line : List ℕ) (said : Said) (next : State)
    → Says setting (now ∷ []) now number seat line said next → IsNumbered now said
line_numbered setting now number seat line said next (inl says) = reply_numbered setting now seat (known_with setting.updates (command_of number line)) said next says
line_numbered setting now number seat line said next (inr stops) = no_number now said (stopped stops.fault) (λ s. refl) stops.same

-- ---- numbers that never fall

rise_on : (least : ℕ) (numbers : List ℕ) (n m : ℕ) → n ≤ m → NeverFallFrom least (numbers ++ n ∷ []) → NeverFallFrom least (numbers ++ m ∷ [])
rise_on least [] n m le h = (omega (arith, le, h.0), tt)
rise_on least (first ∷ numbers) n m le h = (h.0, rise_on first numbers n m le h.1)

one_on : (least : ℕ) (numbers : List ℕ) (n m : ℕ) → n ≤ m → NeverFallFrom least (numbers ++ n ∷ []) → NeverFallFrom least ((numbers ++ n ∷ []) ++ m ∷ [])
one_on least [] n m le h = (h.0, (le, tt))
one_on least (first ∷ numbers) n m le h = (h.0, one_on first numbers n m le h.1)

pub no_fall_before : (least : ℕ) (numbers later : List ℕ) → NeverFallFrom least (numbers ++ later) → NeverFallFrom least numbers
no_fall_before least [] later h = tt
no_fall_before least (first ∷ numbers) later h = (h.0, no_fall_before first numbers later h.1)

by_number : (numbers : List ℕ) (number : Option ℕ) (n m : ℕ) → n ≤ m → (number ≡ None) ⊎ (number ≡ Some n) → NeverFall (numbers ++ n ∷ [])
    → NeverFall ((numbers ++ filter_map (λ (o : Option ℕ). o) (number ∷ [])) ++ m ∷ [])
by_number numbers None n m le is h = rw (append-nil numbers) (rise_on 0 numbers n m le h)
by_number numbers (Some k) n m le (inl none) h = absurd (cc none)
by_number numbers (Some k) n m le (inr is) h =
    subst (λ (j : ℕ). NeverFall ((numbers ++ j ∷ []) ++ m ∷ [])) (let same : n ≡ k = cc is in same) (one_on 0 numbers n m le h)

-- the numbers of a seat do not fall with one line more, and the count after it is not below them
pub order_more : (now next : State) (said : List Said) (told : Said) → now.count ≤ next.count → IsNumbered now told
    → ((seat : ℕ) → NeverFall (numbers_by seat said ++ now.count ∷ [])) → (seat : ℕ) → NeverFall (numbers_by seat (said ++ told ∷ []) ++ next.count ∷ [])
order_more now next said told le numbered order seat =
    rw (filter_map-append (number_by seat) said (told ∷ [])) (by_number (numbers_by seat said) (number_by seat told) now.count next.count le (numbered seat) (order seat))

-- ---- counts

pub failed_more : (seat : ℕ) (said told : List Said) → count_failed seat (said ++ told) ≡ count_failed seat said + count_failed seat told
failed_more seat said told = sum_by-append _ said told

pub stopped_more : (said told : List Said) → count_stopped (said ++ told) ≡ count_stopped said + count_stopped told
stopped_more said told = sum_by-append _ said told

-- ---- texts

pub text_append : (line : ℕ) (said told : List Said) → lines_text line (said ++ told) ≡ lines_text line said ++ lines_text (line + length said) told
text_append line [] told = let same : line ≡ line + length (let none : List Said = [] in none) = omega arith in ap (λ n. lines_text n told) same
text_append line (first ∷ said) told =
    let same : line + 1 + length said ≡ line + length (first ∷ said) = omega arith in
    ap (λ text. said_line line first ++ text) (text_append (line + 1) said told ∙ ap (λ n. lines_text (line + 1) said ++ lines_text n told) same)
    ∙ sym (append_assoc (said_line line first) (lines_text (line + 1) said) (lines_text (line + length (first ∷ said)) told))
