-- A round over lines that were read is a round of the lines of the script.
use Rattle.std.proofs.Common.{◌≡◌, ℕ, suc, ◌+◌, ◌%◌, ◌≤◌, List, [], ◌∷◌, ◌++◌, length, Bool, true, false, Option, Result, Ok, Err, refl, sym, ap, ◌∙◌, inl, inr, subst, arith, append-nil, length-append}
use Rattle.std.specs.Prelude.{Contains, filter_map}
use mathlib.Core.List.{IsPrefix}
use Rattle.generation.specs.Basis.{Basis}
use Rattle.published.proofs.Beginnings.{begins_itself, begins_on}
use Rattle.published.proofs.Counted.{entries_are_counted}
use Rattle.rule_spec.specs.State.{State}
use Rattle.update_spec.specs.Entries.{Entry, replay}
use Rattle.line_spec.specs.Line.{Command, blank, sync, request, explain, update, batch, command_of}
use Rattle.line_spec.specs.declared.line_fault.LineFault.{LineFault}
use Rattle.session_laws.proofs.Told.{failed_more, stopped_more}
use Rattle.session_spec.specs.Answers.{Setting, Replies, Says, LinesSay}
use Rattle.session_spec.specs.Rounds.{asks}
use Rattle.session_spec.specs.Said.{Said, bad, stopped, answered, said_line, lines_text, number_by, numbers_by, NeverFallFrom, count_failed, count_stopped}
use Rattle.session_rounds.specs.Lines.{read_seen, is_asked}
use Rattle.session_rounds.specs.Writing.{writing, GoesOn}
use Rattle.session_rounds.specs.Rounds.{SeatSaid, LineSaid, LinesSaid, RoundAnswered, texts_of}
use Rattle.session_rounds.specs.Read.{OneRead, LinesRead, serving, RoundServed}
use Rattle.session_rounds.specs.declared.read_line.ReadLine.{ReadLine}
use Rattle.session_rounds.proofs.Steps.{calmly, one_number}
use Rattle.session_rounds.proofs.Whole.{goes_on_begins}

-- ---- the states of a round

line_goes_on : (asked : Bool) (opening : Basis) (floor end : List Entry) (seat : ℕ) (read : Result Command LineFault) (list : List Entry) (told : Said) (next : List Entry)
    → LineSaid asked opening floor end seat read list told next → GoesOn list next
line_goes_on true opening floor end seat read list told next said = inl said.1
line_goes_on false opening floor end seat read list told next said = said.goes_on

lines_begin : (opening : Basis) (floor end : List Entry) (seats asked : ℕ) (list : List Entry) (lines : List ReadLine) (said : List Said) (last : List Entry)
    → LinesSaid opening floor end seats asked list lines said last → IsPrefix list last
lines_begin opening floor end seats asked list [] said last says = subst (λ (l : List Entry). IsPrefix list l) (sym says.1) (begins_itself list)
lines_begin opening floor end seats asked list (line ∷ lines) said last says =
    begins_on list says.next last
    (goes_on_begins list says.next (line_goes_on (is_asked (read_seen line.read)) opening floor end (asked % seats) (read_seen line.read) list says.told says.next says.first))
    (lines_begin opening floor end seats (asked + asks (read_seen line.read)) says.next lines says.others last says.rest)

-- the state before each line, and the last one
abbrev pub states_of : (opening : Basis) (floor end : List Entry) (seats asked : ℕ) (list : List Entry) (lines : List ReadLine) (said : List Said) (last : List Entry)
    → LinesSaid opening floor end seats asked list lines said last → List State
states_of opening floor end seats asked list [] said last says = replay opening.state list ∷ []
states_of opening floor end seats asked list (line ∷ lines) said last says =
    replay opening.state list ∷ states_of opening floor end seats (asked + asks (read_seen line.read)) says.next lines says.others last says.rest

here : (opening : Basis) (floor end : List Entry) (seats asked : ℕ) (list : List Entry) (lines : List ReadLine) (said : List Said) (last : List Entry)
    → (says : LinesSaid opening floor end seats asked list lines said last) → Contains (states_of opening floor end seats asked list lines said last says) (replay opening.state list)
here opening floor end seats asked list [] said last says = (0, omega arith, refl)
here opening floor end seats asked list (line ∷ lines) said last says = (0, omega arith, refl)

later_too : {X : Type 0} (xs : List X) (y x : X) → Contains xs x → Contains (y ∷ xs) x
later_too xs y x (k, inside, is) = (suc k, omega (arith, inside), is)

-- of two beginnings of a list the shorter begins the longer
shorter_begins : {A : Type 0} (xs ys zs : List A) → IsPrefix xs zs → IsPrefix ys zs → length xs ≤ length ys → IsPrefix xs ys
shorter_begins [] ys zs p q le = (ys, refl)
shorter_begins (x ∷ xs) [] zs p q le = absurd (omega (arith, le))
shorter_begins (x ∷ xs) (y ∷ ys) [] p q le = absurd (cc (p.1))
shorter_begins (x ∷ xs) (y ∷ ys) (z ∷ zs) p q le =
    let heads : x ≡ y = cc (p.1, q.1) in
    let rest = shorter_begins xs ys zs (p.0, cc (p.1)) (q.0, cc (q.1)) (omega (arith, le)) in
    (rest.0, cc (heads, rest.1))

-- what begins where a step begins is there, or goes on from the step
after_step : (opening : Basis) (list next last other rest : List Entry) (states : List State) → GoesOn list next → IsPrefix next last → list ++ rest ≡ other → IsPrefix other last
    → Contains states (replay opening.state list) → (IsPrefix next other → Contains states (replay opening.state other)) → Contains states (replay opening.state other)
after_step opening list next last other rest states (inl same) ahead is to now then =
    then (rest, ap (λ l. l ++ rest) same ∙ is)
after_step opening list next last other [] states (inr more) ahead is to now then =
    subst (λ (l : List Entry). Contains states (replay opening.state l)) (sym (append-nil list) ∙ is) now
after_step opening list next last other (entry ∷ rest) states (inr more) ahead is to now then =
    let longer : length next ≤ length other = omega (arith, ap length more.1, ap length is, length-append list (more.0 ∷ []), length-append list (entry ∷ rest)) in
    then (shorter_begins next other last ahead to longer)

empty : {A : Type 0} (xs : List A) → length xs ≡ 0 → xs ≡ []
empty [] none = refl
empty (x ∷ xs) none = absurd (omega (arith, none))

-- a round passes through each state between its first and its last
pub passes : (opening : Basis) (floor end : List Entry) (seats asked : ℕ) (list : List Entry) (lines : List ReadLine) (said : List Said) (last other : List Entry)
    → (says : LinesSaid opening floor end seats asked list lines said last) → IsPrefix list other → IsPrefix other last
    → Contains (states_of opening floor end seats asked list lines said last says) (replay opening.state other)
passes opening floor end seats asked list [] said last other says from to =
    let back : IsPrefix other list = subst (λ (l : List Entry). IsPrefix other l) says.1 to in
    let none : length from.0 ≡ 0 = omega (arith, ap length from.1, ap length back.1, length-append list from.0, length-append other back.0) in
    let same : list ≡ other = sym (append-nil list) ∙ ap (λ l. list ++ l) (sym (empty from.0 none)) ∙ from.1 in
    subst (λ (l : List Entry). Contains (replay opening.state list ∷ []) (replay opening.state l)) same (0, omega arith, refl)
passes opening floor end seats asked list (line ∷ lines) said last other says from to =
    let rest = states_of opening floor end seats (asked + asks (read_seen line.read)) says.next lines says.others last says.rest in
    after_step opening list says.next last other from.0 (replay opening.state list ∷ rest)
    (line_goes_on (is_asked (read_seen line.read)) opening floor end (asked % seats) (read_seen line.read) list says.told says.next says.first)
    (lines_begin opening floor end seats (asked + asks (read_seen line.read)) says.next lines says.others last says.rest) from.1 to (0, omega arith, refl)
    (λ on. later_too rest (replay opening.state list) (replay opening.state other)
    (passes opening floor end seats (asked + asks (read_seen line.read)) says.next lines says.others last other says.rest on to))

-- ---- a line

-- what the writer says it says among any states, with any seats
anywhere : (opening : Basis) (setting : Setting) (states : List State) (now : State) (seat : ℕ) (read : Result Command LineFault) (told : Said) (next : State) → is_asked read ≡ false
    → Replies (writing opening) (now ∷ []) now seat read told next → Replies setting states now seat read told next
anywhere opening setting states now seat (Ok blank) told next other says = says
anywhere opening setting states now seat (Ok sync) told next other says = says
anywhere opening setting states now seat (Ok (request r)) told next other says = absurd (cc other)
anywhere opening setting states now seat (Ok (explain r)) told next other says = absurd (cc other)
anywhere opening setting states now seat (Ok (update new)) told next other says = says
anywhere opening setting states now seat (Ok (batch all)) told next other says = says
anywhere opening setting states now seat (Err fault) told next other says = says

-- a seat's answer is one on a state of the round
pub seat_replies : (opening : Basis) (floor end : List Entry) (seats seat : ℕ) (read : Result Command LineFault) (told : Said) (states : List State) (now : State) → opening.state.count ≡ 0
    → ((other : List Entry) → IsPrefix floor other → IsPrefix other end → Contains states (replay opening.state other))
    → SeatSaid opening floor end seat read told → Replies (serving opening.suffixes seats) states now seat read told now
seat_replies opening floor end seats seat (Ok blank) told states now fresh through said = absurd said.fits
seat_replies opening floor end seats seat (Ok sync) told states now fresh through said = absurd said.fits
seat_replies opening floor end seats seat (Ok (request r)) told states now fresh through said = (
  record {
    state = replay opening.state said.list;
    answer = said.answer;
    passed = through said.list said.from said.to;
    fits = said.fits;
    same = said.same ∙ ap (λ (n : ℕ). answered seat n said.answer) (omega (arith, fresh, entries_are_counted opening.state said.list));
  },
  refl,
)
seat_replies opening floor end seats seat (Ok (explain r)) told states now fresh through said = (
  record {
    state = replay opening.state said.list;
    answer = said.answer;
    passed = through said.list said.from said.to;
    fits = said.fits;
    same = said.same ∙ ap (λ (n : ℕ). answered seat n said.answer) (omega (arith, fresh, entries_are_counted opening.state said.list));
  },
  refl,
)
seat_replies opening floor end seats seat (Ok (update new)) told states now fresh through said = absurd said.fits
seat_replies opening floor end seats seat (Ok (batch all)) told states now fresh through said = absurd said.fits
seat_replies opening floor end seats seat (Err fault) told states now fresh through said = absurd said.fits

line_replies : (asked : Bool) (opening : Basis) (floor end : List Entry) (seats seat : ℕ) (read : Result Command LineFault) (list : List Entry) (told : Said) (next : List Entry) (states : List State)
    → is_asked read ≡ asked → opening.state.count ≡ 0 → ((other : List Entry) → IsPrefix floor other → IsPrefix other end → Contains states (replay opening.state other))
    → LineSaid asked opening floor end seat read list told next → Replies (serving opening.suffixes seats) states (replay opening.state list) seat read told (replay opening.state next)
line_replies true opening floor end seats seat read list told next states is fresh through said =
    subst (λ (l : List Entry). Replies (serving opening.suffixes seats) states (replay opening.state list) seat read told (replay opening.state l)) (sym said.1)
    (seat_replies opening floor end seats seat read told states (replay opening.state list) fresh through said.0)
line_replies false opening floor end seats seat read list told next states is fresh through said =
    anywhere opening (serving opening.suffixes seats) states (replay opening.state list) seat read told (replay opening.state next) is (said.says seat)

-- ---- lines

-- what lines of the script say, where they say this as they were read
pub record Raw (setting : Setting) (states : List State) (now : State) (number asked : ℕ) (lines : List (List ℕ)) (reads : List ReadLine) (said : List Said) (through : List State) (last : State) (stops : ℕ) : Type 0 where
  pub told : List Said
  pub says : LinesSay setting states now number asked lines told through last
  pub text : texts_of reads said ≡ lines_text number told
  pub numbers : (seat : ℕ) → numbers_by seat told ≡ numbers_by seat said
  pub failed : (seat : ℕ) → count_failed seat told ≡ count_failed seat said
  pub stopped : count_stopped told ≡ stops

-- one line more at the front
raw_cons : (setting : Setting) (states : List State) (now next : State) (number asked later : ℕ) (line : List ℕ) (lines : List (List ℕ)) (read : ReadLine) (reads : List ReadLine) (told plain : Said) (others said : List Said) (through : List State) (last : State) (stops left : ℕ)
    → said ≡ plain ∷ others → later ≡ asked + asks (command_of number line) → Says setting states now number (asked % setting.workers) line told next
    → said_line number told ≡ said_line read.number plain → ((seat : ℕ) → number_by seat told ≡ number_by seat plain) → ((seat : ℕ) → count_failed seat (told ∷ []) ≡ count_failed seat (plain ∷ []))
    → count_stopped (told ∷ []) + left ≡ stops
    → Raw setting states next (number + 1) later lines reads others through last left
    → Raw setting states now number asked (line ∷ lines) (read ∷ reads) said (now ∷ through) last stops
raw_cons setting states now next number asked later line lines read reads told plain others said through last stops left all up says text numbers failed counted rest =
    subst (λ (ts : List Said). Raw setting states now number asked (line ∷ lines) (read ∷ reads) ts (now ∷ through) last stops) (sym all) (record {
      told = told ∷ rest.told;
      says = record {
        told = told;
        next = next;
        others = rest.told;
        later = through;
        all = refl;
        passes = refl;
        first = says;
        rest = subst (λ (k : ℕ). LinesSay setting states next (number + 1) k lines rest.told through last) up rest.says;
      };
      text = ap (λ t. t ++ texts_of reads others) (sym text) ∙ ap (λ t. said_line number told ++ t) rest.text;
      numbers = λ seat. one_number seat told rest.told (number_by seat plain) (numbers seat)
          ∙ ap (λ (ns : List ℕ). filter_map (λ (o : Option ℕ). o) (number_by seat plain ∷ []) ++ ns) (rest.numbers seat)
          ∙ sym (one_number seat plain others (number_by seat plain) refl);
      failed = λ seat. omega (arith, failed_more seat (told ∷ []) rest.told, failed_more seat (plain ∷ []) others, failed seat, rest.failed seat);
      stopped = omega (arith, stopped_more (told ∷ []) rest.told, rest.stopped, counted);
    })

line_calm : (asked : Bool) (opening : Basis) (floor end : List Entry) (seat : ℕ) (read : Result Command LineFault) (list : List Entry) (told : Said) (next : List Entry)
    → LineSaid asked opening floor end seat read list told next → count_stopped (told ∷ []) ≡ 0
line_calm true opening floor end seat read list told next said = ap (λ (t : Said). count_stopped (t ∷ [])) said.0.same
line_calm false opening floor end seat read list told next said = said.calm

-- a line that was read
raw_line : (opening : Basis) (floor end : List Entry) (seats asked : ℕ) (list : List Entry) (read : Result Command LineFault) (told : Said) (next : List Entry) (states : List State) (number : ℕ) (line : List ℕ) (lines : List (List ℕ))
    (at : ReadLine) (reads : List ReadLine) (others said : List Said) (through : List State) (last : State) (stops : ℕ) → opening.state.count ≡ 0
    → ((other : List Entry) → IsPrefix floor other → IsPrefix other end → Contains states (replay opening.state other)) → said ≡ told ∷ others → at.number ≡ number
    → LineSaid (is_asked read) opening floor end (asked % seats) read list told next
    → ((left : ℕ) → LinesRead (number + 1) lines reads left → Raw (serving opening.suffixes seats) states (replay opening.state next) (number + 1) (asked + asks read) lines reads others through last left)
    → OneRead number line read stops (λ left. LinesRead (number + 1) lines reads left)
    → Raw (serving opening.suffixes seats) states (replay opening.state list) number asked (line ∷ lines) (at ∷ reads) said (replay opening.state list ∷ through) last stops
raw_line opening floor end seats asked list (Ok command) told next states number line lines at reads others said through last stops fresh passing all here says more (reads_as, rest) =
    let replies = line_replies (is_asked (Ok command)) opening floor end seats (asked % seats) (Ok command) list told next states refl fresh passing says in
    raw_cons (serving opening.suffixes seats) states (replay opening.state list) (replay opening.state next) number asked (asked + asks (Ok command)) line lines at reads told told others said through last stops stops all
    (ap (λ (r : Result Command LineFault). asked + asks r) (sym reads_as))
    (inl (subst (λ (r : Result Command LineFault). Replies (serving opening.suffixes seats) states (replay opening.state list) (asked % seats) r told (replay opening.state next)) (sym reads_as) replies))
    (ap (λ (n : ℕ). said_line n told) (sym here)) (λ seat. refl) (λ seat. refl)
    (omega (arith, line_calm (is_asked (Ok command)) opening floor end (asked % seats) (Ok command) list told next says)) (more stops rest)
raw_line opening floor end seats asked list (Err fault) told next states number line lines at reads others said through last stops fresh passing all here says more (inl (reads_as, rest)) =
    let replies = line_replies false opening floor end seats (asked % seats) (Err fault) list told next states refl fresh passing says in
    raw_cons (serving opening.suffixes seats) states (replay opening.state list) (replay opening.state next) number asked (asked + asks (Err fault)) line lines at reads told told others said through last stops stops all
    (ap (λ (r : Result Command LineFault). asked + asks r) (sym reads_as))
    (inl (subst (λ (r : Result Command LineFault). Replies (serving opening.suffixes seats) states (replay opening.state list) (asked % seats) r told (replay opening.state next)) (sym reads_as) replies))
    (ap (λ (n : ℕ). said_line n told) (sym here)) (λ seat. refl) (λ seat. refl)
    (omega (arith, line_calm false opening floor end (asked % seats) (Err fault) list told next says)) (more stops rest)
raw_line opening floor end seats asked list (Err fault) told next states number line lines at reads others said through last stops fresh passing all here says more (inr (stop, silent, (left, up, rest))) =
    let same : told ≡ bad fault = (says.says 0).0 in
    let stays : replay opening.state next ≡ replay opening.state list = (says.says 0).1 in
    raw_cons (serving opening.suffixes seats) states (replay opening.state list) (replay opening.state next) number asked (asked + asks (Err fault)) line lines at reads (stopped fault) told others said through last stops left all
    (ap (λ k. asked + k) (sym silent))
    (inr (record { fault = fault; stops = stop; same = refl; stays = stays }))
    (ap (λ (n : ℕ). said_line n (bad fault)) (sym here) ∙ ap (λ (t : Said). said_line at.number t) (sym same))
    (λ seat. ap (λ (t : Said). number_by seat t) (sym same)) (λ seat. ap (λ (t : Said). count_failed seat (t ∷ [])) (sym same))
    (omega (arith, up)) (more left rest)

pub raw_lines : (opening : Basis) (floor end : List Entry) (seats asked : ℕ) (list : List Entry) (lines : List (List ℕ)) (reads : List ReadLine) (said : List Said) (last : List Entry) (states : List State) (number stops : ℕ) → opening.state.count ≡ 0
    → ((other : List Entry) → IsPrefix floor other → IsPrefix other end → Contains states (replay opening.state other)) → (says : LinesSaid opening floor end seats asked list reads said last) → LinesRead number lines reads stops
    → Raw (serving opening.suffixes seats) states (replay opening.state list) number asked lines reads said (states_of opening floor end seats asked list reads said last says) (replay opening.state last) stops
raw_lines opening floor end seats asked list [] [] said last states number stops fresh passing says read = record {
  told = [];
  says = (refl, refl, ap (replay opening.state) says.1);
  text = refl;
  numbers = λ seat. ap (numbers_by seat) (sym says.0);
  failed = λ seat. ap (count_failed seat) (sym says.0);
  stopped = sym read;
}
raw_lines opening floor end seats asked list [] (at ∷ reads) said last states number stops fresh passing says read = absurd read
raw_lines opening floor end seats asked list (line ∷ lines) [] said last states number stops fresh passing says read = absurd read
raw_lines opening floor end seats asked list (line ∷ lines) (at ∷ reads) said last states number stops fresh passing says read =
    raw_line opening floor end seats asked list (read_seen at.read) says.told says.next states number line lines at reads says.others said
    (states_of opening floor end seats (asked + asks (read_seen at.read)) says.next reads says.others last says.rest) (replay opening.state last) stops fresh passing says.all read.0 says.first
    (λ left rest. raw_lines opening floor end seats (asked + asks (read_seen at.read)) says.next lines reads says.others last states (number + 1) left fresh passing says.rest rest) read.1

-- ---- the round

count_after : (opening : Basis) (list : List Entry) → opening.state.count ≡ 0 → length list ≡ (replay opening.state list).count
count_after opening list fresh = omega (arith, fresh, entries_are_counted opening.state list)

pub round_served : (opening : Basis) (seats : ℕ) (reads : List ReadLine) (floor end : List Entry) (before now was is : List ℕ) (number : ℕ) (lines : List (List ℕ)) (stops : ℕ) → opening.state.count ≡ 0
    → RoundAnswered opening seats reads floor end before now was is → LinesRead number lines reads stops
    → RoundServed (serving opening.suffixes seats) (replay opening.state floor) (replay opening.state end) number lines stops before now was is
round_served opening seats reads floor end before now was is number lines stops fresh done read =
    let states = states_of opening floor end seats 0 floor reads done.said end done.says in
    let raw = raw_lines opening floor end seats 0 floor lines reads done.said end states number stops fresh
    (λ other from to. passes opening floor end seats 0 floor reads done.said end other done.says from to) done.says read in
    record {
      said = raw.told;
      says = record { states = states; says = raw.says };
      text = done.text ∙ ap (λ t. before ++ t) raw.text;
      order = λ seat.
          subst (λ (ns : List ℕ). NeverFallFrom (replay opening.state floor).count (ns ++ (replay opening.state end).count ∷ [])) (sym (raw.numbers seat))
          (subst (λ (n : ℕ). NeverFallFrom n (numbers_by seat done.said ++ (replay opening.state end).count ∷ [])) (count_after opening floor fresh)
          (subst (λ (n : ℕ). NeverFallFrom (length floor) (numbers_by seat done.said ++ n ∷ [])) (count_after opening end fresh) (done.order seat)));
      rises = calmly (λ seat. count_failed seat done.said) (λ seat. count_failed seat raw.told) was is raw.failed done.rises;
      stopped = raw.stopped;
    }
