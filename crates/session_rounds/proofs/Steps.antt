-- The answers of a round, put together line by line.
use Rattle.std.proofs.Common.{◌≡◌, ◌≢◌, ℕ, zero, suc, ◌+◌, ◌%◌, ◌<◌, ◌≤◌, List, [], ◌∷◌, ◌++◌, length, drop, set, get_or, Bool, true, false, Option, Some, None, Result, Ok, Err, refl, sym, ap, ◌∙◌, subst, arith, append_assoc, append-nil}
use Rattle.std.specs.Prelude.{◌==◌, cond, filter_map, if◌then◌else◌}
use Rattle.std.proofs.lemmas.Bool.Decides.{nat_tests}
use Rattle.std.proofs.lemmas.List.{drop_more, drop_all}
use Rattle.std.proofs.lemmas.List.Elements.{filter_map-append}
use Rattle.generation.specs.Basis.{Basis}
use Rattle.rule_spec.specs.State.{State}
use Rattle.update_spec.specs.declared.refusal.Refusal.{Refusal}
use Rattle.update_spec.specs.Entries.{Entry, one, batch as together, judge, after, replay}
use Rattle.line_spec.specs.Line.{Command, blank, sync, request, explain, update, batch}
use Rattle.line_spec.specs.declared.line_fault.LineFault.{LineFault}
use Rattle.session_laws.specs.Turns.{RiseBy}
use Rattle.session_laws.proofs.Told.{failed_more}
use Rattle.session_serve.proofs.Told.{nothing_rises}
use Rattle.session_serve.specs.Told.{times_in}
use Rattle.session_spec.specs.Answers.{Setting, said_refused, Applies, Replies, RisesBy}
use Rattle.session_spec.specs.Rounds.{asks}
use Rattle.session_spec.specs.Said.{Answer, Said, nothing, accepted, synced, bad, answered, answer_line, said_line, is_failed, number_by, numbers_by, NeverFallFrom, count_failed}
use Rattle.session_rounds.specs.Lines.{read_seen, is_asked}
use Rattle.session_rounds.specs.Writing.{writing, Replied, WriterSaid, WriterSays}
use Rattle.session_rounds.specs.Rounds.{LineSaid, LinesSaid, SeatTold, Settled, texts_of}
use Rattle.session_rounds.specs.declared.read_line.ReadLine.{ReadLine}

-- ---- lines that ask no seat

said_by_nobody : (said other : Said) (seat : ℕ) → number_by seat other ≡ None → said ≡ other → number_by seat said ≡ None
said_by_nobody said other seat none same = ap (number_by seat) same ∙ none

refusal_by_nobody : (seat : ℕ) (entry : Entry) (at : ℕ × Refusal) → number_by seat (said_refused entry at) ≡ None
refusal_by_nobody seat (one new) at = refl
refusal_by_nobody seat (together all) at = refl

applied_by_nobody : (now : State) (entry : Entry) (judged : Option (ℕ × Refusal)) (said : Said) (next : State) (seat : ℕ) → Applies now entry judged said next → number_by seat said ≡ None
applied_by_nobody now entry None said next seat applies = said_by_nobody said (accepted (after now entry).count) seat refl applies.0
applied_by_nobody now entry (Some at) said next seat applies = said_by_nobody said (said_refused entry at) seat (refusal_by_nobody seat entry at) applies.0

reply_by_nobody : (setting : Setting) (now : State) (place seat : ℕ) (read : Result Command LineFault) (said : Said) (next : State) → is_asked read ≡ false
    → Replies setting (now ∷ []) now place read said next → number_by seat said ≡ None
reply_by_nobody setting now place seat (Ok blank) said next other says = said_by_nobody said nothing seat refl says.0
reply_by_nobody setting now place seat (Ok sync) said next other says = said_by_nobody said (synced now.count) seat refl says.0
reply_by_nobody setting now place seat (Ok (request r)) said next other says = absurd (cc other)
reply_by_nobody setting now place seat (Ok (explain r)) said next other says = absurd (cc other)
reply_by_nobody setting now place seat (Ok (update new)) said next other says = applied_by_nobody now (one new) (judge now (one new)) said next seat says
reply_by_nobody setting now place seat (Ok (batch all)) said next other says = applied_by_nobody now (together all) (judge now (together all)) said next seat says
reply_by_nobody setting now place seat (Err fault) said next other says = said_by_nobody said (bad fault) seat refl says.0

asks_nothing : (read : Result Command LineFault) → is_asked read ≡ false → asks read ≡ 0
asks_nothing (Ok blank) other = refl
asks_nothing (Ok sync) other = refl
asks_nothing (Ok (request r)) other = absurd (cc other)
asks_nothing (Ok (explain r)) other = absurd (cc other)
asks_nothing (Ok (update new)) other = refl
asks_nothing (Ok (batch all)) other = refl
asks_nothing (Err fault) other = refl

asks_once : (read : Result Command LineFault) → is_asked read ≡ true → asks read ≡ 1
asks_once (Ok blank) is = absurd (cc is)
asks_once (Ok sync) is = absurd (cc is)
asks_once (Ok (request r)) is = refl
asks_once (Ok (explain r)) is = refl
asks_once (Ok (update new)) is = absurd (cc is)
asks_once (Ok (batch all)) is = absurd (cc is)
asks_once (Err fault) is = absurd (cc is)

-- ---- counts and numbers

-- nothing is counted of what nobody fails at
pub calmly : (times more : ℕ → ℕ) (was is : List ℕ) → ((seat : ℕ) → more seat ≡ times seat) → RiseBy times was is → RiseBy more was is
calmly times more [] [] same rises = λ place. same place ∙ rises place
calmly times more [] (n ∷ is) same rises = absurd rises
calmly times more (b ∷ was) [] same rises = absurd rises
calmly times more (b ∷ was) (n ∷ is) same rises =
    (subst (λ (k : ℕ). RisesBy k (record { before = b; now = n })) (sym (same zero)) rises.0, calmly (λ seat. times (suc seat)) (λ seat. more (suc seat)) was is (λ seat. same (suc seat)) rises.1)

-- the host of this seat rose first, and the others rose then
seat_first : (times more : ℕ → ℕ) (was : List ℕ) (seat now once : ℕ) (is : List ℕ) → seat < length was → more seat ≡ once + times seat → ((place : ℕ) → place ≢ seat → more place ≡ times place)
    → RisesBy once (record { before = get_or was seat 0; now = now }) → RiseBy times (set was seat now) is → RiseBy more was is
seat_first times more [] seat now once is inside mine others first rises = absurd (omega (arith, inside))
seat_first times more (b ∷ was) zero now once [] inside mine others first rises = absurd rises
seat_first times more (b ∷ was) zero now once (n ∷ is) inside mine others first rises =
    (omega (arith, mine, first, rises.0), calmly (λ place. times (suc place)) (λ place. more (suc place)) was is (λ place. others (suc place) (λ e. absurd (omega (arith, e)))) rises.1)
seat_first times more (b ∷ was) (suc seat) now once [] inside mine others first rises = absurd rises
seat_first times more (b ∷ was) (suc seat) now once (n ∷ is) inside mine others first rises = (
  subst (λ (k : ℕ). RisesBy k (record { before = b; now = n })) (sym (others zero (λ e. absurd (omega (arith, e))))) rises.0,
  seat_first (λ place. times (suc place)) (λ place. more (suc place)) was seat now once is (omega (arith, inside)) mine (λ place other. others (suc place) (λ e. other (omega (arith, e)))) first rises.1,
)

my_seat : (mine : Bool) (answer : Answer) → mine ≡ true → 0 + cond (cond mine (is_failed answer) false) 1 0 ≡ times_in answer
my_seat true answer is = omega arith
my_seat false answer is = absurd (cc is)

other_seat : (mine : Bool) (answer : Answer) → mine ≡ false → 0 + cond (cond mine (is_failed answer) false) 1 0 ≡ 0
other_seat true answer is = absurd (cc is)
other_seat false answer is = refl

is_mine : (seat : ℕ) → (seat == seat) ≡ true
is_mine seat = grind (arith, nat_tests)

is_other : (seat place : ℕ) → place ≢ seat → (seat == place) ≡ false
is_other seat place other = grind (arith, nat_tests, other)

same_seat : (seat place : ℕ) → (seat == place) ≡ true → seat ≡ place
same_seat seat place is = grind (arith, nat_tests, is)

counted_mine : (seat number : ℕ) (answer : Answer) (said : List Said) → count_failed seat (answered seat number answer ∷ said) ≡ times_in answer + count_failed seat said
counted_mine seat number answer said =
    let one : count_failed seat (answered seat number answer ∷ []) ≡ times_in answer = my_seat (seat == seat) answer (is_mine seat) in
    failed_more seat (answered seat number answer ∷ []) said ∙ ap (λ n. n + count_failed seat said) one

counted_other : (seat place number : ℕ) (answer : Answer) (said : List Said) → place ≢ seat → count_failed place (answered seat number answer ∷ said) ≡ count_failed place said
counted_other seat place number answer said other =
    let none : count_failed place (answered seat number answer ∷ []) ≡ 0 = other_seat (seat == place) answer (is_other seat place other) in
    let more : count_failed place (answered seat number answer ∷ said) ≡ count_failed place (answered seat number answer ∷ []) + count_failed place said = failed_more place (answered seat number answer ∷ []) said in
    omega (arith, more, none)

counted_calm : (place : ℕ) (told : Said) (said : List Said) → count_failed place (told ∷ []) ≡ 0 → count_failed place (told ∷ said) ≡ count_failed place said
counted_calm place told said none =
    let more : count_failed place (told ∷ said) ≡ count_failed place (told ∷ []) + count_failed place said = failed_more place (told ∷ []) said in
    omega (arith, more, none)

-- ---- numbers

pub one_number : (place : ℕ) (told : Said) (said : List Said) (number : Option ℕ) → number_by place told ≡ number
    → numbers_by place (told ∷ said) ≡ filter_map (λ (o : Option ℕ). o) (number ∷ []) ++ numbers_by place said
one_number place told said number is =
    filter_map-append (number_by place) (told ∷ []) said
    ∙ ap (λ (o : Option ℕ). filter_map (λ (p : Option ℕ). p) (o ∷ []) ++ numbers_by place said) is

number_of : (mine : Bool) (seat place number : ℕ) (answer : Answer) → (seat == place) ≡ mine → number_by place (answered seat number answer) ≡ (if mine then Some number else None)
number_of mine seat place number answer is = ap (λ (b : Bool). if b then Some number else None) is

get_set_same : (xs : List ℕ) (i x : ℕ) → i < length xs → get_or (set xs i x) i 0 ≡ x
get_set_same [] i x inside = absurd (omega (arith, inside))
get_set_same (y ∷ xs) zero x inside = refl
get_set_same (y ∷ xs) (suc i) x inside = get_set_same xs i x (omega (arith, inside))

get_set_other : (xs : List ℕ) (i k x : ℕ) → k ≢ i → get_or (set xs i x) k 0 ≡ get_or xs k 0
get_set_other [] i k x other = refl
get_set_other (y ∷ xs) zero zero x other = absurd (other refl)
get_set_other (y ∷ xs) zero (suc k) x other = refl
get_set_other (y ∷ xs) (suc i) zero x other = refl
get_set_other (y ∷ xs) (suc i) (suc k) x other = get_set_other xs i k x (λ e. other (omega (arith, e)))

seat_order : (mine : Bool) (seat number : ℕ) (answer : Answer) (place : ℕ) (said : List Said) (lasts : List ℕ) (bound : ℕ) → seat < length lasts → (seat == place) ≡ mine
    → get_or lasts seat 0 ≤ number → NeverFallFrom (get_or (set lasts seat number) place 0) (numbers_by place said ++ bound ∷ [])
    → NeverFallFrom (get_or lasts place 0) (numbers_by place (answered seat number answer ∷ said) ++ bound ∷ [])
seat_order true seat number answer place said lasts bound inside is least order =
    let at = same_seat seat place is in
    let now : get_or (set lasts seat number) place 0 ≡ number = subst (λ (k : ℕ). get_or (set lasts seat number) k 0 ≡ number) at (get_set_same lasts seat number inside) in
    subst (λ (ns : List ℕ). NeverFallFrom (get_or lasts place 0) (ns ++ bound ∷ [])) (sym (one_number place (answered seat number answer) said (Some number) (number_of true seat place number answer is)))
    (subst (λ (k : ℕ). get_or lasts k 0 ≤ number) at least, subst (λ (n : ℕ). NeverFallFrom n (numbers_by place said ++ bound ∷ [])) now order)
seat_order false seat number answer place said lasts bound inside is least order =
    let other : place ≢ seat = λ e. absurd (cc (sym is ∙ ap (λ k. seat == k) e ∙ is_mine seat)) in
    subst (λ (ns : List ℕ). NeverFallFrom (get_or lasts place 0) (ns ++ bound ∷ [])) (sym (one_number place (answered seat number answer) said None (number_of false seat place number answer is)))
    (subst (λ (n : ℕ). NeverFallFrom n (numbers_by place said ++ bound ∷ [])) (get_set_other lasts seat place number other) order)

-- ---- one line more

-- a seat answered the first of these lines
seat_step : (opening : Basis) (floor end : List Entry) (seats asked seat : ℕ) (list : List Entry) (line : ReadLine) (lines : List ReadLine) (last : List Entry) (lasts : List ℕ) (n : ℕ) (before grown after : List ℕ) (was : List ℕ) (count : ℕ) (is : List ℕ)
    → is_asked (read_seen line.read) ≡ true → seat ≡ asked % seats → seat < length lasts → seat < length was
    → SeatTold opening floor end line.number (read_seen line.read) (get_or lasts seat 0) n before grown (get_or was seat 0) count
    → Settled opening floor end seats (asked + 1) list lines last (set lasts seat n) grown after (set was seat count) is
    → Settled opening floor end seats asked list (line ∷ lines) last lasts before after was is
seat_step opening floor end seats asked seat list line lines last lasts n before grown after was count is asking turn inside host told rest =
    let new = answered seat (length told.list) told.answer in
    let first : LineSaid true opening floor end (asked % seats) (read_seen line.read) list new list =
    (record { list = told.list; answer = told.answer; from = told.from; to = told.to; fits = told.fits; same = ap (λ (k : ℕ). answered k (length told.list) told.answer) turn }, refl) in
    let up : asked + 1 ≡ asked + asks (read_seen line.read) = ap (λ k. asked + k) (sym (asks_once (read_seen line.read) asking)) in
    record {
      said = new ∷ rest.said;
      says = record {
        told = new;
        next = list;
        others = rest.said;
        all = refl;
        first = subst (λ (b : Bool). LineSaid b opening floor end (asked % seats) (read_seen line.read) list new list) (sym asking) first;
        rest = subst (λ (k : ℕ). LinesSaid opening floor end seats k list lines rest.said last) up rest.says;
      };
      text = rest.text ∙ ap (λ t. t ++ texts_of lines rest.said) told.appended ∙ append_assoc before (answer_line line.number (length told.list) told.answer) (texts_of lines rest.said);
      order = λ place. seat_order (seat == place) seat (length told.list) told.answer place rest.said lasts (length end) inside refl told.later
          (subst (λ (k : ℕ). NeverFallFrom (get_or (set lasts seat k) place 0) (numbers_by place rest.said ++ length end ∷ [])) told.same (rest.order place));
      rises = seat_first (λ place. count_failed place rest.said) (λ place. count_failed place (new ∷ rest.said)) was seat count (times_in told.answer) is host
          (counted_mine seat (length told.list) told.answer rest.said) (λ place other. counted_other seat place (length told.list) told.answer rest.said other) told.rises rest.rises;
    }

-- the writer answered it
reply_step : (opening : Basis) (floor end : List Entry) (seats asked : ℕ) (list next : List Entry) (line : ReadLine) (lines : List ReadLine) (last : List Entry) (lasts : List ℕ) (before text grown after : List ℕ) (was is : List ℕ)
    → is_asked (read_seen line.read) ≡ false → Replied opening line.number (read_seen line.read) list [] text next → grown ≡ before ++ text
    → Settled opening floor end seats asked next lines last lasts grown after was is → Settled opening floor end seats asked list (line ∷ lines) last lasts before after was is
reply_step opening floor end seats asked list next line lines last lasts before text grown after was is asking replied grows rest =
    let new = replied.told.told in
    let nobody : (seat : ℕ) → number_by seat new ≡ None = λ seat. reply_by_nobody (writing opening) (replay opening.state list) 0 seat (read_seen line.read) new (replay opening.state next) asking (replied.told.says 0) in
    let first : LineSaid false opening floor end (asked % seats) (read_seen line.read) list new next =
    record { says = replied.told.says; quiet = replied.told.quiet; nobody = nobody; calm = replied.told.calm; goes_on = replied.goes_on } in
    let up : asked ≡ asked + asks (read_seen line.read) = omega (arith, asks_nothing (read_seen line.read) asking) in
    record {
      said = new ∷ rest.said;
      says = record {
        told = new;
        next = next;
        others = rest.said;
        all = refl;
        first = subst (λ (b : Bool). LineSaid b opening floor end (asked % seats) (read_seen line.read) list new next) (sym asking) first;
        rest = subst (λ (k : ℕ). LinesSaid opening floor end seats k next lines rest.said last) up rest.says;
      };
      text = rest.text ∙ ap (λ t. t ++ texts_of lines rest.said) (grows ∙ ap (λ t. before ++ t) replied.told.appended) ∙ append_assoc before (said_line line.number new) (texts_of lines rest.said);
      order = λ place. subst (λ (ns : List ℕ). NeverFallFrom (get_or lasts place 0) (ns ++ length end ∷ [])) (sym (one_number place new rest.said None (nobody place))) (rest.order place);
      rises = calmly (λ place. count_failed place rest.said) (λ place. count_failed place (new ∷ rest.said)) was is (λ place. counted_calm place new rest.said (replied.told.quiet place)) rest.rises;
    }

-- ---- all lines

drop_next : {X : Type 0} (place : ℕ) (xs : List X) (x : X) (ys : List X) → drop place xs ≡ x ∷ ys → drop (place + 1) xs ≡ ys
drop_next zero [] x ys is = absurd (cc is)
drop_next zero (y ∷ xs) x ys is = cc is
drop_next (suc place) [] x ys is = absurd (cc is)
drop_next (suc place) (y ∷ xs) x ys is = let up : suc place + 1 ≡ suc (place + 1) = omega arith in rw up (drop_next place xs x ys is)

-- The lines before this place were answered: how those from it on are answered tells how all are. The writer's texts for
-- them are still to be said.
pub record SettledTo (opening : Basis) (floor end : List Entry) (seats : ℕ) (lines : List ReadLine) (texts : List (List ℕ)) (lasts : List ℕ) (before : List ℕ) (was : List ℕ) (place asked : ℕ) (latest : List ℕ) (now : List ℕ) (is : List ℕ) : Type 0 where
  pub list : List Entry
  pub written : WriterSays opening list (drop place lines) (drop place texts) end
  pub so_far : (after later : List ℕ) → Settled opening floor end seats asked list (drop place lines) end latest now after is later → Settled opening floor end seats 0 floor lines end lasts before after was later

pub none_settled : (opening : Basis) (floor end : List Entry) (seats : ℕ) (lines : List ReadLine) (texts : List (List ℕ)) (lasts before was : List ℕ) → WriterSays opening floor lines texts end
    → SettledTo opening floor end seats lines texts lasts before was 0 0 lasts before was
none_settled opening floor end seats lines texts lasts before was says = record { list = floor; written = says; so_far = λ after later rest. rest }

pub seat_settled : (opening : Basis) (floor end : List Entry) (seats : ℕ) (lines : List ReadLine) (texts : List (List ℕ)) (lasts before was : List ℕ) (place asked seat : ℕ) (latest now grown is : List ℕ) (n count : ℕ) (line : ReadLine)
    → place < length lines → line ≡ get_or lines place line → is_asked (read_seen line.read) ≡ true → seat ≡ asked % seats → seat < length latest → seat < length is
    → SeatTold opening floor end line.number (read_seen line.read) (get_or latest seat 0) n now grown (get_or is seat 0) count
    → SettledTo opening floor end seats lines texts lasts before was place asked latest now is
    → SettledTo opening floor end seats lines texts lasts before was (place + 1) (asked + 1) (set latest seat n) grown (set is seat count)
seat_settled opening floor end seats lines texts lasts before was place asked seat latest now grown is n count line inside there asks turn known host told to =
    let here : drop place lines ≡ line ∷ drop (place + 1) lines = drop_more lines place line inside ∙ ap (λ (l : ReadLine). l ∷ drop (place + 1) lines) (sym there) in
    let first = subst (λ (ls : List ReadLine). WriterSays opening to.list ls (drop place texts) end) here to.written in
    let quiet = subst (λ (b : Bool). WriterSaid b opening line.number (read_seen line.read) to.list first.text first.next) asks first.first in
    record {
      list = to.list;
      written = subst (λ (ts : List (List ℕ)). WriterSays opening to.list (drop (place + 1) lines) ts end) (sym (drop_next place texts first.text first.others first.all))
          (subst (λ (l : List Entry). WriterSays opening l (drop (place + 1) lines) first.others end) quiet.1 first.rest);
      so_far = λ after later rest. to.so_far after later (subst (λ (ls : List ReadLine). Settled opening floor end seats asked to.list ls end latest now after is later) (sym here)
          (seat_step opening floor end seats asked seat to.list line (drop (place + 1) lines) end latest n now grown after is count later asks turn known host told rest));
    }

-- the text of the writer for the line at this place
pub text_there : (opening : Basis) (floor end : List Entry) (seats : ℕ) (lines : List ReadLine) (texts : List (List ℕ)) (lasts before was : List ℕ) (place asked : ℕ) (latest now is : List ℕ) (line : ReadLine)
    → place < length lines → line ≡ get_or lines place line → SettledTo opening floor end seats lines texts lasts before was place asked latest now is
    → (text : List ℕ) × (others : List (List ℕ)) × (drop place texts ≡ text ∷ others)
text_there opening floor end seats lines texts lasts before was place asked latest now is line inside there to =
    let here : drop place lines ≡ line ∷ drop (place + 1) lines = drop_more lines place line inside ∙ ap (λ (l : ReadLine). l ∷ drop (place + 1) lines) (sym there) in
    let first = subst (λ (ls : List ReadLine). WriterSays opening to.list ls (drop place texts) end) here to.written in
    (first.text, first.others, first.all)

head_of : {X : Type 0} (xs ys : List X) (x y : X) → x ∷ xs ≡ y ∷ ys → x ≡ y
head_of xs ys x y is = cc is

pub reply_settled : (opening : Basis) (floor end : List Entry) (seats : ℕ) (lines : List ReadLine) (texts : List (List ℕ)) (lasts before was : List ℕ) (place asked : ℕ) (latest now grown is : List ℕ) (line : ReadLine) (text : List ℕ)
    → place < length lines → place < length texts → line ≡ get_or lines place line → is_asked (read_seen line.read) ≡ false → text ≡ get_or texts place text → grown ≡ now ++ text
    → SettledTo opening floor end seats lines texts lasts before was place asked latest now is
    → SettledTo opening floor end seats lines texts lasts before was (place + 1) asked latest grown is
reply_settled opening floor end seats lines texts lasts before was place asked latest now grown is line text inside within there asks written grows to =
    let here : drop place lines ≡ line ∷ drop (place + 1) lines = drop_more lines place line inside ∙ ap (λ (l : ReadLine). l ∷ drop (place + 1) lines) (sym there) in
    let first = subst (λ (ls : List ReadLine). WriterSays opening to.list ls (drop place texts) end) here to.written in
    let said = subst (λ (b : Bool). WriterSaid b opening line.number (read_seen line.read) to.list first.text first.next) asks first.first in
    let same : text ≡ first.text = written ∙ head_of (drop (place + 1) texts) first.others (get_or texts place text) first.text (sym (drop_more texts place text within) ∙ first.all) in
    record {
      list = first.next;
      written = subst (λ (ts : List (List ℕ)). WriterSays opening first.next (drop (place + 1) lines) ts end) (sym (drop_next place texts first.text first.others first.all)) first.rest;
      so_far = λ after later rest. to.so_far after later (subst (λ (ls : List ReadLine). Settled opening floor end seats asked to.list ls end latest now after is later) (sym here)
          (reply_step opening floor end seats asked to.list first.next line (drop (place + 1) lines) end latest now first.text grown after is later asks said (grows ∙ ap (λ t. now ++ t) same) rest));
    }

pub all_settled : (opening : Basis) (floor end : List Entry) (seats : ℕ) (lines : List ReadLine) (texts : List (List ℕ)) (lasts before was : List ℕ) (place asked : ℕ) (latest now is : List ℕ)
    → length lines ≤ place → ((seat : ℕ) → get_or latest seat 0 ≤ length end) → SettledTo opening floor end seats lines texts lasts before was place asked latest now is
    → Settled opening floor end seats 0 floor lines end lasts before now was is
all_settled opening floor end seats lines texts lasts before was place asked latest now is past bound to =
    let none : drop place lines ≡ [] = drop_all place lines past in
    let ended = subst (λ (ls : List ReadLine). WriterSays opening to.list ls (drop place texts) end) none to.written in
    to.so_far now is (subst (λ (ls : List ReadLine). Settled opening floor end seats asked to.list ls end latest now now is is) (sym none) (record {
      said = [];
      says = (refl, ended.1);
      text = sym (append-nil now);
      order = λ seat. (bound seat, tt);
      rises = nothing_rises (λ seat. count_failed seat []) is (λ seat. refl);
    }))

-- the numbers of all seats stay within those of the round
pub still_bound : (latest : List ℕ) (seat n bound : ℕ) → seat < length latest → n ≤ bound → ((place : ℕ) → get_or latest place 0 ≤ bound) → (place : ℕ) → get_or (set latest seat n) place 0 ≤ bound
still_bound [] seat n bound inside le all place = absurd (omega (arith, inside))
still_bound (x ∷ latest) zero n bound inside le all zero = le
still_bound (x ∷ latest) zero n bound inside le all (suc place) = all (suc place)
still_bound (x ∷ latest) (suc seat) n bound inside le all zero = all zero
still_bound (x ∷ latest) (suc seat) n bound inside le all (suc place) = still_bound latest seat n bound (omega (arith, inside)) le (λ k. all (suc k)) place

-- each line has a text of the writer's
pub as_many_texts : (opening : Basis) (list : List Entry) (lines : List ReadLine) (texts : List (List ℕ)) (last : List Entry) → WriterSays opening list lines texts last → length texts ≡ length lines
as_many_texts opening list [] texts last says = ap length says.0
as_many_texts opening list (line ∷ lines) texts last says = let more = as_many_texts opening says.next lines says.others last says.rest in omega (arith, more, ap length says.all)
