-- The lines that are dealt to seats, and those of them that ask one.
use Rattle.std.proofs.Common.{◌≡◌, ◌<◌, ◌≤◌, ◌+◌, ◌-◌, ◌*◌, ◌/◌, ◌%◌, ◌⊎◌, ◌∙◌, ◌++◌, ℕ, zero, suc, List, [], ◌∷◌, length, get_or, drop, take, append-nil, cond, not, Bool, true, false, refl, sym, ap, subst, inl, inr, ⊎_elim, arith, add-zero, zero-add, All}
use Rattle.std.specs.Prelude.{IsFalse, nat_eq}
use Rattle.std.specs.List.{filter, list_any}
use Rattle.std.proofs.Math.Nat.{mod-add-div, mul-suc}
use Rattle.std.proofs.lemmas.Bool.{cases_Bool, eq-eqb, eqb-true, or_cases, or_left, or_right, true≢false}
use Rattle.std.proofs.lemmas.List.{take_all, take_more}
use Rattle.std.proofs.lemmas.List.Elements.{filter-append, All-get_or, All-push, All-same}
use Rattle.session_rounds.specs.Lines.{is_asking}
use Rattle.session_rounds.specs.declared.read_line.ReadLine.{ReadLine}
use Rattle.session_serve.proofs.Told.{turn_inside}
use Rattle.session_seats.specs.Reading.{ReadRound, asking_from, dealt_at, dealt_from, seen_line, seen_lines, with_dealt}
use Rattle.session_seats.specs.Seats.{AreSeats, AreSeatsFrom, DeskSeen, HasAnsweredAll, HasAnsweredTurns, HasPassedOverAll, asks_at, asking, share, unasking}
use Rattle.session_seats.specs.declared.round_line.RoundLine.{RoundLine}
use Rattle.session_seats.specs.declared.round_line.RoundLine.TheVariants as round
use Rattle.session_seats.proofs.Seats.{same_at}
use Rattle.session_seats.proofs.Served.{asking_both, asking_none, asking_one, share_behind, share_turn}

-- ---- which ask

filter_at : (f : ℕ → Bool) (place : ℕ) (is : Bool) → f place ≡ is → filter f (cond is (place ∷ []) []) ≡ cond is (place ∷ []) []
filter_at f place true same = ap (λ (b : Bool). cond b (place ∷ []) []) same
filter_at f place false same = refl

one_dealt : (f : ℕ → Bool) (place : ℕ) (line : RoundLine) → f place ≡ is_asking (seen_line line) → filter f (dealt_at place line) ≡ cond (is_asking (seen_line line)) (place ∷ []) []
one_dealt f place (round.Read line) same = filter_at f place (is_asking line.value) same
one_dealt f place (round.Plain line) same = ap (λ (b : Bool). cond b (place ∷ []) []) same

asking_dealt : (f : ℕ → Bool) (place : ℕ) (lines : List RoundLine) → ((i : ℕ) → f (place + i) ≡ asks_at (seen_lines lines) i) → filter f (dealt_from place lines) ≡ asking_from place (seen_lines lines)
asking_dealt f place [] same = refl
asking_dealt f place (line ∷ lines) same =
    let here : f place ≡ is_asking (seen_line line) = ap f (sym (add-zero place)) ∙ same 0 in
    let next : (i : ℕ) → place + 1 + i ≡ place + suc i = λ i. omega arith in
    let rest : filter f (dealt_from (place + 1) lines) ≡ asking_from (place + 1) (seen_lines lines) =
    asking_dealt f (place + 1) lines (λ i. ap f (next i) ∙ same (suc i)) in
    filter-append f (dealt_at place line) (dealt_from (place + 1) lines) ∙ ap (λ (l : List ℕ). l ++ filter f (dealt_from (place + 1) lines)) (one_dealt f place line here)
    ∙ ap (λ (l : List ℕ). cond (is_asking (seen_line line)) (place ∷ []) [] ++ l) rest

-- those of the places that are dealt whose lines ask a seat are all of a round
pub asking_round : (round : ReadRound) → round.reads ≡ seen_lines round.lines → round.dealt ≡ dealt_from 0 round.lines → asking round.reads round.dealt ≡ asking_from 0 round.reads
asking_round round seen dealt =
    ap (asking round.reads) dealt ∙ ap (λ (reads : List ReadLine). asking reads (dealt_from 0 round.lines)) seen
    ∙ asking_dealt (asks_at (seen_lines round.lines)) 0 round.lines (λ i. ap (asks_at (seen_lines round.lines)) (zero-add i)) ∙ ap (asking_from 0) (sym seen)

-- each of the places asks
abbrev pub AllAsk : List ReadLine → List ℕ → Type 0
AllAsk reads [] = Unit {0}
AllAsk reads (place ∷ places) = (asks_at reads place ≡ true) × AllAsk reads places

ask_by : (reads : List ReadLine) (place : ℕ) (places : List ℕ) (is : Bool) → asks_at reads place ≡ is → AllAsk reads places → AllAsk reads (cond is (place ∷ places) places)
ask_by reads place places true same all = (same, all)
ask_by reads place places false same all = all

asking_ask : (reads : List ReadLine) (places : List ℕ) → AllAsk reads (asking reads places)
asking_ask reads [] = tt
asking_ask reads (place ∷ places) = ask_by reads place (asking reads places) (asks_at reads place) refl (asking_ask reads places)

share_asks : (reads : List ReadLine) (seats before : ℕ) (places : List ℕ) → AllAsk reads places → AllAsk reads (share seats before places)
share_asks reads seats before [] all = tt
share_asks reads seats zero (place ∷ places) all = (all.0, share_asks reads seats (seats - 1) places all.1)
share_asks reads seats (suc before) (place ∷ places) all = share_asks reads seats before places all.1

whole_by : (place : ℕ) (places now : List ℕ) (is : Bool) → is ≡ true → now ≡ places → cond is (place ∷ now) now ≡ place ∷ places
whole_by place places now true so same = ap (λ (l : List ℕ). place ∷ l) same
whole_by place places now false so same = absurd (true≢false (sym so))

all_asking : (reads : List ReadLine) (places : List ℕ) → AllAsk reads places → asking reads places ≡ places
all_asking reads [] all = refl
all_asking reads (place ∷ places) all = whole_by place places (asking reads places) (asks_at reads place) all.0 (all_asking reads places all.1)

-- ---- whose turn it is

-- where the places that are dealt ask, the share of each seat is that of the requests
pub turns_of : (round : ReadRound) (desk : DeskSeen) → asking round.reads round.dealt ≡ asking_from 0 round.reads → asking round.reads round.dealt ≡ round.dealt → HasAnsweredAll round desk → HasAnsweredTurns round.reads desk
turns_of round desk are all answered work =
    let ask : AllAsk round.reads round.dealt = subst (AllAsk round.reads) all (asking_ask round.reads round.dealt) in
    answered work ∙ all_asking round.reads (share desk.seats desk.seat round.dealt) (share_asks round.reads desk.seats desk.seat round.dealt ask)
    ∙ ap (share desk.seats desk.seat) (sym all ∙ are)

share_alone : (places : List ℕ) → share 1 0 places ≡ places
share_alone [] = refl
share_alone (place ∷ places) = ap (λ (l : List ℕ). place ∷ l) (share_alone places)

-- a single seat has every turn
pub turns_alone : (round : ReadRound) (desk : DeskSeen) → asking round.reads round.dealt ≡ asking_from 0 round.reads → desk.seat ≡ 0 → desk.seats ≡ 1 → HasAnsweredAll round desk → HasAnsweredTurns round.reads desk
turns_alone round desk are first one answered work =
    answered work ∙ ap (λ (n : ℕ). asking round.reads (share n desk.seat round.dealt)) one ∙ ap (λ (n : ℕ). asking round.reads (share 1 n round.dealt)) first
    ∙ ap (asking round.reads) (share_alone round.dealt) ∙ are ∙ sym (share_alone (asking_from 0 round.reads))
    ∙ ap (λ (n : ℕ). share 1 n (asking_from 0 round.reads)) (sym first) ∙ ap (λ (n : ℕ). share n desk.seat (asking_from 0 round.reads)) (sym one)

-- ---- places in shares

abbrev pub IsIn : ℕ → List ℕ → Type 0
IsIn place [] = ⊥
IsIn place (other ∷ others) = (other ≡ place) ⊎ IsIn place others

abbrev after : ℕ → ℕ → ℕ → ℕ
after seats turn zero = turn
after seats turn (suc more) = after seats (turn + seats) more

after_is : (seats turn more : ℕ) → after seats turn more ≡ turn + seats * more
after_is seats turn zero = omega arith
after_is seats turn (suc more) = omega (arith, after_is seats (turn + seats) more, mul-suc seats more)

after_least : (seats turn more : ℕ) → turn ≤ after seats turn more
after_least seats turn zero = omega arith
after_least seats turn (suc more) = omega (arith, after_least seats (turn + seats) more)

in_share : (seats turn more : ℕ) (places : List ℕ) → 0 < seats → after seats turn more < length places → IsIn (get_or places (after seats turn more) 0) (share seats turn places)
in_share seats turn zero places some inside = subst (IsIn (get_or places turn 0)) (sym (share_behind seats turn places ∙ share_turn seats turn places some inside)) (inl refl)
in_share seats turn (suc more) places some inside =
    let before : turn < length places = omega (arith, inside, after_least seats (turn + seats) more) in
    let rest : IsIn (get_or places (after seats (turn + seats) more) 0) (share seats 0 (drop (turn + seats) places)) =
    subst (IsIn (get_or places (after seats (turn + seats) more) 0)) (share_behind seats (turn + seats) places) (in_share seats (turn + seats) more places some inside) in
    subst (IsIn (get_or places (after seats (turn + seats) more) 0)) (sym (share_behind seats turn places ∙ share_turn seats turn places some before)) (inr rest)

-- a place is in the share of the seat whose turn it is
its_share : (seats turn : ℕ) (places : List ℕ) → 0 < seats → turn < length places → IsIn (get_or places turn 0) (share seats (turn % seats) places)
its_share seats turn places some inside =
    let is : after seats (turn % seats) (turn / seats) ≡ turn = after_is seats (turn % seats) (turn / seats) ∙ mod-add-div turn seats in
    subst (λ (k : ℕ). IsIn (get_or places k 0) (share seats (turn % seats) places)) is
    (in_share seats (turn % seats) (turn / seats) places some (subst (λ (k : ℕ). k < length places) (sym is) inside))

-- ---- places that were passed over

abbrev pub has_place : List ℕ → ℕ → Bool
has_place places place = list_any (λ (other : ℕ). nat_eq other place) places

has_by : (reads : List ReadLine) (place x : ℕ) (rest : List ℕ) (is : Bool) → asks_at reads x ≡ is → (has_place rest place ≡ true → asks_at reads place ≡ false) → has_place (cond (not is) (x ∷ rest) rest) place ≡ true
    → asks_at reads place ≡ false
has_by reads place x rest true same later has = later has
has_by reads place x rest false same later has =
    ⊎_elim (λ (here : nat_eq x place ≡ true). subst (λ (p : ℕ). asks_at reads p ≡ false) (eqb-true x place here) same) (λ (there : has_place rest place ≡ true). later there)
    (or_cases (nat_eq x place) (has_place rest place) has)

passed_asks_not : (reads : List ReadLine) (places : List ℕ) (place : ℕ) → has_place (unasking reads places) place ≡ true → asks_at reads place ≡ false
passed_asks_not reads [] place has = absurd (true≢false (sym has))
passed_asks_not reads (x ∷ places) place has = has_by reads place x (unasking reads places) (asks_at reads x) refl (passed_asks_not reads places place) has

not_by : (reads : List ReadLine) (place x : ℕ) (rest : List ℕ) (is : Bool) → asks_at reads x ≡ is → asks_at reads place ≡ false → (x ≡ place) ⊎ (has_place rest place ≡ true) → has_place (cond (not is) (x ∷ rest) rest) place ≡ true
not_by reads place x rest true same asks (inl here) = absurd (true≢false (sym same ∙ ap (asks_at reads) here ∙ asks))
not_by reads place x rest true same asks (inr there) = there
not_by reads place x rest false same asks (inl here) = or_left (nat_eq x place) (has_place rest place) (eq-eqb x place here)
not_by reads place x rest false same asks (inr there) = or_right (nat_eq x place) (has_place rest place) there

passes_over : (reads : List ReadLine) (places : List ℕ) (place : ℕ) → asks_at reads place ≡ false → IsIn place places → has_place (unasking reads places) place ≡ true
passes_over reads [] place asks is = absurd is
passes_over reads (x ∷ places) place asks (inl here) = not_by reads place x (unasking reads places) (asks_at reads x) refl asks (inl here)
passes_over reads (x ∷ places) place asks (inr there) = not_by reads place x (unasking reads places) (asks_at reads x) refl asks (inr (passes_over reads places place asks there))

asks_unless : (reads : List ReadLine) (places : List ℕ) (place : ℕ) (passed : Bool) → IsIn place places → has_place (unasking reads places) place ≡ passed → asks_at reads place ≡ not passed
asks_unless reads places place true is has = passed_asks_not reads places place has
asks_unless reads places place false is has =
    ⊎_elim (λ (asks : asks_at reads place ≡ true). asks) (λ (none : asks_at reads place ≡ false). absurd (true≢false (sym (passes_over reads places place none is) ∙ has))) (cases_Bool (asks_at reads place))

seat_from : (seat count : ℕ) (desks : List DeskSeen) (k : ℕ) (d : DeskSeen) → AreSeatsFrom seat count desks → k < length desks → ((get_or desks k d).seat ≡ seat + k) × ((get_or desks k d).seats ≡ count)
seat_from seat count [] k d all inside = absurd (omega (arith, inside))
seat_from seat count (desk ∷ desks) zero d all inside = (omega (arith, all.0), all.1)
seat_from seat count (desk ∷ desks) (suc k) d all inside =
    let rest = seat_from (seat + 1) count desks k d all.2 (omega (arith, inside)) in (omega (arith, rest.0), rest.1)

abbrev pub IsGoing : DeskSeen → Type 0
IsGoing desk = IsFalse desk.stopped

-- the line at a place that is dealt asks a seat unless the seat whose turn it is passed over it
pub turn_asks : (round : ReadRound) (desks : List DeskSeen) (turn : ℕ) (desk : DeskSeen) (place : ℕ) (passed : Bool) → 0 < length desks → AreSeats (length desks) desks → All (HasPassedOverAll round) desks → All IsGoing desks
    → turn < length round.dealt → desk ≡ get_or desks (turn % length desks) desk → place ≡ get_or round.dealt turn 0 → passed ≡ has_place desk.unasked place → asks_at round.reads place ≡ not passed
turn_asks round desks turn desk place passed some seats over going inside is there tells =
    let seat = turn % length desks in
    let within : seat < length desks = turn_inside turn (length desks) some in
    let its = seat_from 0 (length desks) desks seat desk seats within in
    let same : get_or desks seat desk ≡ desk = sym is in
    let here : desk.seat ≡ seat = ap (λ (d : DeskSeen). d.seat) is ∙ its.0 ∙ zero-add seat in
    let many : desk.seats ≡ length desks = ap (λ (d : DeskSeen). d.seats) is ∙ its.1 in
    let goes : IsFalse desk.stopped = subst IsGoing same (All-get_or IsGoing desks seat desk within going) in
    let noted : desk.unasked ≡ unasking round.reads (share desk.seats desk.seat round.dealt) = subst (HasPassedOverAll round) same (All-get_or (HasPassedOverAll round) desks seat desk within over) goes in
    let unasked : desk.unasked ≡ unasking round.reads (share (length desks) seat round.dealt) =
    noted ∙ ap (λ (n : ℕ). unasking round.reads (share n desk.seat round.dealt)) many ∙ ap (λ (n : ℕ). unasking round.reads (share (length desks) n round.dealt)) here in
    asks_unless round.reads (share (length desks) seat round.dealt) place passed
    (subst (λ (p : ℕ). IsIn p (share (length desks) seat round.dealt)) (sym there) (its_share (length desks) turn round.dealt some inside))
    (ap (λ (l : List ℕ). has_place l place) (sym unasked) ∙ sym tells)

-- one more that asks a seat, or that asks none
pub one_more_asks : (reads : List ReadLine) (dealt before now : List ℕ) (turn place : ℕ) → turn < length dealt → place ≡ get_or dealt turn 0 → asks_at reads place ≡ true → before ≡ asking reads (take turn dealt) → now ≡ before ++ place ∷ []
    → now ≡ asking reads (take (turn + 1) dealt)
one_more_asks reads dealt before now turn place inside there asks is more =
    more ∙ ap (λ (l : List ℕ). l ++ place ∷ []) is ∙ ap (λ (l : List ℕ). asking reads (take turn dealt) ++ l) (sym (asking_one reads place asks))
    ∙ sym (asking_both reads (take turn dealt) (place ∷ [])) ∙ ap (λ (p : ℕ). asking reads (take turn dealt ++ p ∷ [])) there ∙ ap (asking reads) (sym (take_more dealt turn 0 inside))

pub one_more_none : (reads : List ReadLine) (dealt before : List ℕ) (turn place : ℕ) → turn < length dealt → place ≡ get_or dealt turn 0 → asks_at reads place ≡ false → before ≡ asking reads (take turn dealt)
    → before ≡ asking reads (take (turn + 1) dealt)
one_more_none reads dealt before turn place inside there asks is =
    is ∙ sym (append-nil (asking reads (take turn dealt))) ∙ ap (λ (l : List ℕ). asking reads (take turn dealt) ++ l) (sym (asking_none reads place asks))
    ∙ sym (asking_both reads (take turn dealt) (place ∷ [])) ∙ ap (λ (p : ℕ). asking reads (take turn dealt ++ p ∷ [])) there ∙ ap (asking reads) (sym (take_more dealt turn 0 inside))

all_ask : (reads : List ReadLine) (places : List ℕ) → ((k : ℕ) → k < length places → asks_at reads (get_or places k 0) ≡ true) → AllAsk reads places
all_ask reads [] each = tt
all_ask reads (place ∷ places) each = (each 0 (omega arith), all_ask reads places (λ k inside. each (suc k) (omega (arith, inside))))

abbrev pub HasPassedNone : DeskSeen → Type 0
HasPassedNone desk = desk.unasked ≡ []

-- where no seat passed over a line, each that is dealt asks
pub none_passed : (round : ReadRound) (desks : List DeskSeen) (d : DeskSeen) → 0 < length desks → AreSeats (length desks) desks → All (HasPassedOverAll round) desks → All IsGoing desks → All HasPassedNone desks → asking round.reads round.dealt ≡ round.dealt
none_passed round desks d some seats over going none =
    all_asking round.reads round.dealt (all_ask round.reads round.dealt (λ k inside.
    let seat = k % length desks in
    let within = turn_inside k (length desks) some in
    let desk = get_or desks seat d in
    turn_asks round desks k desk (get_or round.dealt k 0) false some seats over going inside (same_at desks seat d desk within) refl
    (sym (ap (λ (l : List ℕ). has_place l (get_or round.dealt k 0)) (All-get_or HasPassedNone desks seat d within none)))))

-- ---- all seats

-- what is so of the first so many is so of one more, and at last of all
pub all_on : (P : DeskSeen → Type 0) (desks : List DeskSeen) (k : ℕ) (desk : DeskSeen) → k < length desks → desk ≡ get_or desks k desk → All P (take k desks) → P desk → All P (take (k + 1) desks)
all_on P desks k desk inside is all one = All-same P (take (k + 1) desks) (take k desks ++ desk ∷ []) (take_more desks k desk inside ∙ ap (λ (d : DeskSeen). take k desks ++ d ∷ []) (sym is)) (All-push P (take k desks) desk all one)

pub all_whole : (P : DeskSeen → Type 0) (desks : List DeskSeen) (k : ℕ) → length desks ≤ k → All P (take k desks) → All P desks
all_whole P desks k past all = subst (All P) (take_all k desks past) all

pub all_turns : (round : ReadRound) (desks : List DeskSeen) → asking round.reads round.dealt ≡ asking_from 0 round.reads → asking round.reads round.dealt ≡ round.dealt → All (HasAnsweredAll round) desks → All (HasAnsweredTurns round.reads) desks
all_turns round desks are all answered = λ k d inside. turns_of round (get_or desks k d) are all (answered k d inside)

pub all_turns_alone : (round : ReadRound) (desks : List DeskSeen) → asking round.reads round.dealt ≡ asking_from 0 round.reads → length desks ≡ 1 → AreSeats 1 desks → All (HasAnsweredAll round) desks → All (HasAnsweredTurns round.reads) desks
all_turns_alone round desks are one seats answered = λ k d inside.
    let its = seat_from 0 1 desks k d seats inside in
    turns_alone round (get_or desks k d) are (omega (arith, its.0, inside, one)) its.1 (answered k d inside)

-- ---- a round that is dealt

-- dealt as it is
pub deal_same : (round deal : ReadRound) (places : List ℕ) → deal ≡ with_dealt places round → places ≡ round.dealt → deal ≡ round
deal_same round deal places is same = is ∙ ap (λ (p : List ℕ). with_dealt p round) same

-- where no seat passed over a line
pub turns_unpassed : (round : ReadRound) (desks : List DeskSeen) → 0 < length desks → round.reads ≡ seen_lines round.lines → round.dealt ≡ dealt_from 0 round.lines → AreSeats (length desks) desks → All (HasPassedOverAll round) desks → All IsGoing desks
    → All HasPassedNone desks → All (HasAnsweredAll round) desks → All (HasAnsweredTurns round.reads) desks
turns_unpassed round [] some seen dealt seats over going none answered = absurd (omega (arith, some))
turns_unpassed round (desk ∷ desks) some seen dealt seats over going none answered =
    all_turns round (desk ∷ desks) (asking_round round seen dealt) (none_passed round (desk ∷ desks) desk some seats over going none) answered

-- where there is a single one
pub turns_single : (round : ReadRound) (desks : List DeskSeen) (count : ℕ) → count ≡ 1 → count ≡ length desks → round.reads ≡ seen_lines round.lines → round.dealt ≡ dealt_from 0 round.lines → AreSeats count desks → All (HasAnsweredAll round) desks
    → All (HasAnsweredTurns round.reads) desks
turns_single round desks count one many seen dealt seats answered =
    all_turns_alone round desks (asking_round round seen dealt) (sym many ∙ one) (subst (λ (n : ℕ). AreSeats n desks) one seats) answered

-- and where the lines that ask are dealt anew
pub turns_anew : (round deal : ReadRound) (places : List ℕ) (desks : List DeskSeen) → deal ≡ with_dealt places round → places ≡ asking round.reads round.dealt → round.reads ≡ seen_lines round.lines → round.dealt ≡ dealt_from 0 round.lines
    → All (HasAnsweredAll deal) desks → All (HasAnsweredTurns round.reads) desks
turns_anew round deal places desks is same seen dealt answered =
    let asking_are : asking round.reads round.dealt ≡ asking_from 0 round.reads = asking_round round seen dealt in
    let whole : asking round.reads (asking round.reads round.dealt) ≡ asking round.reads round.dealt = all_asking round.reads (asking round.reads round.dealt) (asking_ask round.reads round.dealt) in
    let anew : All (HasAnsweredAll (with_dealt (asking round.reads round.dealt) round)) desks =
    subst (λ (r : ReadRound). All (HasAnsweredAll r) desks) (is ∙ ap (λ (p : List ℕ). with_dealt p round) same) answered in
    all_turns (with_dealt (asking round.reads round.dealt) round) desks (whole ∙ asking_are) whole anew
