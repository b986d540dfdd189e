-- Lines that were cut, taken into their rounds one after another.
use Rattle.std.proofs.Common.{◌≡◌, ℕ, suc, ◌+◌, ◌-◌, ◌≤◌, List, [], ◌∷◌, length, true, false, Option, Result, Ok, Err, refl, sym, ap, ◌∙◌, inl, inr, subst, arith}
use Rattle.std.specs.Prelude.{IfSome, IfErr, IsErrAnd, IsErrOf}
use Rattle.dnr_io.specs.Lines.{AreEnded, IsBeyond, StopsIn}
use Rattle.dnr_io.specs.declared.line_refusal.LineRefusal.{LineRefusal}
use Rattle.dnr_io.specs.declared.line_refusal.LineRefusal.TheVariants as refusal
use Rattle.dnr_spec.specs.Lines.{max_lines}
use Rattle.generation.specs.Basis.{Basis}
use Rattle.lines_ahead.specs.Cut.{CutSeen}
use Rattle.session_laws.proofs.Rises.{none_fell_yet}
use Rattle.session_laws.specs.Turns.{NoneFell, counts_between}
use Rattle.session_rounds.specs.Read.{serving}
use Rattle.session_serve.specs.Serving.{EndsServing}
use Rattle.session_serve.specs.declared.stop.ServeStop.{ServeStop}
use Rattle.session_serve.specs.declared.stop.ServeStop.TheVariants as stop
use Rattle.session_spec.specs.Rounds.{ends_round, with_line}
use Rattle.update_spec.specs.Entries.{Entry}
use Rattle.session_seats.specs.Cutting.{AreCut, bytes_of, FollowOn, CutsLines, StandsBehind}
use Rattle.session_seats.specs.Reading.{ReadRound, ReadsLine, nothing_read}
use Rattle.session_seats.specs.Rounds.{WritesRound, StopsRound}
use Rattle.session_seats.specs.Taking.{AreShort, Standing, standing, GoesOn, EndsRound, TakesLine, TakesLines, StopsLine, StopsLines, StopsServing}
use Rattle.session_seats.proofs.SoFar.{SoFar, line_more, whole_round_more}
use Rattle.session_seats.proofs.Queues.{lines_cut}
use Rattle.session_seats.proofs.Endings.{without_memory, stops_serving}

-- ---- what is served, by what is taken

short_of : (given : ℕ) (lines : List CutSeen) → FollowOn given lines → AreShort lines
short_of given [] follow = tt
short_of given (line ∷ lines) follow = (follow.1, short_of (given + 1) lines follow.2)

-- a round goes on with a line, or ends with it
went_on : (opening : Basis) (seats : ℕ) (before : Option (List ℕ)) (was : List ℕ) (known rest : Option (List ℕ)) (given : ℕ) (queue : List (List ℕ)) (line : CutSeen) (from to : Standing) → line.number ≡ given + 1
    → SoFar opening seats before from.taken was from.checker from.finders known rest given (line.bytes ∷ queue) from.round from.list → GoesOn line from to
    → SoFar opening seats before to.taken was to.checker to.finders known rest (given + 1) queue to.round to.list
went_on opening seats before was known rest given queue line from to here so_far on =
    subst (λ (now : Option (List ℕ)). SoFar opening seats before now was to.checker to.finders known rest (given + 1) queue to.round to.list) (sym on.taken)
    (subst (λ (finders : List ℕ). SoFar opening seats before from.taken was to.checker finders known rest (given + 1) queue to.round to.list) (sym on.finders)
    (subst (λ (list : List Entry). SoFar opening seats before from.taken was to.checker from.finders known rest (given + 1) queue to.round list) (sym on.list)
    (line_more opening seats before from.taken was from.checker to.checker from.finders known rest given queue from.round to.round from.list line.bytes
    (subst (λ (n : ℕ). ends_round from.round.held n line.bytes ≡ false) here on.on) on.later
    (subst (λ (n : ℕ). to.round.held ≡ with_line from.round.held n line.bytes) here on.held) so_far
    (subst (λ (n : ℕ). ReadsLine n line.bytes from.checker to.checker from.round.reads to.round.reads) here on.reads))))

round_ended : (opening : Basis) (seats : ℕ) (before : Option (List ℕ)) (was : List ℕ) (known rest : Option (List ℕ)) (given : ℕ) (queue : List (List ℕ)) (line : CutSeen) (from to : Standing) → opening.state.count ≡ 0 → line.number ≡ given + 1
    → SoFar opening seats before from.taken was from.checker from.finders known rest given (line.bytes ∷ queue) from.round from.list → EndsRound opening seats line from to
    → SoFar opening seats before to.taken was to.checker to.finders known rest (given + 1) queue to.round to.list
round_ended opening seats before was known rest given queue line from to fresh here so_far end =
    whole_round_more opening seats before from.taken to.taken was from.checker to.checker from.finders to.finders known rest given queue from.round end.whole to.round from.list to.list line.bytes
    fresh (subst (λ (n : ℕ). ends_round from.round.held n line.bytes ≡ true) here end.ends) end.later end.fell end.next so_far
    (subst (λ (n : ℕ). ReadsLine n line.bytes from.checker to.checker from.round.reads end.whole.reads) here end.reads) end.writes

line_taken : (opening : Basis) (seats : ℕ) (before : Option (List ℕ)) (was : List ℕ) (known rest : Option (List ℕ)) (given : ℕ) (queue : List (List ℕ)) (line : CutSeen) (from to : Standing) → opening.state.count ≡ 0 → line.number ≡ given + 1
    → SoFar opening seats before from.taken was from.checker from.finders known rest given (line.bytes ∷ queue) from.round from.list → TakesLine opening seats line from to
    → SoFar opening seats before to.taken was to.checker to.finders known rest (given + 1) queue to.round to.list
line_taken opening seats before was known rest given queue line from to fresh here so_far (inl on) = went_on opening seats before was known rest given queue line from to here so_far on
line_taken opening seats before was known rest given queue line from to fresh here so_far (inr end) = round_ended opening seats before was known rest given queue line from to fresh here so_far end

-- all lines that were cut are taken
pub lines_taken : (opening : Basis) (seats : ℕ) (before : Option (List ℕ)) (was : List ℕ) (known rest : Option (List ℕ)) (given number : ℕ) (lines : List CutSeen) (from to : Standing) → opening.state.count ≡ 0 → FollowOn given lines
    → number ≡ given + length lines → SoFar opening seats before from.taken was from.checker from.finders known rest given (bytes_of lines) from.round from.list → TakesLines opening seats from to lines
    → SoFar opening seats before to.taken was to.checker to.finders known rest number [] to.round to.list
lines_taken opening seats before was known rest given number [] from to fresh follow here so_far takes =
    let same : given ≡ number = omega (arith, here) in
    subst (λ (s : Standing). SoFar opening seats before s.taken was s.checker s.finders known rest number [] s.round s.list) (sym takes)
    (subst (λ (n : ℕ). SoFar opening seats before from.taken was from.checker from.finders known rest n [] from.round from.list) same so_far)
lines_taken opening seats before was known rest given number (line ∷ lines) from to fresh follow here so_far takes =
    lines_taken opening seats before was known rest (given + 1) number lines takes.0 to fresh follow.2 (omega (arith, here))
    (line_taken opening seats before was known rest given (bytes_of lines) line from takes.0 fresh follow.0 so_far takes.1) takes.2

-- ---- what is served, where one of them is not

bytes_length : (lines : List CutSeen) → length (bytes_of lines) ≡ length lines
bytes_length [] = refl
bytes_length (line ∷ lines) = ap suc (bytes_length lines)

line_stopped : (opening : Basis) (seats : ℕ) (before now : Option (List ℕ)) (was : List ℕ) (is : ℕ) (others : List ℕ) (known rest left : Option (List ℕ)) (given : ℕ) (queue : List (List ℕ)) (line : CutSeen) (from : Standing) (why e : ServeStop) → e ≡ why
    → opening.state.count ≡ 0 → line.number ≡ given + 1 → given + length (line.bytes ∷ queue) ≤ max_lines
    → SoFar opening seats before from.taken was from.checker from.finders known rest given (line.bytes ∷ queue) from.round from.list → StopsLine opening seats line from now is others why
    → IfSome known (λ script. EndsServing before now (counts_between was (is ∷ others)) (serving opening.suffixes seats) opening.state script left (Err e))
line_stopped opening seats before now was is others known rest left given queue line from why e same fresh here few so_far (inl stops) =
    without_memory opening seats before from.taken now was from.checker is from.finders others known rest left given (line.bytes ∷ queue) from.round from.list e (same ∙ stops.memory) stops.later stops.fell few stops.taken so_far
line_stopped opening seats before now was is others known rest left given queue line from why e same fresh here few so_far (inr stops) =
    stops_serving opening seats before from.taken now was from.checker is from.finders others known rest left given queue from.round stops.whole from.list line.bytes why e same fresh
    (subst (λ (n : ℕ). ends_round from.round.held n line.bytes ≡ true) here stops.ends) few stops.later stops.fell so_far
    (subst (λ (n : ℕ). ReadsLine n line.bytes from.checker is from.round.reads stops.whole.reads) here stops.reads) stops.stops

-- one of the lines that were cut is not taken, or its round not written
pub lines_stopped : (opening : Basis) (seats : ℕ) (before now : Option (List ℕ)) (was : List ℕ) (is : ℕ) (others : List ℕ) (known rest left : Option (List ℕ)) (given : ℕ) (lines : List CutSeen) (from : Standing) (why e : ServeStop) → e ≡ why
    → opening.state.count ≡ 0 → FollowOn given lines → given + length lines ≤ max_lines
    → SoFar opening seats before from.taken was from.checker from.finders known rest given (bytes_of lines) from.round from.list → StopsLines opening seats from now is others why lines
    → IfSome known (λ script. EndsServing before now (counts_between was (is ∷ others)) (serving opening.suffixes seats) opening.state script left (Err e))
lines_stopped opening seats before now was is others known rest left given [] from why e same fresh follow few so_far stops = absurd stops
lines_stopped opening seats before now was is others known rest left given (line ∷ lines) from why e same fresh follow few so_far (inl stops) =
    line_stopped opening seats before now was is others known rest left given (bytes_of lines) line from why e same fresh follow.0 (omega (arith, few, bytes_length lines)) so_far stops
lines_stopped opening seats before now was is others known rest left given (line ∷ lines) from why e same fresh follow few so_far (inr stops) =
    lines_stopped opening seats before now was is others known rest left (given + 1) lines stops.0 why e same fresh follow.2 (omega (arith, few))
    (line_taken opening seats before was known rest given (bytes_of lines) line from stops.0 fresh follow.0 so_far stops.1) stops.2

-- no fault of the source is blamed
line_blames : (opening : Basis) (seats : ℕ) (line : CutSeen) (from : Standing) (now : Option (List ℕ)) (is : ℕ) (others : List ℕ) (why : ServeStop) → why ≡ stop.ReadFault → StopsLine opening seats line from now is others why → ⊥
line_blames opening seats line from now is others why read (inl stops) = absurd (cc (sym read ∙ stops.memory))
line_blames opening seats line from now is others why read (inr stops) =
    subst (λ (w : ServeStop). StopsRound opening seats stops.whole.reads from.list from.taken now from.finders others w) read stops.stops

pub lines_blame : (opening : Basis) (seats : ℕ) (from : Standing) (now : Option (List ℕ)) (is : ℕ) (others : List ℕ) (why : ServeStop) (lines : List CutSeen) → why ≡ stop.ReadFault → StopsLines opening seats from now is others why lines → ⊥
lines_blame opening seats from now is others why [] read stops = stops
lines_blame opening seats from now is others why (line ∷ lines) read (inl stops) = line_blames opening seats line from now is others why read stops
lines_blame opening seats from now is others why (line ∷ lines) read (inr stops) = lines_blame opening seats stops.0 now is others why lines read stops.2

-- ---- how it is said of the code

-- a line that was cut is taken, and its round goes on
pub on_taken : (opening : Basis) (seats : ℕ) (line : CutSeen) (taken : Option (List ℕ)) (checker is : ℕ) (finders : List ℕ) (round left : ReadRound) (list : List Entry)
    → ends_round round.held line.number line.bytes ≡ false → left.held ≡ with_line round.held line.number line.bytes → ReadsLine line.number line.bytes checker is round.reads left.reads → checker ≤ is
    → TakesLine opening seats line (standing taken checker finders round list) (standing taken is finders left list)
on_taken opening seats line taken checker is finders round left list on held reads later = inl (record { on = on; held = held; reads = reads; later = later; taken = refl; finders = refl; list = refl })

-- the same of one that ends it
pub end_taken : (opening : Basis) (seats : ℕ) (line : CutSeen) (taken now : Option (List ℕ)) (checker is : ℕ) (finders others : List ℕ) (round whole left : ReadRound) (list end : List Entry)
    → ends_round round.held line.number line.bytes ≡ true → ReadsLine line.number line.bytes checker is round.reads whole.reads → checker ≤ is → NoneFell finders others
    → WritesRound opening seats whole.reads list end taken now finders others → left ≡ nothing_read
    → TakesLine opening seats line (standing taken checker finders round list) (standing now is others left end)
end_taken opening seats line taken now checker is finders others round whole left list end ends reads later fell writes next =
    inr (record { whole = whole; ends = ends; reads = reads; later = later; fell = fell; writes = writes; next = next })

-- memory ran out before it was
pub stops_before : (opening : Basis) (seats : ℕ) (line : CutSeen) (taken : Option (List ℕ)) (checker is : ℕ) (finders : List ℕ) (round : ReadRound) (list : List Entry) (result : Result (Unit {0}) ServeStop) → IsErrAnd result (λ e. e ≡ stop.NoMemory) → checker ≤ is
    → IfErr result (λ why. StopsLine opening seats line (standing taken checker finders round list) taken is finders why)
stops_before opening seats line taken checker is finders round list (Ok done) memory later = tt
stops_before opening seats line taken checker is finders round list (Err why) memory later = inl (record { memory = memory; taken = refl; later = later; fell = none_fell_yet finders })

-- its round is not written
pub stops_with : (opening : Basis) (seats : ℕ) (line : CutSeen) (taken now : Option (List ℕ)) (checker is : ℕ) (finders others : List ℕ) (round whole : ReadRound) (list : List Entry) (cause : ServeStop) (result : Result (Unit {0}) ServeStop) → IsErrAnd result (λ e. e ≡ cause)
    → ends_round round.held line.number line.bytes ≡ true → ReadsLine line.number line.bytes checker is round.reads whole.reads → checker ≤ is → NoneFell finders others
    → StopsRound opening seats whole.reads list taken now finders others cause
    → IfErr result (λ why. StopsLine opening seats line (standing taken checker finders round list) now is others why)
stops_with opening seats line taken now checker is finders others round whole list cause (Ok done) same ends reads later fell stops = tt
stops_with opening seats line taken now checker is finders others round whole list cause (Err why) same ends reads later fell stops =
    inr (record { whole = whole; ends = ends; reads = reads; later = later; fell = fell; stops = subst (λ (w : ServeStop). StopsRound opening seats whole.reads list taken now finders others w) (sym same) stops })

-- ---- the lines of a cut, one after another

-- what is said of the lines that are left is said of all of them, and so where one of them is taken
pub taken_on : (opening : Basis) (seats many : ℕ) (from here next : Standing) (line : CutSeen) (lines left all : List CutSeen) → many ≡ seats → lines ≡ line ∷ left → TakesLine opening many line here next
    → ((to : Standing) → TakesLines opening seats here to lines → TakesLines opening seats from to all)
    → (to : Standing) → TakesLines opening seats next to left → TakesLines opening seats from to all
taken_on opening seats many from here next line lines left all same first takes done to later =
    done to (subst (λ (ls : List CutSeen). TakesLines opening seats here to ls) (sym first) (next, subst (λ (n : ℕ). TakesLine opening n line here next) same takes, later))

pub stopped_on : (opening : Basis) (seats many : ℕ) (from here next : Standing) (line : CutSeen) (lines left all : List CutSeen) → many ≡ seats → lines ≡ line ∷ left → TakesLine opening many line here next
    → ((now : Option (List ℕ)) (is : ℕ) (others : List ℕ) (why : ServeStop) → StopsLines opening seats here now is others why lines → StopsLines opening seats from now is others why all)
    → (now : Option (List ℕ)) (is : ℕ) (others : List ℕ) (why : ServeStop) → StopsLines opening seats next now is others why left → StopsLines opening seats from now is others why all
stopped_on opening seats many from here next line lines left all same first takes done now is others why later =
    done now is others why (subst (λ (ls : List CutSeen). StopsLines opening seats here now is others why ls) (sym first) (inr (next, subst (λ (n : ℕ). TakesLine opening n line here next) same takes, later)))

-- none is left
pub all_taken : (opening : Basis) (seats : ℕ) (from here : Standing) (lines all : List CutSeen) → length lines ≡ 0
    → ((to : Standing) → TakesLines opening seats here to lines → TakesLines opening seats from to all) → TakesLines opening seats from here all
all_taken opening seats from here [] all none done = done here refl
all_taken opening seats from here (line ∷ lines) all none done = absurd (omega (arith, none))

-- one is not taken, or its round not written
pub stopped_at : (opening : Basis) (seats many : ℕ) (from here : Standing) (now : Option (List ℕ)) (is : ℕ) (others : List ℕ) (cause : ServeStop) (result : Result (Unit {0}) ServeStop) (line : CutSeen) (lines left all : List CutSeen)
    → IsErrAnd result (λ e. e ≡ cause) → many ≡ seats → lines ≡ line ∷ left → StopsLine opening many line here now is others cause
    → ((now : Option (List ℕ)) (is : ℕ) (others : List ℕ) (why : ServeStop) → StopsLines opening seats here now is others why lines → StopsLines opening seats from now is others why all)
    → StopsServing opening seats from now is others all result
stopped_at opening seats many from here now is others cause (Ok done) line lines left all why same first stops on = tt
stopped_at opening seats many from here now is others cause (Err e) line lines left all why same first stops on =
    on now is others e (subst (λ (ls : List CutSeen). StopsLines opening seats here now is others e ls) (sym first)
    (inl (subst (λ (n : ℕ). StopsLine opening n line here now is others e) same (subst (λ (w : ServeStop). StopsLine opening many line here now is others w) (sym why) stops))))

-- ---- a cut, and what is served of it

-- so many lines were given, and these follow them, up to this number
pub record Follows (given later : ℕ) (lines : List CutSeen) : Type 0 where
  pub follow : FollowOn given lines
  pub more : later ≡ given + length lines
  pub few : later ≤ max_lines

pub follows : (given count : ℕ) (lines taken : List CutSeen) → taken ≡ lines → count - length lines ≡ given → AreCut count taken → Follows given count lines
follows given count lines taken same here cut =
    let are = subst (λ (ls : List CutSeen). AreCut count ls) same cut in
    record { follow = subst (λ (n : ℕ). FollowOn n lines) here are.follow; more = omega (arith, are.within, here); few = are.few }

pub short_taken : (given later : ℕ) (lines asked : List CutSeen) → asked ≡ lines → Follows given later lines → AreShort asked
short_taken given later lines asked same all = subst (λ (ls : List CutSeen). AreShort ls) (sym same) (short_of given lines all.follow)

-- its lines were read behind those that were taken, and are taken
pub cut_taken : (opening : Basis) (seats many : ℕ) (before : Option (List ℕ)) (was : List ℕ) (known rest : Option (List ℕ)) (given later : ℕ) (kept lines asked : List CutSeen) (Holds : Option (List ℕ) → Type 0) (from to : Standing)
    → opening.state.count ≡ 0 → many ≡ seats → asked ≡ lines → Follows given later lines → (cuts : CutsLines rest kept lines Holds)
    → SoFar opening seats before from.taken was from.checker from.finders known rest given (bytes_of kept) from.round from.list → TakesLines opening many from to asked
    → SoFar opening seats before to.taken was to.checker to.finders known cuts.behind later [] to.round to.list
cut_taken opening seats many before was known rest given later kept lines asked Holds from to fresh all same follow cuts so_far takes =
    lines_taken opening seats before was known cuts.behind given later lines from to fresh follow.follow follow.more
    (lines_cut opening seats before from.taken was from.checker from.finders known rest given kept lines Holds from.round from.list cuts so_far)
    (subst (λ (n : ℕ). TakesLines opening n from to lines) all (subst (λ (ls : List CutSeen). TakesLines opening many from to ls) same takes))

-- one is not, or its round not written
pub cut_stopped : (opening : Basis) (seats many : ℕ) (before now : Option (List ℕ)) (was : List ℕ) (is : ℕ) (others : List ℕ) (known rest left : Option (List ℕ)) (given later : ℕ) (kept lines asked : List CutSeen) (Holds : Option (List ℕ) → Type 0) (from : Standing) (why e : ServeStop)
    → e ≡ why → opening.state.count ≡ 0 → many ≡ seats → asked ≡ lines → Follows given later lines → (cuts : CutsLines rest kept lines Holds)
    → SoFar opening seats before from.taken was from.checker from.finders known rest given (bytes_of kept) from.round from.list → StopsLines opening many from now is others why asked
    → IfSome known (λ script. EndsServing before now (counts_between was (is ∷ others)) (serving opening.suffixes seats) opening.state script left (Err e))
cut_stopped opening seats many before now was is others known rest left given later kept lines asked Holds from why e so fresh all same follow cuts so_far stops =
    lines_stopped opening seats before now was is others known cuts.behind left given lines from why e so fresh follow.follow (omega (arith, follow.more, follow.few))
    (lines_cut opening seats before from.taken was from.checker from.finders known rest given kept lines Holds from.round from.list cuts so_far)
    (subst (λ (n : ℕ). StopsLines opening n from now is others why lines) all (subst (λ (ls : List CutSeen). StopsLines opening many from now is others why ls) same stops))

-- why the line behind it is not given
pub behind_long : (count : ℕ) (was now left behind : Option (List ℕ)) (why : LineRefusal) → StandsBehind count was now left (Err why) behind → why ≡ refusal.LineTooLong → IfSome behind (IsBeyond count)
behind_long count was now left behind why stands is = subst (λ (w : LineRefusal). StandsBehind count was now left (Err w) behind) is stands

pub behind_fault : (count : ℕ) (was now left behind : Option (List ℕ)) (why : LineRefusal) → StandsBehind count was now left (Err why) behind → why ≡ refusal.ReadFault → StopsIn behind left × AreEnded was behind
behind_fault count was now left behind why stands is = subst (λ (w : LineRefusal). StandsBehind count was now left (Err w) behind) is stands

-- no fault of the source is blamed where one is not
pub not_of_cut : (opening : Basis) (seats : ℕ) (from : Standing) (now : Option (List ℕ)) (is : ℕ) (others : List ℕ) (why : ServeStop) (lines : List CutSeen) (result : Result (Unit {0}) ServeStop) → IsErrAnd result (λ e. e ≡ why)
    → StopsLines opening seats from now is others why lines → IsErrOf result stop.ReadFault → ⊥
not_of_cut opening seats from now is others why lines result same stops read =
    lines_blame opening seats from now is others why lines (sym (subst (λ (r : Result (Unit {0}) ServeStop). IsErrAnd r (λ e. e ≡ why)) read same)) stops
