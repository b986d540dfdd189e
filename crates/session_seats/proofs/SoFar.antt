-- A script whose rounds are served by seats, up to some line.
use Rattle.std.proofs.Common.{◌≡◌, ℕ, zero, suc, ◌+◌, ◌≤◌, List, [], ◌∷◌, ◌++◌, length, Bool, true, false, Option, Some, None, Result, Ok, Err, refl, sym, ap, ◌∙◌, subst, arith, append_assoc, append-nil, length-append}
use Rattle.std.proofs.lemmas.Bool.{or_parts}
use Rattle.std.specs.Prelude.{IfOk, OnOk, ◌||◌}
use Rattle.std.specs.Io.KnownBytes.{Appends, prepend_known}
use Rattle.dnr_io.specs.Lines.{AreEnded, ahead, GivesLine}
use Rattle.dnr_io.proofs.ReadSoFar.{IsReadSoFar, one_read}
use Rattle.generation.specs.Basis.{Basis}
use Rattle.session_laws.proofs.Cut.{Cut, cut_first, cut_on, cut_end}
use Rattle.session_laws.proofs.Rises.{place_rises, nothing_risen, none_fell_yet, none_fell_on, as_long}
use Rattle.session_laws.proofs.Served.{Served, served_first, served_whole}
use Rattle.session_laws.specs.Turns.{times_of, RiseBy, NoneFell, counts_between}
use Rattle.line_spec.specs.Line.{command_of}
use Rattle.session_rounds.proofs.Read.{round_served}
use Rattle.session_rounds.specs.Lines.{read_seen}
use Rattle.session_rounds.specs.Read.{LinesRead, serving}
use Rattle.session_rounds.specs.Rounds.{RoundAnswered}
use Rattle.session_rounds.specs.declared.read_line.ReadLine.{ReadLine}
use Rattle.session_serve.proofs.Short.{ended_on}
use Rattle.session_spec.specs.Answers.{RisesBy}
use Rattle.session_spec.specs.Rounds.{Held, holds_nothing, with_line, ends_round, is_sync, is_full}
use Rattle.update_spec.specs.Entries.{Entry, replay}
use Rattle.session_seats.specs.Cutting.{CutterSeen, bytes_of, cuts_nothing, given_by}
use Rattle.session_seats.specs.Reading.{ReadRound, ReadsLine, HasRead, held_with, nothing_read}
use Rattle.session_seats.specs.Rounds.{WritesRound}
use Rattle.session_seats.proofs.Lines as lines
use Rattle.session_seats.proofs.Readings.{held_so, ends_so}

-- So many lines of the script were given to rounds, those of the queue were read beside them, and `rest` is left. Some rounds
-- were served, and `begun` was given of the next one, whose first line has the number `start`. The counts of the hosts were
-- these first; the checker's was `checked` when that round began.
pub record IsServedSoFar (opening : Basis) (seats : ℕ) (before now : Option (List ℕ)) (was : List ℕ) (checker : ℕ) (finders : List ℕ) (script rest : List ℕ) (given : ℕ) (queue : List (List ℕ)) (round : ReadRound) (list : List Entry) : Type 0 where
  pub done : List (List ℕ)
  pub rounds : List (List (List ℕ))
  pub begun : List (List ℕ)
  pub written : List ℕ
  pub start : ℕ
  pub stops : ℕ
  pub checked : ℕ
  pub read : IsReadSoFar script rest (done ++ queue) (given + length queue)
  pub cut : Cut done rounds begun round.held (given + 1)
  pub served : Served (serving opening.suffixes seats) opening.state (counts_between was (checked ∷ finders)) rounds [] written [] (replay opening.state list) holds_nothing start
  pub lines : LinesRead start begun round.reads stops
  pub here : given + 1 ≡ start + length begun
  pub rises : RisesBy stops (record { before = checked; now = checker })
  pub later : checked ≤ checker
  pub fell : NoneFell was (checked ∷ finders)
  pub taken : Appends before now written

-- the same of a source that may not tell what it has
abbrev pub SoFar : Basis → ℕ → Option (List ℕ) → Option (List ℕ) → List ℕ → ℕ → List ℕ → Option (List ℕ) → Option (List ℕ) → ℕ → List (List ℕ) → ReadRound → List Entry → Type 0
SoFar opening seats before now was checker finders None rest given queue round list = Unit {0}
SoFar opening seats before now was checker finders (Some script) None given queue round list = ⊥
SoFar opening seats before now was checker finders (Some script) (Some rest) given queue round list = IsServedSoFar opening seats before now was checker finders script rest given queue round list

pub appends_append : (a b c : Option (List ℕ)) (xs ys : List ℕ) → Appends a b xs → Appends b c ys → Appends a c (xs ++ ys)
appends_append None b c xs ys p q = tt
appends_append (Some a) None c xs ys p q = absurd p
appends_append (Some a) (Some b) None xs ys p q = absurd q
appends_append (Some a) (Some b) (Some c) xs ys p q = q ∙ ap (λ l. l ++ ys) p ∙ append_assoc a xs ys

appends_nothing : (a : Option (List ℕ)) → Appends a a []
appends_nothing None = tt
appends_nothing (Some a) = sym (append-nil a)

-- ---- the beginning

pub start : (opening : Basis) (seats : ℕ) (before : Option (List ℕ)) (checker : ℕ) (finders : List ℕ) (known : Option (List ℕ)) → SoFar opening seats before before (checker ∷ finders) checker finders known (prepend_known [] known) 0 [] nothing_read []
start opening seats before checker finders None = tt
start opening seats before checker finders (Some script) = record {
  done = [];
  rounds = [];
  begun = [];
  written = [];
  start = 1;
  stops = 0;
  checked = checker;
  read = record { raws = []; first = refl; texts = refl; short = refl; counted = refl };
  cut = cut_first;
  served = served_first (serving opening.suffixes seats) opening.state (counts_between (checker ∷ finders) (checker ∷ finders)) (nothing_risen (checker ∷ finders) (checker ∷ finders) (none_fell_yet (checker ∷ finders)));
  lines = refl;
  here = refl;
  rises = omega arith;
  later = omega arith;
  fell = none_fell_yet (checker ∷ finders);
  taken = appends_nothing before;
}

pub started : (opening : Basis) (seats : ℕ) (before : Option (List ℕ)) (checker : ℕ) (finders : List ℕ) (known : Option (List ℕ)) (cutter : CutterSeen) (round : ReadRound) (list : List Entry)
    → cutter ≡ cuts_nothing → round ≡ nothing_read → list ≡ [] → SoFar opening seats before before (checker ∷ finders) checker finders known (ahead cutter.reading known) (given_by cutter) (bytes_of cutter.lines) round list
started opening seats before checker finders known cutter round list fresh empty none =
    subst (λ (r : ReadRound). SoFar opening seats before before (checker ∷ finders) checker finders known (ahead cutter.reading known) (given_by cutter) (bytes_of cutter.lines) r list) (sym empty)
    (subst (λ (l : List Entry). SoFar opening seats before before (checker ∷ finders) checker finders known (ahead cutter.reading known) (given_by cutter) (bytes_of cutter.lines) nothing_read l) (sym none)
    (subst (λ (c : CutterSeen). SoFar opening seats before before (checker ∷ finders) checker finders known (ahead c.reading known) (given_by c) (bytes_of c.lines) nothing_read []) (sym fresh) (start opening seats before checker finders known)))

-- ---- one line more

-- a line was read
gathered : (opening : Basis) (seats : ℕ) (before now : Option (List ℕ)) (was : List ℕ) (checker : ℕ) (finders : List ℕ) (script rest next : List ℕ) (given : ℕ) (queue : List (List ℕ)) (round : ReadRound) (list : List Entry) (line : List ℕ)
    → IsServedSoFar opening seats before now was checker finders script rest given queue round list → GivesLine (Some rest) (Some next) line
    → IsServedSoFar opening seats before now was checker finders script next given (queue ++ line ∷ []) round list
gathered opening seats before now was checker finders script rest next given queue round list line so_far gives =
    let more : given + length (queue ++ line ∷ []) ≡ (given + length queue) + 1 = omega (arith, length-append queue (line ∷ [])) in
    record {
      done = so_far.done;
      rounds = so_far.rounds;
      begun = so_far.begun;
      written = so_far.written;
      start = so_far.start;
      stops = so_far.stops;
      checked = so_far.checked;
      read = subst (λ (ls : List (List ℕ)). IsReadSoFar script next ls (given + length (queue ++ line ∷ []))) (append_assoc so_far.done queue (line ∷ []))
          (one_read (Some script) (Some rest) (Some next) (so_far.done ++ queue) (given + length queue) (given + length (queue ++ line ∷ [])) line so_far.read gives more);
      cut = so_far.cut;
      served = so_far.served;
      lines = so_far.lines;
      here = so_far.here;
      rises = so_far.rises;
      later = so_far.later;
      fell = so_far.fell;
      taken = so_far.taken;
    }

pub line_gathered : (opening : Basis) (seats : ℕ) (before now : Option (List ℕ)) (was : List ℕ) (checker : ℕ) (finders : List ℕ) (known rest next : Option (List ℕ)) (given : ℕ) (queue : List (List ℕ)) (round : ReadRound) (list : List Entry) (line : List ℕ)
    → SoFar opening seats before now was checker finders known rest given queue round list → GivesLine rest next line
    → SoFar opening seats before now was checker finders known next given (queue ++ line ∷ []) round list
line_gathered opening seats before now was checker finders None rest next given queue round list line so_far gives = tt
line_gathered opening seats before now was checker finders (Some script) None next given queue round list line so_far gives = absurd so_far
line_gathered opening seats before now was checker finders (Some script) (Some rest) None given queue round list line so_far gives = absurd gives.first
line_gathered opening seats before now was checker finders (Some script) (Some rest) (Some next) given queue round list line so_far gives =
    gathered opening seats before now was checker finders script rest next given queue round list line so_far gives

-- the lines that were read have ended, and so have more of them
pub ended_too : (opening : Basis) (seats : ℕ) (before now : Option (List ℕ)) (was : List ℕ) (checker : ℕ) (finders : List ℕ) (known rest next : Option (List ℕ)) (given : ℕ) (queue : List (List ℕ)) (round : ReadRound) (list : List Entry)
    → SoFar opening seats before now was checker finders known rest given queue round list → AreEnded known rest → AreEnded rest next → AreEnded known next
ended_too opening seats before now was checker finders None rest next given queue round list so_far ended later = tt
ended_too opening seats before now was checker finders (Some script) None next given queue round list so_far ended later = absurd so_far
ended_too opening seats before now was checker finders (Some script) (Some rest) next given queue round list so_far ended later =
    ended_on (Some script) (Some rest) next (so_far.done ++ queue) (given + length queue) so_far.read ended later

-- none was read
pub none_ended : (known : Option (List ℕ)) (cutter : CutterSeen) → cutter ≡ cuts_nothing → AreEnded known (ahead cutter.reading known)
none_ended None cutter fresh = tt
none_ended (Some script) cutter fresh = subst (λ (c : CutterSeen). AreEnded (Some script) (ahead c.reading (Some script))) (sym fresh) (λ none. rw none tt)

-- the first line of the queue was given to its round, which goes on with it, or ends
pub record LineTaken (script rest : List ℕ) (done : List (List ℕ)) (queue : List (List ℕ)) (begun : List (List ℕ)) (line : List ℕ) (start given stops checked is : ℕ) (reads : List ReadLine) : Type 0 where
  pub all : ℕ
  pub read : IsReadSoFar script rest ((done ++ line ∷ []) ++ queue) ((given + 1) + length queue)
  pub lines : LinesRead start (begun ++ line ∷ []) reads all
  pub here : (given + 1) + 1 ≡ start + length (begun ++ line ∷ [])
  pub rises : RisesBy all (record { before = checked; now = is })

pub line_taken : (opening : Basis) (seats : ℕ) (before now : Option (List ℕ)) (was : List ℕ) (checker is : ℕ) (finders : List ℕ) (script rest : List ℕ) (given : ℕ) (queue : List (List ℕ)) (round : ReadRound) (list : List Entry) (line : List ℕ) (reads : List ReadLine)
    → (so_far : IsServedSoFar opening seats before now was checker finders script rest given (line ∷ queue) round list)
    → ReadsLine (given + 1) line checker is round.reads reads → LineTaken script rest so_far.done queue so_far.begun line so_far.start given so_far.stops so_far.checked is reads
line_taken opening seats before now was checker is finders script rest given queue round list line reads so_far takes =
    let same : given + length (line ∷ queue) ≡ (given + 1) + length queue = omega arith in
    record {
      all = so_far.stops + takes.has.stops;
      read = subst (λ (n : ℕ). IsReadSoFar script rest ((so_far.done ++ line ∷ []) ++ queue) n) same
          (subst (λ (ls : List (List ℕ)). IsReadSoFar script rest ls (given + length (line ∷ queue))) (sym (append_assoc so_far.done (line ∷ []) queue)) so_far.read);
      lines = subst (λ (rs : List ReadLine). LinesRead so_far.start (so_far.begun ++ line ∷ []) rs (so_far.stops + takes.has.stops)) (sym takes.appended)
          (lines.one_read so_far.start (given + 1) so_far.begun round.reads so_far.stops line takes.read takes.has.stops so_far.here takes.has.numbered so_far.lines takes.has.reads);
      here = omega (arith, so_far.here, length-append so_far.begun (line ∷ []));
      rises = omega (arith, so_far.rises, takes.has.rises);
    }

-- the round goes on with the line
goes_on : (opening : Basis) (seats : ℕ) (before now : Option (List ℕ)) (was : List ℕ) (checker is : ℕ) (finders : List ℕ) (script rest : List ℕ) (given : ℕ) (queue : List (List ℕ)) (round left : ReadRound) (list : List Entry) (line : List ℕ)
    → ends_round round.held (given + 1) line ≡ false → checker ≤ is → left.held ≡ with_line round.held (given + 1) line
    → IsServedSoFar opening seats before now was checker finders script rest given (line ∷ queue) round list → ReadsLine (given + 1) line checker is round.reads left.reads
    → IsServedSoFar opening seats before now was is finders script rest (given + 1) queue left list
goes_on opening seats before now was checker is finders script rest given queue round left list line on rose holds so_far takes =
    let taken = line_taken opening seats before now was checker is finders script rest given queue round list line left.reads so_far takes in
    record {
      done = so_far.done ++ line ∷ [];
      rounds = so_far.rounds;
      begun = so_far.begun ++ line ∷ [];
      written = so_far.written;
      start = so_far.start;
      stops = taken.all;
      checked = so_far.checked;
      read = taken.read;
      cut = subst (λ (h : Held). Cut (so_far.done ++ line ∷ []) so_far.rounds (so_far.begun ++ line ∷ []) h ((given + 1) + 1)) (sym holds)
          (cut_on so_far.done so_far.rounds so_far.begun round.held (given + 1) line on so_far.cut);
      served = so_far.served;
      lines = taken.lines;
      here = taken.here;
      rises = taken.rises;
      later = omega (arith, so_far.later, rose);
      fell = so_far.fell;
      taken = so_far.taken;
    }

pub line_more : (opening : Basis) (seats : ℕ) (before now : Option (List ℕ)) (was : List ℕ) (checker is : ℕ) (finders : List ℕ) (known rest : Option (List ℕ)) (given : ℕ) (queue : List (List ℕ)) (round left : ReadRound) (list : List Entry) (line : List ℕ)
    → ends_round round.held (given + 1) line ≡ false → checker ≤ is → left.held ≡ with_line round.held (given + 1) line
    → SoFar opening seats before now was checker finders known rest given (line ∷ queue) round list → ReadsLine (given + 1) line checker is round.reads left.reads
    → SoFar opening seats before now was is finders known rest (given + 1) queue left list
line_more opening seats before now was checker is finders None rest given queue round left list line on rose holds so_far takes = tt
line_more opening seats before now was checker is finders (Some script) None given queue round left list line on rose holds so_far takes = absurd so_far
line_more opening seats before now was checker is finders (Some script) (Some rest) given queue round left list line on rose holds so_far takes =
    goes_on opening seats before now was checker is finders script rest given queue round left list line on rose holds so_far takes

-- ---- one round more

-- these rounds were served, with what was begun of the next one as one of them
pub served_on : (opening : Basis) (seats : ℕ) (was : List ℕ) (checked checker : ℕ) (finders now : List ℕ) (rounds : List (List (List ℕ))) (written : List ℕ) (list end : List Entry) (start stops : ℕ) (begun : List (List ℕ)) (reads : List ReadLine) (text : List ℕ)
    → opening.state.count ≡ 0 → NoneFell was (checked ∷ finders) → RisesBy stops (record { before = checked; now = checker })
    → Served (serving opening.suffixes seats) opening.state (counts_between was (checked ∷ finders)) rounds [] written [] (replay opening.state list) holds_nothing start
    → LinesRead start begun reads stops → RoundAnswered opening seats reads list end [] text finders now
    → Served (serving opening.suffixes seats) opening.state (counts_between was (checker ∷ now)) (rounds ++ begun ∷ []) [] (written ++ text) [] (replay opening.state end) holds_nothing (start + length begun)
served_on opening seats was checked checker finders now rounds written list end start stops begun reads text fresh fell rises served read answered =
    let round = round_served opening seats reads list end [] text finders now start begun stops fresh answered read in
    let rose : RiseBy (times_of round.said) (checked ∷ finders) (checker ∷ now) =
    (subst (λ (n : ℕ). RisesBy n (record { before = checked; now = checker })) (sym round.stopped) rises, round.rises) in
    served_whole (serving opening.suffixes seats) opening.state (counts_between was (checked ∷ finders)) (counts_between was (checker ∷ now)) rounds written (replay opening.state list) start
    begun round.said text (replay opening.state end) served round.says round.text round.order
    (λ seat times risen. place_rises was (checked ∷ finders) (checker ∷ now) (times_of round.said) (as_long was (checked ∷ finders) fell) rose (suc seat) times risen)
    (λ times risen. place_rises was (checked ∷ finders) (checker ∷ now) (times_of round.said) (as_long was (checked ∷ finders) fell) rose zero times risen)

-- the round ends with the line, was answered and written
round_more : (opening : Basis) (seats : ℕ) (before middle now : Option (List ℕ)) (was : List ℕ) (checker is : ℕ) (finders others : List ℕ) (script rest : List ℕ) (given : ℕ) (queue : List (List ℕ)) (round whole left : ReadRound) (list end : List Entry) (line : List ℕ)
    → opening.state.count ≡ 0 → ends_round round.held (given + 1) line ≡ true → checker ≤ is → NoneFell finders others → left ≡ nothing_read
    → IsServedSoFar opening seats before middle was checker finders script rest given (line ∷ queue) round list → ReadsLine (given + 1) line checker is round.reads whole.reads
    → WritesRound opening seats whole.reads list end middle now finders others
    → IsServedSoFar opening seats before now was is others script rest (given + 1) queue left end
round_more opening seats before middle now was checker is finders others script rest given queue round whole left list end line fresh ends rose fell empty so_far takes writes =
    let taken = line_taken opening seats before middle was checker is finders script rest given queue round list line whole.reads so_far takes in
    let served = served_on opening seats was so_far.checked is finders others so_far.rounds so_far.written list end so_far.start taken.all (so_far.begun ++ line ∷ []) whole.reads writes.text
    fresh so_far.fell taken.rises so_far.served taken.lines writes.answered in
    subst (λ (r : ReadRound). IsServedSoFar opening seats before now was is others script rest (given + 1) queue r end) (sym empty) (record {
      done = so_far.done ++ line ∷ [];
      rounds = so_far.rounds ++ (so_far.begun ++ line ∷ []) ∷ [];
      begun = [];
      written = so_far.written ++ writes.text;
      start = (given + 1) + 1;
      stops = 0;
      checked = is;
      read = taken.read;
      cut = cut_end so_far.done so_far.rounds so_far.begun round.held (given + 1) line ends so_far.cut;
      served = subst (λ (n : ℕ). Served (serving opening.suffixes seats) opening.state (counts_between was (is ∷ others)) (so_far.rounds ++ (so_far.begun ++ line ∷ []) ∷ []) [] (so_far.written ++ writes.text) [] (replay opening.state end) holds_nothing n)
          (sym taken.here) served;
      lines = refl;
      here = omega arith;
      rises = omega arith;
      later = omega arith;
      fell = none_fell_on was (so_far.checked ∷ finders) (is ∷ others) so_far.fell (omega (arith, so_far.later, rose), fell);
      taken = appends_append before middle now so_far.written writes.text so_far.taken writes.written;
    })

pub whole_round_more : (opening : Basis) (seats : ℕ) (before middle now : Option (List ℕ)) (was : List ℕ) (checker is : ℕ) (finders others : List ℕ) (known rest : Option (List ℕ)) (given : ℕ) (queue : List (List ℕ)) (round whole left : ReadRound) (list end : List Entry) (line : List ℕ)
    → opening.state.count ≡ 0 → ends_round round.held (given + 1) line ≡ true → checker ≤ is → NoneFell finders others → left ≡ nothing_read
    → SoFar opening seats before middle was checker finders known rest given (line ∷ queue) round list → ReadsLine (given + 1) line checker is round.reads whole.reads
    → WritesRound opening seats whole.reads list end middle now finders others
    → SoFar opening seats before now was is others known rest (given + 1) queue left end
whole_round_more opening seats before middle now was checker is finders others None rest given queue round whole left list end line fresh ends rose fell empty so_far takes writes = tt
whole_round_more opening seats before middle now was checker is finders others (Some script) None given queue round whole left list end line fresh ends rose fell empty so_far takes writes = absurd so_far
whole_round_more opening seats before middle now was checker is finders others (Some script) (Some rest) given queue round whole left list end line fresh ends rose fell empty so_far takes writes =
    round_more opening seats before middle now was checker is finders others script rest given queue round whole left list end line fresh ends rose fell empty so_far takes writes

-- ---- how it is said of the code

-- a line that was read is taken into its round
pub ends_as_taken : {E : Type 0} (result : Result Bool E) (held : Held) (number : ℕ) (line : List ℕ) (bytes was is : ℕ) (read : ReadLine) → bytes ≡ length line → HasRead number line was is read
    → IfOk result (λ ends. ends ≡ (is_sync (read_seen read.read) || is_full (held_with held bytes read))) → IfOk result (λ ends. ends_round held number line ≡ ends)
ends_as_taken (Err e) held number line bytes was is read long has same = tt
ends_as_taken (Ok ends) held number line bytes was is read long has same =
    ends_so held number line was is read ends has (subst (λ (n : ℕ). ends ≡ (is_sync (read_seen read.read) || is_full (held_with held n read))) long same)

pub held_as_taken : {T E : Type 0} (result : Result T E) (held now : Held) (number : ℕ) (line : List ℕ) (bytes was is : ℕ) (read : ReadLine) → bytes ≡ length line → HasRead number line was is read
    → OnOk result (now ≡ held_with held bytes read) → OnOk result (now ≡ with_line held number line)
held_as_taken (Err e) held now number line bytes was is read long has same = tt
held_as_taken (Ok x) held now number line bytes was is read long has same = same ∙ ap (λ (n : ℕ). held_with held n read) long ∙ held_so held number line was is read has

pub reads_as_taken : {T E : Type 0} (result : Result T E) (number : ℕ) (line : List ℕ) (was is : ℕ) (read : ReadLine) (before now : List ReadLine) → HasRead number line was is read
    → OnOk result (now ≡ before ++ read ∷ []) → OnOk result (ReadsLine number line was is before now)
reads_as_taken (Err e) number line was is read before now has appended = tt
reads_as_taken (Ok x) number line was is read before now has appended = record { read = read; has = has; appended = appended }

-- a round that does not end with a line has room for one more
pub room_left : (held now : Held) (number : ℕ) (line : List ℕ) → ends_round held number line ≡ false → now ≡ with_line held number line → is_full now ≡ false
room_left held now number line on same = subst (λ (h : Held). is_full h ≡ false) (sym same) (or_parts (is_sync (command_of number line)) (is_full (with_line held number line)) on).1
