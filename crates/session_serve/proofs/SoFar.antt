-- A script that is served up to some line.
use Rattle.std.proofs.Common.{◌≡◌, ◌⊎◌, ℕ, zero, suc, ◌+◌, ◌%◌, ◌≤◌, List, [], ◌∷◌, ◌++◌, take, length, Bool, true, false, Option, Some, None, Result, Ok, Err, refl, sym, ap, ◌∙◌, inl, inr, subst, arith, append_assoc, append-nil}
use Rattle.std.proofs.Math.Seq.{take-append_seam}
use Rattle.std.specs.Prelude.{IfSome, IsErrAnd}
use Rattle.std.specs.Io.KnownBytes.{Appends, IsAtEnd, prepend_known}
use Rattle.dnr_base.specs.Faults.{Count}
use Rattle.dnr_io.specs.Lines.{Reading, ahead, AreEnded, GivesLine, IsBeyond, StopsIn, StopsWithin}
use Rattle.dnr_io.specs.Sink.{AppendsPart}
use Rattle.dnr_io.specs.declared.line_refusal.LineRefusal.{LineRefusal}
use Rattle.dnr_io.specs.declared.line_refusal.LineRefusal.TheVariants as refusal
use Rattle.dnr_io.proofs.ReadSoFar.{IsReadSoFar, ReadSoFar, one_read, all_read, all_within, is_beyond}
use Rattle.dnr_spec.specs.Lines.{lines_of, is_within_limits, max_lines}
use Rattle.rule_spec.specs.State.{State}
use Rattle.session_spec.specs.Answers.{Setting, Serves}
use Rattle.session_spec.specs.Rounds.{Held, holds_nothing, with_line, ends_round, rounds_of, whole_rounds_of, short_lines, ended_lines}
use Rattle.session_laws.specs.Turns.{LineTold, FaultsRise, NoneFell, counts_between}
use Rattle.session_laws.proofs.Cut.{Cut, cut_first, cut_on, cut_end, held_whole, held_open, alone_open}
use Rattle.session_laws.proofs.Rises.{rises_with, nothing_risen, none_fell_yet, as_long, later_rises}
use Rattle.session_laws.proofs.Served.{Served, served_first, served_more, served_round, serves_rounds, serves_all}
use Rattle.session_serve.specs.Position.{Position}
use Rattle.session_serve.specs.Round.{setting_with, Kept, nothing_kept, Closes, LineServed, RoundCut, StopsAtLine}
use Rattle.session_serve.specs.Serving.{stop_of, WritesRounds, WritesPart, WritesGiven, some_rounds, EndsServing}
use Rattle.session_serve.specs.declared.stop.ServeStop.{ServeStop}
use Rattle.session_serve.specs.declared.stop.ServeStop.TheVariants as stop
use Rattle.session_serve.proofs.Short.{first_short, all_short, GaveLines, gave_lines, ended_on}

-- So many lines of the script were served, and `rest` is left; the counts of the hosts were these first, and are those.
pub record IsServedSoFar (setting : Setting) (first : State) (before now : Option (List ℕ)) (was is : List ℕ) (script rest : List ℕ) (count : ℕ) (kept : Kept) (state : State) : Type 0 where
  pub done : List (List ℕ)
  pub rounds : List (List (List ℕ))
  pub begun : List (List ℕ)
  pub written : List ℕ
  pub read : IsReadSoFar script rest done count
  pub cut : Cut done rounds begun kept.held (count + 1)
  pub served : Served setting first (counts_between was is) rounds begun written kept.text state kept.held (count + 1)
  pub taken : Appends before now written

-- the same of a source that may not tell what it has
abbrev pub SoFar : Setting → State → Option (List ℕ) → Option (List ℕ) → List ℕ → List ℕ → Option (List ℕ) → Option (List ℕ) → ℕ → Kept → State → Type 0
SoFar setting first before now was is None rest count kept state = Unit {0}
SoFar setting first before now was is (Some script) None count kept state = ⊥
SoFar setting first before now was is (Some script) (Some rest) count kept state = IsServedSoFar setting first before now was is script rest count kept state

appends_append : (a b c : Option (List ℕ)) (xs ys : List ℕ) → Appends a b xs → Appends b c ys → Appends a c (xs ++ ys)
appends_append None b c xs ys p q = tt
appends_append (Some a) None c xs ys p q = absurd p
appends_append (Some a) (Some b) None xs ys p q = absurd q
appends_append (Some a) (Some b) (Some c) xs ys p q = q ∙ ap (λ l. l ++ ys) p ∙ append_assoc a xs ys

appends_nothing : (a : Option (List ℕ)) → Appends a a []
appends_nothing None = tt
appends_nothing (Some a) = sym (append-nil a)

-- ---- the beginning

start : (setting : Setting) (first : State) (before : Option (List ℕ)) (was : List ℕ) (known : Option (List ℕ)) → SoFar setting first before before was was known (prepend_known [] known) 0 nothing_kept first
start setting first before was None = tt
start setting first before was (Some script) = record {
  done = [];
  rounds = [];
  begun = [];
  written = [];
  read = record { raws = []; first = refl; texts = refl; short = refl; counted = refl };
  cut = cut_first;
  served = served_first setting first (counts_between was was) (nothing_risen was was (none_fell_yet was));
  taken = appends_nothing before;
}

pub started : (setting : Setting) (first : State) (before : Option (List ℕ)) (was : List ℕ) (known : Option (List ℕ)) (lines : Reading) (kept : Kept)
    → lines ≡ record { pending = []; count = 0; live = true } → kept ≡ nothing_kept → SoFar setting first before before was was known (ahead lines known) lines.count kept first
started setting first before was known lines kept fresh empty =
    subst (λ (k : Kept). SoFar setting first before before was was known (ahead lines known) lines.count k first) (sym empty)
    (subst (λ (l : Reading). SoFar setting first before before was was known (ahead l known) l.count nothing_kept first) (sym fresh) (start setting first before was known))

-- ---- one line more

-- the line was read
line_read : (script rest next : List ℕ) (done : List (List ℕ)) (count later : ℕ) (line : List ℕ) → IsReadSoFar script rest done count → GivesLine (Some rest) (Some next) line → later ≡ count + 1
    → IsReadSoFar script next (done ++ line ∷ []) later
line_read script rest next done count later line read gives up = one_read (Some script) (Some rest) (Some next) done count later line read gives up

-- the line ended its round
pub record RoundEnded (setting : Setting) (first : State) (hosts : List Count) (done : List (List ℕ)) (rounds : List (List (List ℕ))) (written : List ℕ) (after : State) (number : ℕ) : Type 0 where
  pub cut : Cut done rounds [] holds_nothing number
  pub served : Served setting first hosts rounds [] written [] after holds_nothing number

round_ended : (setting : Setting) (first : State) (before middle : Option (List ℕ)) (was at is : List ℕ) (script rest : List ℕ) (count later number : ℕ) (kept : Kept) (line : List ℕ) (state after : State) (grown : List ℕ)
    → ends_round kept.held number line ≡ true → length was ≡ length at → number ≡ count + 1 → later ≡ count + 1
    → (so_far : IsServedSoFar setting first before middle was at script rest count kept state)
    → LineTold setting state number (kept.held.asked % setting.workers) line kept.text grown after (FaultsRise at is)
    → RoundEnded setting first (counts_between was is) (so_far.done ++ line ∷ []) (so_far.rounds ++ (so_far.begun ++ line ∷ []) ∷ []) (so_far.written ++ grown) after (later + 1)
round_ended setting first before middle was at is script rest count later number kept line state after grown ends same place up so_far told =
    let cut = cut_end so_far.done so_far.rounds so_far.begun kept.held number line ends (subst (λ (n : ℕ). Cut so_far.done so_far.rounds so_far.begun kept.held n) (sym place) so_far.cut) in
    let served = subst (λ (n : ℕ). Served setting first (counts_between was at) so_far.rounds so_far.begun so_far.written kept.text state kept.held n) (sym place) so_far.served in
    let more = served_more setting first (counts_between was at) (counts_between was is) so_far.rounds so_far.begun so_far.written kept.text state kept.held number line grown after served
    (record { told = told.told; says = told.says; appended = told.appended; rises = rises_with was at is told.told same told.rises }) in
    let whole = served_round setting first (counts_between was is) so_far.rounds (so_far.begun ++ line ∷ []) so_far.written grown after (with_line kept.held number line) (number + 1) more in
    let here : number + 1 ≡ later + 1 = omega (arith, place, up) in
    record {
      cut = subst (λ (n : ℕ). Cut (so_far.done ++ line ∷ []) (so_far.rounds ++ (so_far.begun ++ line ∷ []) ∷ []) [] holds_nothing n) here cut;
      served = subst (λ (n : ℕ). Served setting first (counts_between was is) (so_far.rounds ++ (so_far.begun ++ line ∷ []) ∷ []) [] (so_far.written ++ grown) [] after holds_nothing n) here whole;
    }

closed : (setting : Setting) (first : State) (before middle now : Option (List ℕ)) (was at is : List ℕ) (script rest next : List ℕ) (count later number : ℕ) (kept left : Kept) (line : List ℕ) (state after : State)
    (grown : List ℕ) (ends : Bool) → ends_round kept.held number line ≡ ends → length was ≡ length at → number ≡ count + 1 → later ≡ count + 1
    → (so_far : IsServedSoFar setting first before middle was at script rest count kept state) → IsReadSoFar script next (so_far.done ++ line ∷ []) later
    → LineTold setting state number (kept.held.asked % setting.workers) line kept.text grown after (FaultsRise at is)
    → Closes ends middle now grown (with_line kept.held number line) left → IsServedSoFar setting first before now was is script next later left after
closed setting first before middle now was at is script rest next count later number kept left line state after grown false ends same place up so_far read told closes =
    let cut = cut_on so_far.done so_far.rounds so_far.begun kept.held number line ends (subst (λ (n : ℕ). Cut so_far.done so_far.rounds so_far.begun kept.held n) (sym place) so_far.cut) in
    let served = subst (λ (n : ℕ). Served setting first (counts_between was at) so_far.rounds so_far.begun so_far.written kept.text state kept.held n) (sym place) so_far.served in
    let more = served_more setting first (counts_between was at) (counts_between was is) so_far.rounds so_far.begun so_far.written kept.text state kept.held number line grown after served
    (record { told = told.told; says = told.says; appended = told.appended; rises = rises_with was at is told.told same told.rises }) in
    let here : number + 1 ≡ later + 1 = omega (arith, place, up) in
    subst (λ (k : Kept). IsServedSoFar setting first before now was is script next later k after) (sym closes.1) (record {
      done = so_far.done ++ line ∷ [];
      rounds = so_far.rounds;
      begun = so_far.begun ++ line ∷ [];
      written = so_far.written;
      read = read;
      cut = subst (λ (n : ℕ). Cut (so_far.done ++ line ∷ []) so_far.rounds (so_far.begun ++ line ∷ []) (with_line kept.held number line) n) here cut;
      served = subst (λ (n : ℕ). Served setting first (counts_between was is) so_far.rounds (so_far.begun ++ line ∷ []) so_far.written grown after (with_line kept.held number line) n) here more;
      taken = subst (λ (t : Option (List ℕ)). Appends before t so_far.written) (sym closes.0) so_far.taken;
    })
closed setting first before middle now was at is script rest next count later number kept left line state after grown true ends same place up so_far read told closes =
    let whole = round_ended setting first before middle was at is script rest count later number kept line state after grown ends same place up so_far told in
    subst (λ (k : Kept). IsServedSoFar setting first before now was is script next later k after) (sym closes.1) (record {
      done = so_far.done ++ line ∷ [];
      rounds = so_far.rounds ++ (so_far.begun ++ line ∷ []) ∷ [];
      begun = [];
      written = so_far.written ++ grown;
      read = read;
      cut = whole.cut;
      served = whole.served;
      taken = appends_append before middle now so_far.written grown so_far.taken closes.0;
    })

pub one_line_more : (setting : Setting) (first : State) (before middle now : Option (List ℕ)) (was at is : List ℕ) (known rest next : Option (List ℕ)) (count later number : ℕ) (kept left : Kept) (line : List ℕ) (state after : State)
    → NoneFell was at → number ≡ count + 1 → later ≡ count + 1 → SoFar setting first before middle was at known rest count kept state → GivesLine rest next line
    → LineServed setting state after at is number line middle now kept left → SoFar setting first before now was is known next later left after
one_line_more setting first before middle now was at is None rest next count later number kept left line state after fell place up so_far gives served = tt
one_line_more setting first before middle now was at is (Some script) None next count later number kept left line state after fell place up so_far gives served = absurd so_far
one_line_more setting first before middle now was at is (Some script) (Some rest) None count later number kept left line state after fell place up so_far gives served = absurd gives.first
one_line_more setting first before middle now was at is (Some script) (Some rest) (Some next) count later number kept left line state after fell place up so_far gives served =
    closed setting first before middle now was at is script rest next count later number kept left line state after served.grown (ends_round kept.held number line) refl (as_long was at fell) place up so_far
    (line_read script rest next so_far.done count later line so_far.read gives up) served.answer served.closes

-- the lines that were read have ended, and one more
pub ended_too : (setting : Setting) (first : State) (before now : Option (List ℕ)) (was is : List ℕ) (known rest next : Option (List ℕ)) (count : ℕ) (kept : Kept) (state : State)
    → SoFar setting first before now was is known rest count kept state → AreEnded known rest → AreEnded rest next → AreEnded known next
ended_too setting first before now was is None rest next count kept state so_far ended later = tt
ended_too setting first before now was is (Some script) None next count kept state so_far ended later = absurd so_far
ended_too setting first before now was is (Some script) (Some rest) next count kept state so_far ended later =
    ended_on (Some script) (Some rest) next so_far.done count so_far.read ended later

-- none was read
pub none_ended : (known : Option (List ℕ)) (lines : Reading) → lines ≡ record { pending = []; count = 0; live = true } → AreEnded known (ahead lines known)
none_ended None lines fresh = tt
none_ended (Some script) lines fresh = subst (λ (l : Reading). AreEnded (Some script) (ahead l (Some script))) (sym fresh) (λ none. rw none tt)

-- ---- how it ends

-- what was allowed is allowed after further faults
serves_later : (was at is : List ℕ) (setting : Setting) (first : State) (rounds : List (List (List ℕ))) (written : List ℕ) → NoneFell was at → NoneFell at is
    → Serves (counts_between was at) setting first rounds written → Serves (counts_between was is) setting first rounds written
serves_later was at is setting first rounds written fell later serves = record {
  said = serves.said;
  last = serves.last;
  says = serves.says;
  order = serves.order;
  text = serves.text;
  finders = λ seat. later_rises was at is later (as_long was at fell) (suc seat) _ (serves.finders seat);
  checker = later_rises was at is later (as_long was at fell) zero _ serves.checker;
}

-- the rounds so far are the first of those that are whole
rounds_first : (script rest : List ℕ) (done : List (List ℕ)) (rounds : List (List (List ℕ))) (begun : List (List ℕ)) (held : Held) (count number : ℕ) → count ≤ max_lines
    → IsReadSoFar script rest done count → Cut done rounds begun held number → some_rounds (length rounds) script ≡ rounds
rounds_first script rest done rounds begun held count number few read cut =
    let short = first_short script rest done count read few in
    ap (λ ls. take (length rounds) (whole_rounds_of ls)) short.same ∙ ap (take (length rounds)) (cut.whole short.later) ∙ take-append_seam rounds _

some_written : (setting : Setting) (first : State) (before middle now : Option (List ℕ)) (was at is : List ℕ) (script rest : List ℕ) (count : ℕ) (kept : Kept) (state : State)
    → NoneFell was at → NoneFell at is → count ≤ max_lines → now ≡ middle → IsServedSoFar setting first before middle was at script rest count kept state
    → (some : ℕ) × WritesRounds before now (counts_between was is) setting first (some_rounds some script)
some_written setting first before middle now was at is script rest count kept state fell later few same so_far = (
  length so_far.rounds,
  record {
    written = so_far.written;
    taken = subst (λ (t : Option (List ℕ)). Appends before t so_far.written) (sym same) so_far.taken;
    serves = serves_later was at is setting first _ so_far.written fell later
        (subst (λ rs. Serves (counts_between was at) setting first rs so_far.written) (sym (rounds_first script rest so_far.done so_far.rounds so_far.begun kept.held count (count + 1) few so_far.read so_far.cut))
        (serves_rounds setting first (counts_between was at) so_far.rounds so_far.begun so_far.written kept.text state kept.held (count + 1) so_far.served));
  },
)

-- memory ran out
pub without_memory : (setting : Setting) (first : State) (before middle now : Option (List ℕ)) (was at is : List ℕ) (known rest left : Option (List ℕ)) (count : ℕ) (kept : Kept) (state : State)
    → NoneFell was at → NoneFell at is → count ≤ max_lines → now ≡ middle → SoFar setting first before middle was at known rest count kept state
    → IfSome known (λ script. EndsServing before now (counts_between was is) setting first script left (Err stop.NoMemory))
without_memory setting first before middle now was at is None rest left count kept state fell later few same so_far = tt
without_memory setting first before middle now was at is (Some script) None left count kept state fell later few same so_far = absurd so_far
without_memory setting first before middle now was at is (Some script) (Some rest) left count kept state fell later few same so_far =
    some_written setting first before middle now was at is script rest count kept state fell later few same so_far

long_written : (setting : Setting) (first : State) (before now : Option (List ℕ)) (was is : List ℕ) (script rest : List ℕ) (left : Option (List ℕ)) (count : ℕ) (kept : Kept) (state : State)
    → count ≤ max_lines → IsBeyond count rest → IsServedSoFar setting first before now was is script rest count kept state
    → EndsServing before now (counts_between was is) setting first script left (Err stop.TooLong)
long_written setting first before now was is script rest left count kept state few beyond so_far =
    let short = all_short script rest so_far.done count so_far.read few beyond in
    let rounds : whole_rounds_of (short_lines script) ≡ so_far.rounds = ap whole_rounds_of (short ∙ sym (append-nil so_far.done)) ∙ so_far.cut.whole [] ∙ append-nil so_far.rounds in (
      is_beyond (Some script) (Some rest) so_far.done count so_far.read beyond,
      record {
        written = so_far.written;
        taken = so_far.taken;
        serves = subst (λ rs. Serves (counts_between was is) setting first rs so_far.written) (sym rounds)
            (serves_rounds setting first (counts_between was is) so_far.rounds so_far.begun so_far.written kept.text state kept.held (count + 1) so_far.served);
      },
    )

whole_so_far : (done : List (List ℕ)) (rounds : List (List (List ℕ))) (begun : List (List ℕ)) (held : Held) (number : ℕ) (lines : List (List ℕ)) → Cut done rounds begun held number → lines ≡ done → whole_rounds_of lines ≡ rounds
whole_so_far done rounds begun held number lines cut same = ap whole_rounds_of (same ∙ sym (append-nil done)) ∙ cut.whole [] ∙ append-nil rounds

-- these lines are those that were served
whole_written : (setting : Setting) (first : State) (before now : Option (List ℕ)) (was is : List ℕ) (script rest : List ℕ) (count : ℕ) (kept : Kept) (state : State)
    (so_far : IsServedSoFar setting first before now was is script rest count kept state) (lines : List (List ℕ)) → lines ≡ so_far.done
    → WritesRounds before now (counts_between was is) setting first (whole_rounds_of lines)
whole_written setting first before now was is script rest count kept state so_far lines same = record {
  written = so_far.written;
  taken = so_far.taken;
  serves = subst (λ rs. Serves (counts_between was is) setting first rs so_far.written) (sym (whole_so_far so_far.done so_far.rounds so_far.begun kept.held (count + 1) lines so_far.cut same))
      (serves_rounds setting first (counts_between was is) so_far.rounds so_far.begun so_far.written kept.text state kept.held (count + 1) so_far.served);
}

fault_written : (setting : Setting) (first : State) (before now : Option (List ℕ)) (was is : List ℕ) (script rest left : List ℕ) (count : ℕ) (kept : Kept) (state : State)
    (so_far : IsServedSoFar setting first before now was is script rest count kept state) → GaveLines script left so_far.done
    → WritesGiven before now (counts_between was is) setting first script left
fault_written setting first before now was is script rest left count kept state so_far gave =
    record { given = gave.given; split = gave.split; writes = whole_written setting first before now was is script rest count kept state so_far (ended_lines gave.given) gave.same }

-- what the source says of a refusal
abbrev pub Refuses : LineRefusal → List ℕ → Option (List ℕ) → ℕ → Type 0
Refuses refusal.ReadFault rest left count = IfSome left (StopsWithin rest)
Refuses refusal.LineTooLong rest left count = IsBeyond count rest
Refuses refusal.NoMemory rest left count = Unit {0}

if_left : (setting : Setting) (first : State) (before now : Option (List ℕ)) (was is : List ℕ) (script rest : List ℕ) (left : Option (List ℕ)) (count : ℕ) (kept : Kept) (state : State)
    → count ≤ max_lines → AreEnded (Some script) (Some rest) → IfSome left (StopsWithin rest) → IsServedSoFar setting first before now was is script rest count kept state
    → IfSome left (λ l. WritesGiven before now (counts_between was is) setting first script l)
if_left setting first before now was is script rest None count kept state few ended stops so_far = tt
if_left setting first before now was is script rest (Some left) count kept state few ended stops so_far =
    fault_written setting first before now was is script rest left count kept state so_far (gave_lines script rest left so_far.done count so_far.read few ended stops)

not_read : (setting : Setting) (first : State) (before now : Option (List ℕ)) (was is : List ℕ) (script rest : List ℕ) (left : Option (List ℕ)) (count : ℕ) (kept : Kept) (state : State) (why : LineRefusal)
    → NoneFell was is → count ≤ max_lines → (why ≡ refusal.ReadFault → AreEnded (Some script) (Some rest)) → Refuses why rest left count → IsServedSoFar setting first before now was is script rest count kept state
    → EndsServing before now (counts_between was is) setting first script left (Err (stop_of why))
not_read setting first before now was is script rest left count kept state refusal.ReadFault fell few ended why so_far = if_left setting first before now was is script rest left count kept state few (ended refl) why so_far
not_read setting first before now was is script rest left count kept state refusal.LineTooLong fell few ended why so_far = long_written setting first before now was is script rest left count kept state few why so_far
not_read setting first before now was is script rest left count kept state refusal.NoMemory fell few ended why so_far =
    some_written setting first before now now was is is script rest count kept state fell (none_fell_yet is) few refl so_far

fault_known : (rest : List ℕ) (left : Option (List ℕ)) → StopsIn (Some rest) left → IfSome left (StopsWithin rest)
fault_known rest None stops = tt
fault_known rest (Some left) stops = stops

refuses_so : (rest : List ℕ) (left : Option (List ℕ)) (count : ℕ) (why : LineRefusal) → (why ≡ refusal.LineTooLong → IsBeyond count rest) → (why ≡ refusal.ReadFault → StopsIn (Some rest) left) → Refuses why rest left count
refuses_so rest left count refusal.ReadFault beyond stops = fault_known rest left (stops refl)
refuses_so rest left count refusal.LineTooLong beyond stops = beyond refl
refuses_so rest left count refusal.NoMemory beyond stops = tt

-- the next line can't be read
pub stops_reading : (setting : Setting) (first : State) (before now : Option (List ℕ)) (was is : List ℕ) (known rest left : Option (List ℕ)) (count : ℕ) (kept : Kept) (state : State) (why : LineRefusal) (e : ServeStop)
    → e ≡ stop_of why → NoneFell was is → count ≤ max_lines → (why ≡ refusal.LineTooLong → IfSome rest (IsBeyond count)) → (why ≡ refusal.ReadFault → StopsIn rest left) → (why ≡ refusal.ReadFault → AreEnded known rest)
    → SoFar setting first before now was is known rest count kept state
    → IfSome known (λ script. EndsServing before now (counts_between was is) setting first script left (Err e))
stops_reading setting first before now was is None rest left count kept state why e same fell few beyond stops ended so_far = tt
stops_reading setting first before now was is (Some script) None left count kept state why e same fell few beyond stops ended so_far = absurd so_far
stops_reading setting first before now was is (Some script) (Some rest) left count kept state why e same fell few beyond stops ended so_far =
    subst (λ (s : ServeStop). EndsServing before now (counts_between was is) setting first script left (Err s)) (sym same)
    (not_read setting first before now was is script rest left count kept state why fell few ended (refuses_so rest left count why beyond stops) so_far)

-- ---- a line that is not served

round_cut : (setting : Setting) (first : State) (before middle now : Option (List ℕ)) (was at is : List ℕ) (script rest next : List ℕ) (count later number : ℕ) (kept : Kept) (line : List ℕ) (state : State)
    → NoneFell was at → number ≡ count + 1 → later ≡ count + 1 → later ≤ max_lines → IsServedSoFar setting first before middle was at script rest count kept state → GivesLine (Some rest) (Some next) line
    → RoundCut setting state at is number line middle now kept → (some : ℕ) × WritesPart before now (counts_between was is) setting first (some_rounds some script)
round_cut setting first before middle now was at is script rest next count later number kept line state fell place up few so_far gives cut =
    let whole = round_ended setting first before middle was at is script rest count later number kept line state cut.next cut.grown cut.ends (as_long was at fell) place up so_far cut.answer in
    let read = line_read script rest next so_far.done count later line so_far.read gives up in
    let all : so_far.written ++ cut.grown ≡ (so_far.written ++ cut.part.sent) ++ cut.part.rest = ap (λ t. so_far.written ++ t) cut.part.split ∙ sym (append_assoc so_far.written cut.part.sent cut.part.rest) in (
      length (so_far.rounds ++ (so_far.begun ++ line ∷ []) ∷ []),
      record {
        sent = so_far.written ++ cut.part.sent;
        rest = cut.part.rest;
        taken = appends_append before middle now so_far.written cut.part.sent so_far.taken cut.part.taken;
        serves = subst (λ (t : List ℕ). Serves (counts_between was is) setting first (some_rounds (length (so_far.rounds ++ (so_far.begun ++ line ∷ []) ∷ [])) script) t) all
            (subst (λ rs. Serves (counts_between was is) setting first rs (so_far.written ++ cut.grown))
            (sym (rounds_first script next (so_far.done ++ line ∷ []) (so_far.rounds ++ (so_far.begun ++ line ∷ []) ∷ []) [] holds_nothing later (later + 1) few read whole.cut))
            (serves_rounds setting first (counts_between was is) (so_far.rounds ++ (so_far.begun ++ line ∷ []) ∷ []) [] (so_far.written ++ cut.grown) [] cut.next holds_nothing (later + 1) whole.served));
      },
    )

not_served : (setting : Setting) (first : State) (before middle now : Option (List ℕ)) (was at is : List ℕ) (script rest next : List ℕ) (left : Option (List ℕ)) (count later number : ℕ) (kept : Kept) (line : List ℕ) (state : State) (why : ServeStop)
    → NoneFell was at → NoneFell at is → number ≡ count + 1 → later ≡ count + 1 → later ≤ max_lines → IsServedSoFar setting first before middle was at script rest count kept state → GivesLine (Some rest) (Some next) line
    → StopsAtLine setting state at is number line middle now kept why → EndsServing before now (counts_between was is) setting first script left (Err why)
not_served setting first before middle now was at is script rest next left count later number kept line state stop.ReadFault fell on place up few so_far gives stops = absurd stops
not_served setting first before middle now was at is script rest next left count later number kept line state stop.WriteFault fell on place up few so_far gives stops =
    inl (round_cut setting first before middle now was at is script rest next count later number kept line state fell place up few so_far gives stops)
not_served setting first before middle now was at is script rest next left count later number kept line state stop.TooLong fell on place up few so_far gives stops = absurd stops
not_served setting first before middle now was at is script rest next left count later number kept line state stop.NoMemory fell on place up few so_far gives stops =
    some_written setting first before middle now was at is script rest count kept state fell on (omega (arith, few, up)) stops so_far

-- a line is not served, or its round not written
pub stops_serving : (setting : Setting) (first : State) (before middle now : Option (List ℕ)) (was at is : List ℕ) (known rest next left : Option (List ℕ)) (count later number : ℕ) (kept : Kept) (line : List ℕ) (state : State) (why : ServeStop)
    → NoneFell was at → NoneFell at is → number ≡ count + 1 → later ≡ count + 1 → later ≤ max_lines → SoFar setting first before middle was at known rest count kept state → GivesLine rest next line
    → StopsAtLine setting state at is number line middle now kept why → IfSome known (λ script. EndsServing before now (counts_between was is) setting first script left (Err why))
stops_serving setting first before middle now was at is None rest next left count later number kept line state why fell on place up few so_far gives stops = tt
stops_serving setting first before middle now was at is (Some script) None next left count later number kept line state why fell on place up few so_far gives stops = absurd so_far
stops_serving setting first before middle now was at is (Some script) (Some rest) None left count later number kept line state why fell on place up few so_far gives stops = absurd gives.first
stops_serving setting first before middle now was at is (Some script) (Some rest) (Some next) left count later number kept line state why fell on place up few so_far gives stops =
    not_served setting first before middle now was at is script rest next left count later number kept line state why fell on place up few so_far gives stops

-- ---- the end of the script

all_rounds : (done : List (List ℕ)) (rounds : List (List (List ℕ))) (begun : List (List ℕ)) (held : Held) (number : ℕ) → Cut done rounds begun held number → rounds_of done ≡ rounds ++ alone_open begun
all_rounds done rounds begun held number cut = ap rounds_of (sym (append-nil done)) ∙ cut.all []

serves_script : (setting : Setting) (first : State) (before now : Option (List ℕ)) (was is : List ℕ) (script rest : List ℕ) (count : ℕ) (kept : Kept) (state : State) → IsAtEnd (Some rest)
    → (so_far : IsServedSoFar setting first before now was is script rest count kept state) → Serves (counts_between was is) setting first (rounds_of (lines_of script)) (so_far.written ++ kept.text)
serves_script setting first before now was is script rest count kept state end so_far =
    subst (λ rs. Serves (counts_between was is) setting first rs (so_far.written ++ kept.text))
    (sym (ap rounds_of (sym (all_read (Some script) (Some rest) so_far.done count so_far.read end)) ∙ all_rounds so_far.done so_far.rounds so_far.begun kept.held (count + 1) so_far.cut))
    (serves_all setting first (counts_between was is) so_far.rounds so_far.begun so_far.written kept.text state kept.held (count + 1) so_far.served)

pub all_served : (setting : Setting) (first : State) (before middle now : Option (List ℕ)) (was is : List ℕ) (known rest left : Option (List ℕ)) (count : ℕ) (kept : Kept) (state : State)
    → count ≤ max_lines → IsAtEnd rest → SoFar setting first before middle was is known rest count kept state → Appends middle now kept.text
    → IfSome known (λ script. EndsServing before now (counts_between was is) setting first script left (Ok tt))
all_served setting first before middle now was is None rest left count kept state few end so_far written = tt
all_served setting first before middle now was is (Some script) None left count kept state few end so_far written = absurd so_far
all_served setting first before middle now was is (Some script) (Some rest) left count kept state few end so_far written = (
  all_within (Some script) (Some rest) so_far.done count so_far.read end few,
  record {
    written = so_far.written ++ kept.text;
    taken = appends_append before middle now so_far.written kept.text so_far.taken written;
    serves = serves_script setting first before middle was is script rest count kept state end so_far;
  },
)

pub last_round_cut : (setting : Setting) (first : State) (before middle now : Option (List ℕ)) (was is : List ℕ) (known rest left : Option (List ℕ)) (count : ℕ) (kept : Kept) (state : State) (e : ServeStop)
    → e ≡ stop.WriteFault → count ≤ max_lines → IsAtEnd rest → SoFar setting first before middle was is known rest count kept state → AppendsPart middle now kept.text
    → IfSome known (λ script. EndsServing before now (counts_between was is) setting first script left (Err e))
last_round_cut setting first before middle now was is None rest left count kept state e same few end so_far part = tt
last_round_cut setting first before middle now was is (Some script) None left count kept state e same few end so_far part = absurd so_far
last_round_cut setting first before middle now was is (Some script) (Some rest) left count kept state e same few end so_far part =
    subst (λ (s : ServeStop). EndsServing before now (counts_between was is) setting first script left (Err s)) (sym same)
    (inr (
      all_within (Some script) (Some rest) so_far.done count so_far.read end few,
      record {
        sent = so_far.written ++ part.sent;
        rest = part.rest;
        taken = appends_append before middle now so_far.written part.sent so_far.taken part.taken;
        serves = subst (λ (t : List ℕ). Serves (counts_between was is) setting first (rounds_of (lines_of script)) t) (ap (λ t. so_far.written ++ t) part.split ∙ sym (append_assoc so_far.written part.sent part.rest))
            (serves_script setting first before middle was is script rest count kept state end so_far);
      },
    ))

-- nothing was read yet
pub nothing_served : (setting : Setting) (first : State) (before : Option (List ℕ)) (was : List ℕ) (known left : Option (List ℕ)) (e : ServeStop) → e ≡ stop.NoMemory
    → IfSome known (λ script. EndsServing before before (counts_between was was) setting first script left (Err e))
nothing_served setting first before was None left e same = tt
nothing_served setting first before was (Some script) left e same =
    subst (λ (s : ServeStop). EndsServing before before (counts_between was was) setting first script left (Err s)) (sym same)
    (some_written setting first before before before was was was script script 0 nothing_kept first (none_fell_yet was) (none_fell_yet was) (omega arith) refl (start setting first before was (Some script)))

-- ---- how it is said of the code

-- an error that is so, for what is said of an error
pub stop_said : (known left before now : Option (List ℕ)) (hosts : List Count) (setting : Setting) (first : State) (result : Result (Unit {0}) ServeStop) (P : ServeStop → Type 0) → IsErrAnd result P
    → ((e : ServeStop) → P e → IfSome known (λ script. EndsServing before now hosts setting first script left (Err e)))
    → IfSome known (λ script. EndsServing before now hosts setting first script left result)
stop_said known left before now hosts setting first (Ok done) P is each = absurd is
stop_said known left before now hosts setting first (Err e) P is each = each e is

pub same_setting : (a b : Position) (m n : ℕ) → a.suffixes ≡ b.suffixes → a.updates ≡ b.updates → a.follows ≡ b.follows → m ≡ n → setting_with a m ≡ setting_with b n
same_setting a b m n suffixes updates follows seats =
    ap (λ s. record { suffixes = s; workers = m; updates = a.updates; follows = a.follows }) suffixes
    ∙ ap (λ (k : ℕ). record { suffixes = b.suffixes; workers = k; updates = a.updates; follows = a.follows }) seats
    ∙ ap (λ (u : Bool). record { suffixes = b.suffixes; workers = n; updates = u; follows = a.follows }) updates
    ∙ ap (λ (f : Bool). record { suffixes = b.suffixes; workers = n; updates = b.updates; follows = f }) follows
