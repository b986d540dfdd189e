-- Lines that are cut from a source ahead of their turn.
use Rattle.std.proofs.Common.{◌≡◌, ℕ, ◌+◌, ◌-◌, ◌≤◌, List, [], ◌∷◌, ◌++◌, length, Bool, true, false, Option, Some, None, Result, Ok, Err, refl, sym, ap, ◌∙◌, subst, arith, append_assoc, append-nil, length-append, take, drop, take_all, drop_of_length-le}
use Rattle.std.specs.Prelude.{IfSome, IsErrAnd, IsTrue, IsFalse}
use Rattle.std.specs.Io.KnownBytes.{IsAtEnd}
use Rattle.dnr_io.proofs.ReadSoFar.{ReadSoFar, one_read}
use Rattle.dnr_io.specs.Lines.{AreEnded, ahead, GivesLine, IsBeyond, StopsIn}
use Rattle.dnr_io.specs.declared.line_refusal.LineRefusal.{LineRefusal}
use Rattle.dnr_io.specs.declared.line_refusal.LineRefusal.TheVariants as refusal
use Rattle.dnr_spec.specs.Lines.{max_line, max_lines}
use Rattle.lines_ahead.specs.Cut.{CutSeen}
use Rattle.session_serve.proofs.Short.{ended_on}
use Rattle.session_seats.specs.Cutting.{AreCut, CutsLines, CutsReady, CutterSeen, EndsAtSync, bytes_of, GivesLines, FollowOn, StandsBehind}

-- ---- one line more

gives_more : (rest behind next : Option (List ℕ)) (lines : List CutSeen) (line : CutSeen) → GivesLines rest behind (bytes_of lines) → GivesLine behind next line.bytes → GivesLines rest next (bytes_of (lines ++ line ∷ []))
gives_more rest behind next [] line gives more = (next, subst (λ (r : Option (List ℕ)). GivesLine r next line.bytes) gives more, refl)
gives_more rest behind next (first ∷ lines) line gives more = (gives.0, gives.1, gives_more gives.0 behind next lines line gives.2 more)

follow_more : (given number : ℕ) (lines : List CutSeen) (line : CutSeen) → number ≡ given + length lines → line.number ≡ number + 1 → length line.bytes ≤ max_line → FollowOn given lines → FollowOn given (lines ++ line ∷ [])
follow_more given number [] line here next short follow = (omega (arith, here, next), short, tt)
follow_more given number (first ∷ lines) line here next short follow = (follow.0, follow.1, follow_more (given + 1) number lines line (omega (arith, here)) next short follow.2)

-- none was cut, or one more
pub cuts_none : (rest : Option (List ℕ)) (lines : List CutSeen) → CutsLines rest lines lines (λ behind. behind ≡ rest)
cuts_none rest lines = record { more = []; longer = sym (append-nil lines); behind = rest; gives = refl; holds = refl }

pub cuts_one_more : (rest at next : Option (List ℕ)) (before lines now : List CutSeen) (line : CutSeen) → now ≡ lines ++ line ∷ [] → GivesLine at next line.bytes → CutsLines rest before lines (λ behind. behind ≡ at)
    → CutsLines rest before now (λ behind. behind ≡ next)
cuts_one_more rest at next before lines now line longer gives cuts = record {
  more = cuts.more ++ line ∷ [];
  longer = longer ∙ ap (λ (ls : List CutSeen). ls ++ line ∷ []) cuts.longer ∙ append_assoc before cuts.more (line ∷ []);
  behind = next;
  gives = gives_more rest cuts.behind next cuts.more line cuts.gives (subst (λ (r : Option (List ℕ)). GivesLine r next line.bytes) (sym cuts.holds) gives);
  holds = refl;
}

-- what is said of what stands behind the lines
pub cuts_so : (rest at : Option (List ℕ)) (before lines now : List CutSeen) (Holds : Option (List ℕ) → Type 0) → now ≡ lines → Holds at → CutsLines rest before lines (λ behind. behind ≡ at) → CutsLines rest before now Holds
cuts_so rest at before lines now Holds same holds cuts = record {
  more = cuts.more;
  longer = same ∙ cuts.longer;
  behind = cuts.behind;
  gives = cuts.gives;
  holds = subst Holds (sym cuts.holds) holds;
}

pub none_cut : (count : ℕ) → count ≤ max_lines → AreCut count []
none_cut count few = record { within = omega arith; few = few; follow = tt; syncs = tt }

pub are_cut_more : (count next : ℕ) (lines now : List CutSeen) (line : CutSeen) → next ≡ count + 1 → next ≤ max_lines → line.number ≡ next → length line.bytes ≤ max_line → now ≡ lines ++ line ∷ [] → EndsAtSync now → AreCut count lines → AreCut next now
are_cut_more count next lines now line up few numbered short longer syncs are =
    let grown : length now ≡ length lines + 1 = ap length longer ∙ length-append lines (line ∷ []) in
    let same : next - length now ≡ count - length lines = omega (arith, up, grown, are.within) in
    let here : count ≡ (count - length lines) + length lines = omega (arith, are.within) in
    let numbers : line.number ≡ count + 1 = numbered ∙ up in
    record {
      within = omega (arith, are.within, up, grown);
      few = few;
      follow = subst (λ (n : ℕ). FollowOn n now) (sym same)
          (subst (λ (ls : List CutSeen). FollowOn (count - length lines) ls) (sym longer) (follow_more (count - length lines) count lines line here numbers short are.follow));
      syncs = syncs;
    }

pub are_cut_so : (count next : ℕ) (lines now : List CutSeen) → next ≡ count → now ≡ lines → AreCut count lines → AreCut next now
are_cut_so count next lines now here same are = subst (λ (n : ℕ). AreCut n now) (sym here) (subst (λ (ls : List CutSeen). AreCut count ls) (sym same) are)

-- ---- lines that have ended

nothing_read : (all : Option (List ℕ)) → ReadSoFar all all [] 0
nothing_read None = tt
nothing_read (Some script) = record { raws = []; first = refl; texts = refl; short = refl; counted = refl }

-- lines that are given are read
lines_read : (known rest next : Option (List ℕ)) (done lines : List (List ℕ)) (count : ℕ) → ReadSoFar known rest done count → GivesLines rest next lines → (all : List (List ℕ)) × (now : ℕ) × ReadSoFar known next all now
lines_read known rest next done [] count read gives = (done, count, subst (λ (r : Option (List ℕ)). ReadSoFar known r done count) (sym gives) read)
lines_read known rest next done (line ∷ lines) count read gives =
    lines_read known gives.0 next (done ++ line ∷ []) lines (count + 1) (one_read known rest gives.0 done count (count + 1) line read gives.1 refl) gives.2

-- where nothing was cut yet, and behind lines that were cut
pub ended_yet : (all : Option (List ℕ)) → AreEnded all all
ended_yet None = tt
ended_yet (Some script) = λ none. rw none tt

ended_behind : (all rest next : Option (List ℕ)) (lines : List (List ℕ)) → GivesLines all rest lines → AreEnded all rest → AreEnded rest next → AreEnded all next
ended_behind all rest next lines gives ended later =
    let read = lines_read all all rest [] lines 0 (nothing_read all) gives in
    ended_on all rest next read.0 read.1 read.2 ended later

pub ended_cut : (all at next : Option (List ℕ)) (before lines : List CutSeen) → CutsLines all before lines (λ behind. behind ≡ at) → AreEnded all at → AreEnded at next → AreEnded all next
ended_cut all at next before lines cuts ended later = ended_behind all at next (bytes_of cuts.more) (subst (λ (r : Option (List ℕ)). GivesLines all r (bytes_of cuts.more)) cuts.holds cuts.gives) ended later

-- ---- what stands behind them

-- there is no more room, or the line may be a sync
pub stands_cut : (count : ℕ) (was now left : Option (List ℕ)) (live : Bool) → (IsTrue live → AreEnded was now) → (IsFalse live → IsAtEnd now) → StandsBehind count was now left (Ok live) now
stands_cut count was now left true ended end = (refl, ended refl)
stands_cut count was now left false ended end = end refl

-- the next line is not given
pub stands_refused : (count : ℕ) (was now left behind : Option (List ℕ)) (result : Result Bool LineRefusal) (why : LineRefusal) → IsErrAnd result (λ e. e ≡ why)
    → (why ≡ refusal.LineTooLong → IfSome behind (IsBeyond count)) → (why ≡ refusal.ReadFault → StopsIn behind left × AreEnded was behind) → StandsBehind count was now left result behind
stands_refused count was now left behind (Ok more) why is beyond stops = absurd is
stands_refused count was now left behind (Err refusal.ReadFault) why is beyond stops = stops (sym is)
stands_refused count was now left behind (Err refusal.LineTooLong) why is beyond stops = beyond (sym is)
stands_refused count was now left behind (Err refusal.NoMemory) why is beyond stops = tt

-- memory ran out
pub stands_unread : (count : ℕ) (was now left behind : Option (List ℕ)) (result : Result Bool LineRefusal) → IsErrAnd result (λ e. e ≡ refusal.NoMemory) → StandsBehind count was now left result behind
stands_unread count was now left behind (Ok more) is = absurd is
stands_unread count was now left behind (Err refusal.ReadFault) is = absurd (cc is)
stands_unread count was now left behind (Err refusal.LineTooLong) is = absurd (cc is)
stands_unread count was now left behind (Err refusal.NoMemory) is = tt

-- ---- lines that are cut out of what was read

-- none is
pub ready_none : (cutter : CutterSeen) → CutsReady cutter cutter
ready_none cutter = record {
  cut = λ left.
      cuts_so (ahead cutter.reading left) (ahead cutter.reading left) cutter.lines cutter.lines cutter.lines (StandsBehind cutter.reading.count (ahead cutter.reading left) (ahead cutter.reading left) left (Ok true))
      refl (refl, ended_yet (ahead cutter.reading left)) (cuts_none (ahead cutter.reading left) cutter.lines);
  given = refl;
  live = refl;
}

-- ---- lines that are asked

-- what a slice of all of them is, written back
pub written_back : (items now : List CutSeen) (count : ℕ) → now ≡ items → length items ≤ count → take count (now ++ drop (length now) items) ≡ items
written_back items now count same long =
    subst (λ (ls : List CutSeen). take count (ls ++ drop (length ls) items) ≡ items) (sym same)
    (ap (λ (ls : List CutSeen). take count (items ++ ls)) (drop_of_length-le items {i = length items} (omega arith)) ∙ ap (λ (ls : List CutSeen). take count ls) (append-nil items) ∙ take_all count items long)
