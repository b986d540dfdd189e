use Rattle.std.proofs.Common.{◌∷◌, ◌++◌, [], Ok, Err, refl, sym, subst, ap, ◌∙◌, List, length, length-append, arith}
use Rattle.std.proofs.lemmas.Bool.{true≢false}
use Rattle.std.specs.Io.KnownBytes.{IsAtEnd}
use Rattle.std.specs.Prelude.{IfSome}
use Rattle.dnr_io.specs.Lines.{ahead, IsBeyond}
use Rattle.lines_ahead.specs.Cut.{CutSeen}
use Rattle.session_seats.proofs.Cuts.{are_cut_more, are_cut_so, cuts_none, cuts_one_more, cuts_so, ended_cut, ended_yet, stands_cut, stands_refused, stands_unread}
use Rattle.session_seats.proofs.cutting.cut_lines.Goals as goal

pub loop-going-init : goal.loop-going-init
loop-going-init g c =
    let all = ahead c.args.lines.now (g.S.Source.left c.args.source.now) in
    record {
      cuts = cuts_none all c.args.cut.now.items;
      are = c.requires.cut;
      counted = refl;
      ended = λ not. absurd {A = IsAtEnd all} (true≢false (sym c.requires.live ∙ not));
      lf = λ live. ended_yet all;
      none = c.requires.none;
      some = c.requires.some;
      told = refl;
      files = refl;
      starts = refl;
      read = omega arith;
    }

pub returns-in_err-reserve-clause-cut : goal.returns-in_err-reserve-clause-cut
returns-in_err-reserve-clause-cut g c =
    let inv = c.loop-going.invariant in
    let all = ahead c.args.lines.now (g.S.Source.left c.args.source.now) in
    let at = ahead c.loop-going.lines (g.S.Source.left c.loop-going.source) in
    cuts_so all at c.args.cut.now.items c.loop-going.cut.items c.reserve.new.self.items _ c.in_err-reserve.ensures.items
    (stands_unread c.loop-going.lines.count all at (g.S.Source.left c.loop-going.source) at _ c.from_residual.ensures.1) inv.cuts

pub returns-in_err-reserve-clause-are_cut : goal.returns-in_err-reserve-clause-are_cut
returns-in_err-reserve-clause-are_cut g c =
    are_cut_so c.loop-going.lines.count c.loop-going.lines.count c.loop-going.cut.items c.reserve.new.self.items refl c.in_err-reserve.ensures.items c.loop-going.invariant.are

pub returns-in_err-next-clause-cut : goal.returns-in_err-next-clause-cut
returns-in_err-next-clause-cut g c =
    let inv = c.loop-going.invariant in
    let next = c.in_err-next.ensures in
    let all = ahead c.args.lines.now (g.S.Source.left c.args.source.now) in
    let at = ahead c.loop-going.lines (g.S.Source.left c.loop-going.source) in
    cuts_so all at c.args.cut.now.items c.loop-going.cut.items c.reserve.new.self.items _ c.in_ok-reserve.ensures.items
    (stands_refused c.next.new.self.count all (ahead c.next.new.self (g.S.Source.left c.next.new.source)) (g.S.Source.left c.next.new.source) at _ c.in_err-next.field-0.0 c.from_residual-in_err-next.ensures.1
    (λ is. subst (λ n. IfSome at (IsBeyond n)) (sym next.uncounted.0) (next.too_long (ap Err is))) (λ is. (next.stopped (ap Err is), inv.lf (next.going (ap Err is))))) inv.cuts

pub returns-in_err-next-clause-are_cut : goal.returns-in_err-next-clause-are_cut
returns-in_err-next-clause-are_cut g c =
    are_cut_so c.loop-going.lines.count c.next.new.self.count c.loop-going.cut.items c.reserve.new.self.items c.in_err-next.ensures.uncounted.0 c.in_ok-reserve.ensures.items c.loop-going.invariant.are

pub returns-in_err-next-clause-counted : goal.returns-in_err-next-clause-counted
returns-in_err-next-clause-counted g c = omega (arith, c.in_err-next.ensures.uncounted.0, ap length c.in_ok-reserve.ensures.items, c.loop-going.invariant.counted)

pub returns-then-not-branch-clause-cut : goal.returns-then-not-branch-clause-cut
returns-then-not-branch-clause-cut g c =
    let inv = c.loop-going.invariant in
    let next = c.in_ok-next.ensures in
    let all = ahead c.args.lines.now (g.S.Source.left c.args.source.now) in
    let at = ahead c.loop-going.lines (g.S.Source.left c.loop-going.source) in
    cuts_so all at c.args.cut.now.items c.loop-going.cut.items c.reserve.new.self.items _ c.in_ok-reserve.ensures.items (next.end c.if-not-branch.true).0 inv.cuts

pub returns-then-not-branch-clause-are_cut : goal.returns-then-not-branch-clause-are_cut
returns-then-not-branch-clause-are_cut g c =
    are_cut_so c.loop-going.lines.count c.next.new.self.count c.loop-going.cut.items c.reserve.new.self.items (c.in_ok-next.ensures.uncounted.1 c.if-not-branch.true) c.in_ok-reserve.ensures.items c.loop-going.invariant.are

pub returns-then-not-branch-clause-counted : goal.returns-then-not-branch-clause-counted
returns-then-not-branch-clause-counted g c = omega (arith, c.in_ok-next.ensures.uncounted.1 c.if-not-branch.true, ap length c.in_ok-reserve.ensures.items, c.loop-going.invariant.counted)

pub loop-going-preserved : goal.loop-going-preserved
loop-going-preserved g c =
    let inv = c.loop-going.invariant in
    let next = c.in_ok-next.ensures in
    let given = next.line c.if-not-branch.false in
    let counted = next.counted c.if-not-branch.false in
    let taken = c.take_in-going.ensures in
    let line : CutSeen = record { number = c.count.result; bytes = c.next.new.line.items } in
    let longer = taken.longer ∙ ap (λ (ls : List CutSeen). ls ++ line ∷ []) c.in_ok-reserve.ensures.items in
    let all = ahead c.args.lines.now (g.S.Source.left c.args.source.now) in
    let at = ahead c.loop-going.lines (g.S.Source.left c.loop-going.source) in
    let behind = ahead c.next.new.self (g.S.Source.left c.next.new.source) in
    record {
      cuts = cuts_one_more all at behind c.args.cut.now.items c.loop-going.cut.items c.take_in-going.new.cut.items line longer given inv.cuts;
      are = are_cut_more c.loop-going.lines.count c.next.new.self.count c.loop-going.cut.items c.take_in-going.new.cut.items line counted.1 (omega (arith, counted.0, counted.1)) c.count.ensures (next.within c.if-not-branch.false) longer taken.syncs inv.are;
      counted = omega (arith, inv.counted, counted.1, ap length longer, length-append c.loop-going.cut.items (line ∷ []));
      ended = next.last (ap Ok c.if-not-branch.false);
      lf = λ live. ended_cut all at behind c.args.cut.now.items c.loop-going.cut.items inv.cuts (inv.lf ((next.live live).0)) (next.lf live);
      none = taken.none;
      some = λ is. omega (arith, ap length longer, length-append c.loop-going.cut.items (line ∷ []));
      told = next.told ∙ inv.told;
      files = next.files ∙ inv.files;
      starts = next.starts ∙ inv.starts;
      read = omega (arith, inv.read, next.cause.later);
    }

pub returns-clause-cut : goal.returns-clause-cut
returns-clause-cut g c =
    let inv = c.loop-going.invariant in
    let all = ahead c.args.lines.now (g.S.Source.left c.args.source.now) in
    let at = ahead c.loop-going.lines (g.S.Source.left c.loop-going.source) in
    cuts_so all at c.args.cut.now.items c.loop-going.cut.items c.loop-going.cut.items _ refl
    (stands_cut c.loop-going.lines.count all at (g.S.Source.left c.loop-going.source) c.live.result (λ live. inv.lf (sym c.live.ensures ∙ live)) (λ over. inv.ended (sym c.live.ensures ∙ over))) inv.cuts

pub returns-in_err-reserve-clause-counted : goal.returns-in_err-reserve-clause-counted
returns-in_err-reserve-clause-counted g c = omega (arith, ap length c.in_err-reserve.ensures.items, c.loop-going.invariant.counted)
