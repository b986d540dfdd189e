use Rattle.std.proofs.Common.{◌∷◌, ◌++◌, [], refl, ap, ◌∙◌, List, length, length-append, arith}
use Rattle.dnr_io.specs.Lines.{ahead}
use Rattle.lines_ahead.specs.Cut.{CutSeen}
use Rattle.session_seats.proofs.Cuts.{are_cut_more, cuts_none, cuts_one_more, cuts_so, ended_cut, ended_yet}
use Rattle.session_seats.proofs.cutting.cut_whole.Goals as goal

pub loop-going-init : goal.loop-going-init
loop-going-init c = record {
  cuts = λ left. cuts_none (ahead c.args.lines.now left) c.args.cut.now.items;
  are = c.requires.cut;
  counted = refl;
  lf = λ left. ended_yet (ahead c.args.lines.now left);
  none = λ is. c.requires.none;
  live = refl;
}

pub loop-going-preserved : goal.loop-going-preserved
loop-going-preserved c =
    let inv = c.loop-going.invariant in
    let next = c.next_ready.ensures in
    let is = c.if-not-next_ready.false in
    let counted = next.counted is in
    let taken = c.take_in-going.ensures in
    let line : CutSeen = record { number = c.count.result; bytes = c.next_ready.new.line.items } in
    let longer = taken.longer ∙ ap (λ (ls : List CutSeen). ls ++ line ∷ []) c.reserve.ensures.items in
    record {
      cuts = λ left. cuts_one_more (ahead c.args.lines.now left) (ahead c.loop-going.lines left) (ahead c.next_ready.new.self left) c.args.cut.now.items c.loop-going.cut.items c.take_in-going.new.cut.items line longer (next.line is left) (inv.cuts left);
      are = are_cut_more c.loop-going.lines.count c.next_ready.new.self.count c.loop-going.cut.items c.take_in-going.new.cut.items line counted.1 (omega (arith, counted.0, counted.1)) c.count.ensures (next.within is) longer taken.syncs inv.are;
      counted = omega (arith, inv.counted, counted.1, ap length longer, length-append c.loop-going.cut.items (line ∷ []));
      lf = λ left. ended_cut (ahead c.args.lines.now left) (ahead c.loop-going.lines left) (ahead c.next_ready.new.self left) c.args.cut.now.items c.loop-going.cut.items (inv.cuts left) (inv.lf left) (next.lf is left);
      none = taken.none;
      live = next.live ∙ inv.live;
    }

pub returns-clause-cut : goal.returns-clause-cut
returns-clause-cut c =
    let inv = c.loop-going.invariant in λ left.
    cuts_so (ahead c.args.lines.now left) (ahead c.loop-going.lines left) c.args.cut.now.items c.loop-going.cut.items c.loop-going.cut.items _ refl (refl, inv.lf left) (inv.cuts left)
