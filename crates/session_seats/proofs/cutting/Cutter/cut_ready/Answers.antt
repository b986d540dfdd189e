use Rattle.std.proofs.Common.{subst, arith}
use Rattle.session_seats.specs.Cutting.{CutsReady, CutterSeen}
use Rattle.session_seats.proofs.cutting.Cutter.cut_ready.Goals as goal

pub returns : goal.returns
returns c =
    let done = c.cut_whole-self-inside.ensures in
    rw c.ask_ready.ensures
    (subst (λ (k : CutterSeen). CutsReady k (record { reading = c.cut_whole-self-inside.new.lines; lines = c.cut_whole-self-inside.new.cut.items })) c.self.view_is
    (record { cut = done.cut; given = omega (arith, done.counted, c.self.invariant.0.within); live = done.live }))
