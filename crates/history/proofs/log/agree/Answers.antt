use Rattle.std.proofs.Common.{subst, ap}
use mathlib.Core.List.{IsPrefix}
use Rattle.history.proofs.Beginnings.{shorter_begins}
use Rattle.history.proofs.log.agree.Goals as goal

pub returns : goal.returns
returns g c le =
    let both = c.learn.new.self.log in
    let one = subst (λ l. IsPrefix l both) (ap (λ s. s.log) c.again-both.ensures) c.learn.ensures.2 in
    rw (← c.one.view_is, ← c.other.view_is) (shorter_begins c.one.inside.seen.log c.other.inside.seen.log both one c.learn.ensures.3 (rw (← c.one.view_is, ← c.other.view_is) at le))
