use Rattle.std.proofs.Common.{arith}
use Rattle.swap_core.proofs.Schedules.{published_grows}
use Rattle.swap_core.proofs.laws.answers_never_fall.Goals as goal

pub returns : goal.returns
returns c start events reader first then earlier later le one other =
    let grows = published_grows start events first then le in
    let is = one.newest in
    let is_too = other.newest in
    omega (arith, grows, is, is_too)
