use Rattle.std.proofs.Common.{length, arith}
use Rattle.std.proofs.lemmas.Option.{slice_get_within}
use Rattle.swap_core.proofs.Schedules.{published_grows}
use Rattle.swap_core.proofs.laws.answers_lie_between.Goals as goal

pub returns : goal.returns
returns c start events reader from place number le answers =
    let inside = slice_get_within events place _ answers.entered in
    let floor = published_grows start events from place le in
    let top = published_grows start events place (length events) (omega (arith, inside)) in
    let is = answers.newest in
    (omega (arith, floor, is), omega (arith, top, is))
