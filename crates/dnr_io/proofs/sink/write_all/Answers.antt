use Rattle.std.proofs.Common.{◌++◌, ◌∙◌, take, arith}
use Rattle.dnr_io.proofs.Appended.{appends_append, rejoin}
use Rattle.dnr_io.proofs.sink.write_all.Goals as goal

pub loop-rest-preserved : goal.loop-rest-preserved
loop-rest-preserved g c =
    let was = c.loop-rest.invariant in
    let wrote = c.in_ok-count.ensures in
    let rest = c.loop-rest.rest.now in
    let count = c.in_ok-count.count in
    record {
      sent = was.sent ++ take count rest;
      taken = appends_append _ _ _ was.sent (take count rest) was.taken wrote.bytes;
      split = rejoin c.args.bytes.now was.sent rest count was.split;
      later = omega (arith, wrote.cause.later, was.later);
      told = wrote.told ∙ was.told;
    }
