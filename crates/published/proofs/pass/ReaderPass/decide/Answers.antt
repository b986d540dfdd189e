use Rattle.std.proofs.Common.{ap}
use Rattle.left_right.specs.Sides.{view}
use Rattle.published.specs.Pass.{PassSeen}
use Rattle.published.proofs.Passes.{sees_on}
use Rattle.published.proofs.pass.ReaderPass.decide.Goals as goal

pub returns-clause-later : goal.returns-clause-later
returns-clause-later g c =
    let found = rw c.in-Some.is at c.look-reader.ensures.log in
    sees_on c.unwrap.result (λ r. view r.place) c.self.inside.reader c.take.result c.self.inside.log.list c.args.self.now.seen (view c.look-reader.result.0.place) c.in-Some.log.list
    c.self.invariant.1 c.take.ensures.value c.unwrap.ensures c.look-reader.ensures.later (ap (λ known. known.list) found) (ap (λ (pass : PassSeen). pass.seen) c.self.view_is)
