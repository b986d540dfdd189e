use Rattle.std.proofs.Common.{List, arith, filter, refl}
use Rattle.std.specs.Prelude.{nat_le}
use Rattle.rule_spec.specs.State.{Live}
use Rattle.generation.specs.Choice.{unless_outdone}
use Rattle.generation.proofs.Rest.{outdone_each, rest_end, rest_step}
use Rattle.generation.proofs.sorted.not_outdone.Goals as goal

pub loop-live-preserved : goal.loop-live-preserved
loop-live-preserved c =
    let whole : List Live → List Live = λ lives. filter (λ live. nat_le c.args.allowed live.rule.priority) lives in
    rest_step whole (unless_outdone c.args.allowed) (outdone_each c.args.allowed) c.args.lives.now c.loop-live.live-index c.live-item.result (whole c.args.lives.now)
    c.loop-live.list.items c.in_ok-list.list.items (omega arith) c.live-item.is c.loop-live.invariant c.in_ok-list.ensures

pub returns : goal.returns
returns c =
    let whole : List Live → List Live = λ lives. filter (λ live. nat_le c.args.allowed live.rule.priority) lives in
    rest_end whole refl c.args.lives.now c.loop-live.live-index (whole c.args.lives.now) c.loop-live.list.items c.loop-live-test.false c.loop-live.invariant
