use Rattle.std.proofs.Common.{rules, arith, subst, ◌∙◌}
use Rattle.std.proofs.lemmas.Option.{slice_get_within}
use Rattle.rule_prune.specs.Filters.{Takes}
use Rattle.rule_prune.proofs.Rules.{rule_there}
use Rattle.rule_prune.proofs.Tables.{listed_more}
use Rattle.rule_prune.proofs.filters.Filters.of.Goals as goal

pub loop-place-preserved : goal.loop-place-preserved
loop-place-preserved c =
    let place = c.loop-place.place in
    let rule = c.index-rules-place.result in
    let takes = subst (λ its. Takes c.loop-place.filters c.take.new.self place its) c.condition.ensures.value c.in_ok-take.ensures in
    record {
      places =
          listed_more c.loop-place.filters c.take.new.self c.args.rules.now place rule (rule_there c.args.rules.now place rule c.loop-place-test.true (search rules)) takes c.loop-place.invariant.places;
      digests = takes.digests ∙ c.loop-place.invariant.digests;
    }

pub returns : goal.returns
returns c = record {
  places = λ place rule at. c.loop-place.invariant.places place rule (omega (arith, slice_get_within c.args.rules.now place rule at, c.loop-place-test.false)) at;
  digests = c.loop-place.invariant.digests;
}
