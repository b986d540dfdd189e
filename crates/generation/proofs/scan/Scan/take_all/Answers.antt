use Rattle.std.proofs.Common.{◌∙◌, sym, rules, arith}
use Rattle.std.proofs.lemmas.Grind.{common_steps}
use Rattle.rule_spec.specs.State.{live_rules}
use Rattle.generation.specs.Refused.{IsPattern, IsPatternOf}
use Rattle.generation.proofs.Pairs.{next_pairs}
use Rattle.generation.proofs.Walked.{ends_on}
use Rattle.generation.proofs.scan.Scan.take_all.Goals as goal

pub returns-in-Err-clause-ends : goal.returns-in-Err-clause-ends
returns-in-Err-clause-ends g c =
    let extension = c.index-extensions-age.result in
    ends_on (IsPattern extension.name (live_rules extension)) (IsPatternOf c.args.extensions.now) (g.H.RegexHost.faults c.loop-age.host) (g.H.RegexHost.faults c.args.host.now)
    (g.H.RegexHost.faults c.take_extension.new.host) c.in-Err.refusal c.loop-age.invariant.1
    (λ rule h. record { extension = extension; installed = (c.loop-age.age, omega arith, sym c.index-extensions-age.is); rule = h })
    c.in-Err.ensures.ends

pub loop-age-preserved : goal.loop-age-preserved
loop-age-preserved g c =
    let pairs = next_pairs c.args.extensions.now c.loop-age.age c.index-extensions-age.result c.args.self.now.request (omega arith) c.index-extensions-age.is in (
      first_of (search rules, grind (arith, common_steps)),
      c.in-Ok.ensures.ends ∙ c.loop-age.invariant.1,
      omega (arith, pairs, c.in-Ok.ensures.bound, c.loop-age.invariant.2),
    )

pub returns-then-is_err-clause-bound : goal.returns-then-is_err-clause-bound
returns-then-is_err-clause-bound g c =
    let pairs = next_pairs c.args.extensions.now c.loop-age.age c.index-extensions-age.result c.args.self.now.request (omega arith) c.index-extensions-age.is in
    omega (arith, pairs, c.in-Ok.ensures.bound, c.loop-age.invariant.2)

pub returns-in-Err-clause-bound : goal.returns-in-Err-clause-bound
returns-in-Err-clause-bound g c =
    let pairs = next_pairs c.args.extensions.now c.loop-age.age c.index-extensions-age.result c.args.self.now.request (omega arith) c.index-extensions-age.is in
    omega (arith, pairs, c.in-Err.ensures.bound, c.loop-age.invariant.2)
