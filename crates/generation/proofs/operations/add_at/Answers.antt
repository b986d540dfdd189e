use Rattle.std.proofs.Common.{◌≡◌, ◌++◌, List, IfOk, subst}
use Rattle.std.specs.Option.{option_copied}
use Rattle.rule_spec.specs.Scan.{NamedOp}
use Rattle.generation.proofs.Taken.{at_is}
use Rattle.generation.proofs.operations.add_at.Goals as goal

pub returns : goal.returns
returns c =
    subst (λ (l : List NamedOp). IfOk c.add_one.result (λ new. new.items ≡ c.args.ops.items ++ l))
    (at_is c.args.direction c.args.offers.now c.args.place (option_copied c.offer_at.result) c.offer_at.ensures) c.add_one.ensures
