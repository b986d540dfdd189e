use Rattle.std.proofs.Common.{ap, ◌∙◌, rules}
use Rattle.dnr_spec.specs.Domains.{covers_some}
use Rattle.domain_set.proofs.Covered.{covered, kept_order}
use Rattle.domain_set.proofs.set.DomainSet.covers.Goals as goal

pub covers-requires : goal.covers-requires
covers-requires c =
    kept_order c.self.inside.kept c.in-Some.kept c.deref.result.now c.in-Some-order.order c.as_slice.result.now c.as_slice-in-Some-order.result.now
    c.self.invariant c.in-Some.is c.deref.ensures c.in-Some-order.is (search rules) (search rules)

pub returns-in-Some-order : goal.returns-in-Some-order
returns-in-Some-order c =
    let host = c.args.host.now in
    covered c.self.inside.kept c.in-Some.kept c.deref.result.now c.as_slice.result.now host c.covers.result c.in-Some.is c.deref.ensures (search rules) c.covers.ensures
    ∙ ap (λ list. covers_some list host) c.self.view_is
