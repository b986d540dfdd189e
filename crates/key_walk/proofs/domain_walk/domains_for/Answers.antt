use Rattle.std.proofs.Common.{refl}
use Rattle.index_spec.specs.Keys.{domains_over}
use Rattle.key_walk.proofs.Empty.{none_of_each}
use Rattle.key_walk.proofs.domain_walk.domains_for.Goals as goal

pub returns-then-is_empty : goal.returns-then-is_empty
returns-then-is_empty c shown = none_of_each c.args.table.now shown c.none.result (domains_over c.args.host.now) (c.if-is_empty.ensures.0 refl)
