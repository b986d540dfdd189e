use Rattle.std.proofs.Common.{◌≡◌, ◌++◌, length}
use Rattle.index_spec.specs.Keys.{domains_over}
use Rattle.rule_index.proofs.keys.domains_of.Given as goal

abbrev pub invariant-loop-domain : goal.invariant-loop-domain
invariant-loop-domain l = l.texts.items ++ l.domains ≡ domains_over l.fn.host

abbrev pub decreases-loop-domain : goal.decreases-loop-domain
decreases-loop-domain l = length l.domains
