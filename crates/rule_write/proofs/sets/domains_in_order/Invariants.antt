use Rattle.std.proofs.Common.{◌≡◌, map, take, string_bytes}
use Rattle.json_spec.specs.Written.{ascending_domains}
use Rattle.rule_write.proofs.sets.domains_in_order.Given as goal

abbrev pub invariant-loop-domain : goal.invariant-loop-domain
invariant-loop-domain l = map string_bytes l.set.keys ≡ ascending_domains (take l.domain-index l.domains)
