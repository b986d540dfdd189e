use Rattle.std.proofs.Common.{◌≡◌, take}
use Rattle.compile_spec.specs.Initiators.{those_under}
use Rattle.abp_compile.proofs.domains.those_under.Given as goal

abbrev pub invariant-loop-domain : goal.invariant-loop-domain
invariant-loop-domain l = l.under.items ≡ those_under l.other (take l.domain-index l.domains)
