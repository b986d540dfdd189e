use Rattle.std.proofs.Common.{◌≡◌, take, fold}
use Rattle.rule_prune.specs.Digests as spec
use Rattle.rule_prune.proofs.digests.text_mixed.Given as goal

abbrev pub invariant-loop-byte : goal.invariant-loop-byte
invariant-loop-byte l = l.digest ≡ fold spec.mixed l.fn.so_far (take l.byte-index l.text)
