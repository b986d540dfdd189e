use Rattle.std.proofs.Common.{◌≡◌, take, fold}
use Rattle.rule_prune.specs.Digests as spec
use Rattle.rule_prune.proofs.digests.texts_mixed.Given as goal

abbrev pub invariant-loop-text : goal.invariant-loop-text
invariant-loop-text l = l.digest ≡ fold spec.text_mixed l.fn.so_far (take l.text-index l.texts)
