use Rattle.std.proofs.Common.{◌≡◌, fold}
use Rattle.std.specs.Map.{keys_of}
use Rattle.rule_fields.specs.Lengths.{with_key, lengths_of}
use Rattle.rule_fields.proofs.condition.lengths_of.Given as goal

abbrev pub invariant-loop-key : goal.invariant-loop-key
invariant-loop-key l = fold with_key l.lengths l.key-iterator ≡ lengths_of (keys_of l.fn.members.entries)
