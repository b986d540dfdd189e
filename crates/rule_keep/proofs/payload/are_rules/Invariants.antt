use Rattle.std.proofs.Common.{take}
use Rattle.std.specs.Prelude.{All}
use Rattle.rule_spec.specs.IsRule.{IsRule}
use Rattle.rule_keep.proofs.payload.are_rules.Given as goal

abbrev pub invariant-loop-shared : goal.invariant-loop-shared
invariant-loop-shared l = All IsRule (take l.shared-index l.rules)
