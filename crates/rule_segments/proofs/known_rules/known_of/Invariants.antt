use Rattle.std.proofs.Common.{◌≡◌, map, take}
use Rattle.rule_ids.specs.Counted.{known_of}
use Rattle.rule_segments.proofs.known_rules.known_of.Given as goal

abbrev pub invariant-loop-rule : goal.invariant-loop-rule
invariant-loop-rule g l = l.known ≡ map known_of (map g.R.LendsRule.lent (take l.rule-index l.rules))
