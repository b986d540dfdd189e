use Rattle.std.proofs.Common.{◌≡◌, [], ◌∷◌, fold, take}
use Rattle.rule_write.specs.Texts.{with_rule}
use Rattle.rule_write.proofs.rules.write_rules.Given as goal

abbrev pub invariant-loop-rule : goal.invariant-loop-rule
invariant-loop-rule l = l.text.items ≡ fold with_rule (91 ∷ []) (take l.rule-index l.rules)
