use Rattle.std.proofs.Common.{◌≡◌, [], ◌∷◌, ◌++◌, fold, take, ap, ◌∙◌, arith}
use Rattle.std.proofs.lemmas.Grind.{common_steps}
use Rattle.rule_write.specs.Texts.{with_rule}
use Rattle.rule_write.proofs.Texts.{whole}
use Rattle.rule_write.proofs.rules.write_rules.Goals as goal

pub returns : goal.returns
returns c =
    let all : take c.loop-rule.rule-index c.args.rules.now ≡ c.args.rules.now = grind (arith, common_steps) in
    c.in_ok-push-2.ensures.items ∙ ap (λ t. t ++ 93 ∷ []) (c.loop-rule.invariant ∙ ap (fold with_rule (91 ∷ [])) all) ∙ whole c.args.rules.now
