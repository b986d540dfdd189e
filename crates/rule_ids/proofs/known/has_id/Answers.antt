use Rattle.std.proofs.Common.{◌∙◌, ap, not, length, List}
use Rattle.std.specs.Prelude.{◌==◌}
use Rattle.rule_ids.specs.Counted.{has_known_id}
use Rattle.rule_ids.specs.declared.known_rule.KnownRule.{KnownRule}
use Rattle.rule_ids.proofs.Ranges.{some_pass}
use Rattle.rule_ids.proofs.known.has_id.Goals as goal

pub returns : goal.returns
returns c =
    ap (λ b. not b) (c.is_empty.ensures ∙ ap (λ (known : List KnownRule). length known == 0) c.of_id.ensures) ∙ some_pass (has_known_id c.args.id) c.args.known.now
