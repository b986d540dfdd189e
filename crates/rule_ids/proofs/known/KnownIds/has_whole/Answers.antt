use Rattle.std.proofs.Common.{rules, sym, ◌∙◌, ap, pos, int_eq, FitsSigned}
use mir.Syntax.{w128}
use Rattle.std.specs.List.{list_any}
use Rattle.rule_ids.specs.declared.known_rule.KnownRule.{KnownRule}
use Rattle.rule_ids.proofs.Ranks.{no_whole}
use Rattle.rule_ids.proofs.known.KnownIds.has_whole.Goals as goal

pub returns-in-Err : goal.returns-in-Err
returns-in-Err c =
    let fits : FitsSigned w128 c.args.id.now = search rules in
    let none = no_whole c.args.id.now c.self.inside.known.items fits c.in-Err.ensures c.self.invariant.small in
    sym (ap (list_any (λ (one : KnownRule). int_eq c.args.id.now (pos one.id))) (sym c.self.view_is) ∙ none)
