use Rattle.std.proofs.Common.{sym, ap, ◌∙◌}
use Rattle.std.specs.Option.{option_copied}
use Rattle.rule_prune.proofs.Earlier.{outdone_by_place}
use Rattle.rule_prune.proofs.outdone.Search.loses_to.Goals as goal

pub returns : goal.returns
returns c =
    let at = sym c.rule_at.ensures ∙ ap option_copied c.in-Some.is in
    let its = sym c.rule_at-2.ensures ∙ ap option_copied c.in-Some-rule_at.is in
    c.outdoes.ensures ∙ outdone_by_place c.args.self.now.rules.now c.requires c.args.other c.args.self.now.place c.in-Some.k.now c.in-Some-rule_at.s.now at its
