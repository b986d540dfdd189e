use Rattle.std.proofs.Common.{List, ap, ◌∙◌, subst, map, true, false}
use Rattle.hide_spec.specs.HidingLine.{HidingLine}
use Rattle.hide_rules.specs.Seen.{hiding_seen, lines_seen}
use Rattle.hide_rules.specs.Selectors.{HasSelectors}
use Rattle.hide_rules.specs.Texts.{texts_of}
use Rattle.hide_rules.proofs.Shown.{shows_hidden}
use Rattle.hide_rules.proofs.page.hidden.Goals as goal

pub returns : goal.returns
returns c =
    let lines : List HidingLine = map hiding_seen c.args.lines.now in
    shows_hidden (texts_of c.args.domains.now) lines c.args.index.now c.in_ok-hidden.hidden c.in_ok-kept.kept c.requires
    (subst (λ (found : List HidingLine). HasSelectors false (texts_of c.args.domains.now) found c.in_ok-hidden.hidden) (ap lines_seen c.as_slice.ensures.value ∙ c.in_ok-found.ensures) c.in_ok-hidden.ensures)
    (subst (λ (found : List HidingLine). HasSelectors true (texts_of c.args.domains.now) found c.in_ok-kept.kept) (ap lines_seen c.as_slice-2.ensures.value ∙ c.in_ok-found.ensures) c.in_ok-kept.ensures)
    c.in_ok-texts.texts.items c.in_ok-texts.ensures
