use Rattle.std.proofs.Common.{◌++◌, List, [], ◌∷◌, map, take, sym, ap, ◌∙◌}
use Rattle.std.specs.Prelude.{filter}
use Rattle.hide_spec.specs.HidingLine.{HidingLine}
use Rattle.hide_rules.specs.Listings.{is_general}
use Rattle.hide_rules.specs.Seen.{hiding_seen}
use Rattle.std.proofs.lemmas.List.Elements.{filter_more}
use Rattle.hide_rules.proofs.Pages.{item_seen, within_seen}
use Rattle.hide_rules.proofs.index.general_lines.Goals as goal

pub loop-line-preserved : goal.loop-line-preserved
loop-line-preserved c =
    let lines : List HidingLine = map hiding_seen c.args.lines.now in
    c.in_ok-push_general.ensures
    ∙ ap (λ (t : List HidingLine). t ++ filter is_general (hiding_seen c.line-item.result ∷ [])) c.loop-line.invariant
    ∙ ap (λ (l : HidingLine). filter is_general (take c.loop-line.line-index lines) ++ filter is_general (l ∷ [])) (sym (item_seen c.args.lines.now c.loop-line.line-index c.line-item.result c.line-item.is))
    ∙ sym (filter_more is_general lines c.loop-line.line-index (hiding_seen c.line-item.result) (within_seen c.args.lines.now c.loop-line.line-index c.loop-line-test.true))
