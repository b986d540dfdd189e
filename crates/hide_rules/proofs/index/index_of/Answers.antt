use Rattle.std.proofs.Common.{List, [], ap, ◌∙◌, subst, true, false}
use Rattle.hide_spec.specs.HidingLine.{HidingLine}
use Rattle.hide_rules.specs.Seen.{lines_seen}
use Rattle.hide_rules.specs.Selectors.{HasSelectors}
use Rattle.hide_rules.proofs.index.index_of.Goals as goal

pub returns : goal.returns
returns c = record {
  hidden = subst (λ (lines : List HidingLine). HasSelectors false [] lines c.in_ok-hidden.hidden) (ap lines_seen c.as_slice.ensures.value ∙ c.in_ok-general.ensures) c.in_ok-hidden.ensures;
  kept = subst (λ (lines : List HidingLine). HasSelectors true [] lines c.in_ok-kept.kept) (ap lines_seen c.as_slice-2.ensures.value ∙ c.in_ok-general.ensures) c.in_ok-kept.ensures;
  listed = c.in_ok-listings.ensures;
  unlisted = c.in_ok-unlisted.ensures;
}
