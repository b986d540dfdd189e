use Rattle.std.proofs.Common.{List, ℕ, map, sym, ap, ◌∙◌, subst}
use Rattle.std.specs.Borrow.{Bor}
use Rattle.hide_spec.specs.HidingLine.{HidingLine}
use Rattle.hide_rules.specs.declared.line.HidingLine as own
use Rattle.hide_rules.specs.Ends.{ends_of}
use Rattle.hide_rules.specs.Index.{Indexes}
use Rattle.hide_rules.specs.Page.{hidden_by}
use Rattle.hide_rules.specs.Seen.{hiding_seen}
use Rattle.hide_rules.specs.Texts.{texts_of}
use Rattle.hide_rules.proofs.Pages.{page_by_ends}
use Rattle.hide_rules.proofs.hide_list.HideList.selectors.Goals as goal

pub hidden-requires : goal.hidden-requires
hidden-requires c = subst (λ (lines : List own.HidingLine). Indexes (map hiding_seen lines) c.self.inside.index) (sym c.as_slice.ensures.value) c.self.invariant

pub returns : goal.returns
returns c =
    c.in_ok-texts.ensures
    ∙ ap (λ (ends : List (Bor (List ℕ))). hidden_by (texts_of ends) (map hiding_seen c.as_slice.result.now)) c.as_slice-2.ensures.value
    ∙ ap (λ (ends : List (List ℕ)). hidden_by ends (map hiding_seen c.as_slice.result.now)) c.in_ok-ends.ensures
    ∙ ap (λ (lines : List own.HidingLine). hidden_by (ends_of c.args.host.now) (map hiding_seen lines)) c.as_slice.ensures.value
    ∙ ap (λ (lines : List HidingLine). hidden_by (ends_of c.args.host.now) lines) c.self.view_is
    ∙ sym (page_by_ends c.args.self.now c.args.host.now)
