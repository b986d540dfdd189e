-- What is printed of a page.
use Rattle.std.proofs.Common.{◌≡◌, ◌<◌, ◌≤◌, ℕ, List, ◌++◌, length, ap, ◌∙◌}
use Rattle.hide_spec.specs.declared.hide_reported.HideReported.{HideReported}
use Rattle.hide_spec.specs.HidingLine.{HidingLine}
use Rattle.hide_spec.specs.Hidden.{hidden, hidden_by, hiding_lines, max_hiding}
use Rattle.hide_spec.specs.Report.{hide_report}
use Rattle.rule_spec.specs.Rule.{Rule}
use Rattle.prune_spec.specs.Pruned.{max_rules}
use Rattle.session_spec.specs.Hiding.{selectors_line, unhidden_lines}
use Rattle.session_spec.specs.Refusals.{list_line, too_many_rules}
use Rattle.text_commands.specs.Texts.{HidesTooMany, HoldsTooMany, ShowsPage}

pub page_shown : (lines : List (List ℕ)) (host : List ℕ) (read : List HidingLine) (reported : List HideReported)
    → read ≡ hiding_lines lines → reported ≡ hide_report lines → length (hiding_lines lines) ≤ max_hiding
    → ShowsPage lines host (unhidden_lines reported ++ selectors_line host (hidden_by read host))
unfolding hidden
page_shown lines host read reported same told few = (
  few,
  ap (λ (r : List HideReported). unhidden_lines r ++ selectors_line host (hidden_by read host)) told
      ∙ ap (λ (l : List HidingLine). unhidden_lines (hide_report lines) ++ selectors_line host (hidden_by l host)) same,
)

pub too_many_lines : (name : List ℕ) (lines : List (List ℕ)) (count : ℕ) → count ≡ length (hiding_lines lines) → max_hiding < length (hiding_lines lines)
    → HidesTooMany name lines (list_line name (too_many_rules count))
too_many_lines name lines count is beyond = (beyond, ap (λ (n : ℕ). list_line name (too_many_rules n)) is)

pub too_many_held : (name : List ℕ) (rules : List Rule) (count : ℕ) → count ≡ length rules → max_rules < length rules → HoldsTooMany name rules (list_line name (too_many_rules count))
too_many_held name rules count is beyond = (beyond, ap (λ (n : ℕ). list_line name (too_many_rules n)) is)
