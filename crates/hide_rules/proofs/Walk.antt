-- The lines of a list, one after another.
use Rattle.std.proofs.Common.{◌≡◌, ◌+◌, ℕ, List, [], ◌∷◌, ◌++◌, map, refl, sym, ap, ◌∙◌, append_assoc, Option, None, Some}
use Rattle.std.specs.List.{cons_option}
use Rattle.std.proofs.lemmas.List.{append-nil}
use Rattle.hide_spec.specs.HidingLine.{HidingLine, HideLine, hide_line_of}
use Rattle.hide_spec.specs.Hidden.{hiding_in, hiding_lines}
use Rattle.hide_spec.specs.Report.{hide_report_from, hide_report_of, hide_reason_of, hide_report}
use Rattle.hide_rules.specs.Taken.{hiding_of, TakesIn}
use Rattle.hide_rules.specs.Seen.{hiding_seen}
use Rattle.hide_rules.specs.declared.list.Taken.{Taken}

cons_is : (o : Option HidingLine) (lines : List HidingLine) → cons_option o lines ≡ hiding_of o ++ lines
cons_is None lines = refl
cons_is (Some line) lines = refl

hiding_more : (line : List ℕ) (more : List (List ℕ)) → hiding_lines (line ∷ more) ≡ hiding_of (hiding_in (hide_line_of line)) ++ hiding_lines more
hiding_more line more = cons_is (hiding_in (hide_line_of line)) (hiding_lines more)

-- what was taken in of all lines, where these are left, the first of this number
pub record IsAt (all : List (List ℕ)) (left : List (List ℕ)) (number : ℕ) (taken : Taken) : Type 0 where
  pub hiding : hiding_lines all ≡ map hiding_seen taken.lines.items ++ hiding_lines left
  pub reports : hide_report_from 1 all ≡ taken.reported.items ++ hide_report_from number left

pub begins : (all : List (List ℕ)) (taken : Taken) → taken.lines.items ≡ [] → taken.reported.items ≡ [] → IsAt all all 1 taken
begins all taken none empty = record {
  hiding = ap (λ l. map hiding_seen l ++ hiding_lines all) (sym none);
  reports = ap (λ r. r ++ hide_report_from 1 all) (sym empty);
}

pub goes_on : (all left : List (List ℕ)) (line : List ℕ) (more : List (List ℕ)) (number : ℕ) (old new : Taken) (said : HideLine) → IsAt all left number old → left ≡ line ∷ more
    → said ≡ hide_line_of line → TakesIn number said old new → IsAt all more (number + 1) new
goes_on all left line more number old new said at cut reads takes = record {
  hiding =
      at.hiding ∙ ap (λ l. map hiding_seen old.lines.items ++ hiding_lines l) cut ∙ ap (λ l. map hiding_seen old.lines.items ++ l) (hiding_more line more)
      ∙ sym (append_assoc (map hiding_seen old.lines.items) (hiding_of (hiding_in (hide_line_of line))) (hiding_lines more))
      ∙ ap (λ (s : HideLine). (map hiding_seen old.lines.items ++ hiding_of (hiding_in s)) ++ hiding_lines more) (sym reads)
      ∙ ap (λ l. l ++ hiding_lines more) (sym takes.lines);
  reports =
      at.reports ∙ ap (λ l. old.reported.items ++ hide_report_from number l) cut
      ∙ sym (append_assoc old.reported.items (hide_report_of number (hide_reason_of (hide_line_of line))) (hide_report_from (number + 1) more))
      ∙ ap (λ (s : HideLine). (old.reported.items ++ hide_report_of number (hide_reason_of s)) ++ hide_report_from (number + 1) more) (sym reads)
      ∙ ap (λ l. l ++ hide_report_from (number + 1) more) (sym takes.reported);
}

pub ends_lines : (all left : List (List ℕ)) (number : ℕ) (taken : Taken) → IsAt all left number taken → left ≡ [] → map hiding_seen taken.lines.items ≡ hiding_lines all
ends_lines all left number taken at none = sym (at.hiding ∙ ap (λ l. map hiding_seen taken.lines.items ++ hiding_lines l) none ∙ append-nil _)

pub ends_report : (all left : List (List ℕ)) (number : ℕ) (taken : Taken) → IsAt all left number taken → left ≡ [] → taken.reported.items ≡ hide_report all
unfolding hide_report
ends_report all left number taken at none = sym (at.reports ∙ ap (λ l. taken.reported.items ++ hide_report_from number l) none ∙ append-nil _)
