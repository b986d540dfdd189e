-- What `hide` prints: a line for each line of the list that is for hiding and is not used, and then what a page hides.
use Rattle.std.specs.Prelude.{◌≡◌, ℕ, ◌<◌, ◌≤◌, List, ◌++◌, length, map, codes, decimal}
use Rattle.json.specs.Print.{quoted}
use Rattle.list_spec.specs.LineKind.{lines_of}
use Rattle.hide_spec.specs.declared.hide_reported.HideReported.{HideReported}
use Rattle.hide_spec.specs.Code.{hide_code}
use Rattle.hide_spec.specs.Hidden.{hidden, hiding_lines, max_hiding}
use Rattle.hide_spec.specs.Report.{hide_report}
use Rattle.load_spec.specs.Files.{Files, HoldsFile}
use Rattle.session_spec.specs.Output.{list_text}
use Rattle.session_spec.specs.Refusals.{each_line, too_many_rules, list_line}

-- ---- lines

abbrev pub unhidden_line : HideReported → List ℕ
unhidden_line one =
    codes "{\"line\":" ++ (decimal one.line ++ (codes ",\"unsupported\":\"" ++ (hide_code one.reason ++ codes "\"}\n")))

abbrev pub unhidden_lines : List HideReported → List ℕ
unhidden_lines reported = each_line unhidden_line reported

abbrev pub selectors_line : List ℕ → List (List ℕ) → List ℕ
selectors_line host selectors =
    codes "{\"host\":" ++ (quoted host ++ (codes ",\"selectors\":" ++ (list_text (map quoted selectors) ++ codes "}\n")))

abbrev pub hidden_text : List (List ℕ) → List ℕ → List ℕ
hidden_text lines host = unhidden_lines (hide_report lines) ++ selectors_line host (hidden lines host)

-- ---- files

-- the file is a list with no more lines for hiding than a list may have, and this is what a page of the host hides
pub record IsHidden (files : Files) (name host output : List ℕ) : Type 0 where
  pub bytes : List ℕ
  pub file : HoldsFile files name bytes
  pub few : length (hiding_lines (lines_of bytes)) ≤ max_hiding
  pub same : output ≡ hidden_text (lines_of bytes) host

-- the file is a list with more of them, and this line says so
pub record HidesTooMuch (files : Files) (name line : List ℕ) : Type 0 where
  pub bytes : List ℕ
  pub file : HoldsFile files name bytes
  pub beyond : max_hiding < length (hiding_lines (lines_of bytes))
  pub same : line ≡ list_line name (too_many_rules (length (hiding_lines (lines_of bytes))))
