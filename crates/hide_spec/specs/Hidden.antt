-- Which elements a page hides: Adblock Plus, "How to write filters", "Element hiding".
use Rattle.std.specs.Prelude.{ℕ, List, [], map, fold, filter, length, Bool, not, ◌&&◌, ◌||◌, ◌==◌, nat_lt, nat_le, Option, Some, None}
use Rattle.std.specs.BTreeSet.{insert_key}
use Rattle.std.specs.Cmp.Lexicographic.{slice_cmp}
use Rattle.std.specs.List.{list_all, list_any, filter_map}
use Rattle.std.specs.Ordering.{nat_cmp}
use Rattle.std.specs.Str.{bytes_eq}
use Rattle.dnr_spec.specs.Hosts.{labels_of}
use Rattle.list_spec.specs.Says.{is_for}
use Rattle.hide_spec.specs.HidingLine.{HidingLine, HideLine, other, hiding, unsupported, hide_line_of}

-- ---- the lines of a list

abbrev pub hiding_in : HideLine → Option HidingLine
hiding_in other = None
hiding_in (hiding line) = Some line
hiding_in (unsupported reason) = None

-- those that hide elements or make an exception, in their order
abbrev pub hiding_lines : List (List ℕ) → List HidingLine
hiding_lines lines = filter_map (λ line. hiding_in (hide_line_of line)) lines

-- the most of them that a list may have
abbrev pub max_hiding : ℕ
max_hiding = 300000

-- ---- hosts of pages

-- a lower-case letter, a digit, `-` or `_`
abbrev pub is_host_byte : ℕ → Bool
is_host_byte b = (nat_le 97 b && nat_le b 122) || (nat_le 48 b && nat_le b 57) || b == 45 || b == 95

abbrev pub is_host_label : List ℕ → Bool
is_host_label label = nat_lt 0 (length label) && list_all is_host_byte label

-- labels with a dot between each two
abbrev pub is_page_host : List ℕ → Bool
is_page_host host = list_all is_host_label (labels_of host)

-- ---- what a page hides

-- A line is for the pages of a host where the longest of its domains that cover the host stands without `~`, and where
-- none covers it, unless some domain stands without `~`.
abbrev pub applies : List ℕ → HidingLine → Bool
applies host line = is_for line.domains (Some host)

-- an exception for the host has this selector
abbrev pub is_kept : List HidingLine → List ℕ → List ℕ → Bool
is_kept lines host selector = list_any (λ line. line.exception && applies host line && bytes_eq line.selector selector) lines

-- a line hides elements on pages of the host, unless an exception keeps them there
abbrev pub hides_on : List HidingLine → List ℕ → HidingLine → Bool
hides_on lines host line = not line.exception && applies host line && not (is_kept lines host line.selector)

-- in ascending order of their bytes, each once
abbrev pub ascending : List (List ℕ) → List (List ℕ)
ascending selectors = fold (insert_key (slice_cmp nat_cmp)) [] selectors

-- the selectors of the lines that hide elements on pages of the host
abbrev pub hidden_by : List HidingLine → List ℕ → List (List ℕ)
hidden_by lines host = ascending (map (λ line. line.selector) (filter (hides_on lines host) lines))

-- what a page of the host hides by the lines of a list
unfoldable pub hidden : List (List ℕ) → List ℕ → List (List ℕ)
hidden lines host = hidden_by (hiding_lines lines) host
