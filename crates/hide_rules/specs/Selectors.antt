-- The selectors of those lines that are for a page.
use Rattle.std.specs.Prelude.{◌≡◌, ℕ, List, Bool, not, ◌&&◌, ◌||◌, String, if◌then◌else◌}
use Rattle.std.specs.BTreeSet.{BTreeSet, contains_text}
use Rattle.std.specs.List.{list_any}
use Rattle.std.specs.Str.{bytes_eq}
use Rattle.std.specs.declared.alloc.Global.{Global}
use Rattle.hide_spec.specs.HidingLine.{HidingLine}
use Rattle.hide_rules.specs.Ends.{applies_by}

-- an exception, or else a line that hides elements
abbrev pub is_kind : Bool → HidingLine → Bool
is_kind exception line = if exception then line.exception else not line.exception

-- a line of this kind is for these pages and has the selector
abbrev pub speaks_of : Bool → List (List ℕ) → List ℕ → HidingLine → Bool
speaks_of exception domains selector line = is_kind exception line && applies_by domains line.domains && bytes_eq line.selector selector

-- the set has the selectors of such lines
abbrev pub HasSelectors : Bool → List (List ℕ) → List HidingLine → BTreeSet (String Global) → Type 0
HasSelectors exception domains lines set = (selector : List ℕ) → contains_text set selector ≡ list_any (speaks_of exception domains selector) lines

-- the new set has the selector of the line too, if that is such a line
abbrev pub PutsIn : Bool → List (List ℕ) → HidingLine → BTreeSet (String Global) → BTreeSet (String Global) → Type 0
PutsIn exception domains line old new =
    (selector : List ℕ) → contains_text new selector ≡ (contains_text old selector || speaks_of exception domains selector line)
