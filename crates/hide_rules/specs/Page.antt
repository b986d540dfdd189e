-- What pages hide that these domains cover.
use Rattle.std.specs.Prelude.{ℕ, List, map, filter, Bool, not, ◌&&◌}
use Rattle.std.specs.List.{list_any}
use Rattle.hide_spec.specs.HidingLine.{HidingLine}
use Rattle.hide_spec.specs.Hidden.{ascending}
use Rattle.hide_rules.specs.Ends.{applies_by}
use Rattle.hide_rules.specs.Selectors.{speaks_of}
use Rattle.std.specs.Prelude.{true}

-- an exception for these pages has the selector
abbrev pub is_kept : List (List ℕ) → List HidingLine → List ℕ → Bool
is_kept domains lines selector = list_any (speaks_of true domains selector) lines

-- a line hides elements on these pages, unless an exception keeps them there
abbrev pub hides_by : List (List ℕ) → List HidingLine → HidingLine → Bool
hides_by domains lines line = not line.exception && applies_by domains line.domains && not (is_kept domains lines line.selector)

-- the selectors of the lines that do
abbrev pub hidden_by : List (List ℕ) → List HidingLine → List (List ℕ)
hidden_by domains lines = ascending (map (λ line. line.selector) (filter (hides_by domains lines) lines))
