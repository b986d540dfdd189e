use Rattle.std.proofs.Common.{◌≡◌, ◌++◌, map, string_bytes, string_cmp}
use Rattle.std.specs.Prelude.{filter}
use Rattle.std.specs.BTreeSet.{union}
use Rattle.hide_rules.specs.Index.{is_shown}
use Rattle.hide_rules.proofs.page.merged.Given as goal

abbrev pub invariant-loop-selector : goal.invariant-loop-selector
invariant-loop-selector l =
    l.texts.items ++ filter (is_shown l.index l.kept) (map string_bytes l.selector-iterator) ≡ filter (is_shown l.index l.kept) (map string_bytes (union string_cmp l.index.hidden l.hidden))
