use Rattle.std.proofs.Common.{◌≡◌, map, take}
use Rattle.std.specs.Prelude.{filter}
use Rattle.hide_rules.specs.Listings.{is_general}
use Rattle.hide_rules.specs.Seen.{hiding_seen, lines_seen}
use Rattle.hide_rules.proofs.index.general_lines.Given as goal

abbrev pub invariant-loop-line : goal.invariant-loop-line
invariant-loop-line l = lines_seen l.general.items ≡ filter is_general (take l.line-index (map hiding_seen l.lines))
