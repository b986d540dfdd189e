use Rattle.std.proofs.Common.{◌≡◌, ◌++◌, map, take}
use Rattle.hide_rules.specs.Listings.{lines_at}
use Rattle.hide_rules.specs.Seen.{hiding_seen, lines_seen}
use Rattle.hide_rules.proofs.candidates.push_lines.Given as goal

abbrev pub invariant-loop-place : goal.invariant-loop-place
invariant-loop-place l = lines_seen l.found.items ≡ lines_seen l.initial.found.items ++ lines_at (map hiding_seen l.lines) (take l.place-index l.places)
