use Rattle.std.proofs.Common.{map, take}
use Rattle.hide_rules.specs.Seen.{hiding_seen}
use Rattle.hide_rules.proofs.Filed.{FindsUnlistedOf}
use Rattle.hide_rules.proofs.index.unlisted_of.Given as goal

abbrev pub invariant-loop-place : goal.invariant-loop-place
invariant-loop-place l = FindsUnlistedOf (map hiding_seen l.lines) (take l.place (map hiding_seen l.lines)) l.unlisted.items
