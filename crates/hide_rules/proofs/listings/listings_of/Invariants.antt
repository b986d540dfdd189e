use Rattle.std.proofs.Common.{map, take}
use Rattle.hide_rules.specs.Listings.{FindsEach}
use Rattle.hide_rules.specs.Seen.{hiding_seen}
use Rattle.hide_rules.proofs.listings.listings_of.Given as goal

abbrev pub invariant-loop-place : goal.invariant-loop-place
invariant-loop-place l = FindsEach (map hiding_seen l.lines) (take l.place (map hiding_seen l.lines)) l.listings
