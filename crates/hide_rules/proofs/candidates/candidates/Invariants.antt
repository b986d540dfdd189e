use Rattle.std.proofs.Common.{◌≡◌, ◌++◌, map, drop}
use Rattle.hide_rules.specs.Index.{found_for, listed_at}
use Rattle.hide_rules.specs.Seen.{hiding_seen, lines_seen}
use Rattle.hide_rules.specs.Texts.{texts_of}
use Rattle.hide_rules.proofs.candidates.candidates.Given as goal

abbrev pub invariant-loop-domain : goal.invariant-loop-domain
invariant-loop-domain l =
    lines_seen l.found.items ++ listed_at (map hiding_seen l.lines) l.index.listings (drop l.domain-index (texts_of l.domains))
    ≡ found_for (map hiding_seen l.lines) l.index (texts_of l.domains)
