use Rattle.std.proofs.Common.{take}
use Rattle.hide_rules.specs.Seen.{lines_seen}
use Rattle.hide_rules.specs.Selectors.{HasSelectors}
use Rattle.hide_rules.specs.Texts.{texts_of}
use Rattle.hide_rules.proofs.selectors.selectors_of.Given as goal

abbrev pub invariant-loop-line : goal.invariant-loop-line
invariant-loop-line l = HasSelectors l.exception (texts_of l.domains) (take l.line-index (lines_seen l.lines)) l.set
