use Rattle.std.proofs.Common.{◌≡◌, drop}
use Rattle.hide_rules.specs.Ends.{applies_by}
use Rattle.hide_rules.specs.Texts.{texts_of}
use Rattle.hide_rules.proofs.applies.applies.Given as goal

abbrev pub invariant-loop-domain : goal.invariant-loop-domain
invariant-loop-domain l = applies_by (texts_of l.domains) l.entries ≡ applies_by (drop l.domain-index (texts_of l.domains)) l.entries
