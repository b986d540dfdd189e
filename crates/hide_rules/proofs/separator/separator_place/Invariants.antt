use Rattle.std.proofs.Common.{◌≡◌, drop}
use Rattle.hide_spec.specs.HidingLine.{separator_place}
use Rattle.hide_rules.proofs.Separators.{further}
use Rattle.hide_rules.proofs.separator.separator_place.Given as goal

abbrev pub invariant-loop-place : goal.invariant-loop-place
invariant-loop-place l = separator_place l.text ≡ further l.place (separator_place (drop l.place l.text))
