-- The program's types, as those of the definitions.
use Rattle.std.specs.Prelude.{List, map}
use Rattle.std.specs.Borrow.{Bor}
use Rattle.hide_spec.specs.HidingLine as spec
use Rattle.hide_rules.specs.declared.line.HidingLine.{HidingLine}
use Rattle.hide_rules.specs.declared.line.Line.{Line}
use Rattle.hide_rules.specs.declared.line.Line.TheVariants.{Other, Hiding, Unsupported}

abbrev pub hiding_seen : HidingLine → spec.HidingLine
hiding_seen line = record { exception = line.exception; domains = line.domains.items; selector = line.selector }

-- lines that are lent
abbrev pub lines_seen : List (Bor HidingLine) → List spec.HidingLine
lines_seen lent = map (λ line. hiding_seen line.now) lent

abbrev pub line_seen : Line → spec.HideLine
line_seen Other = spec.other
line_seen (Hiding line) = spec.hiding (hiding_seen line)
line_seen (Unsupported reason) = spec.unsupported reason
