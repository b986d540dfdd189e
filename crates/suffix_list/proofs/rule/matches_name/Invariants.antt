use Rattle.std.proofs.Common.{◌≡◌, length}
use denote.Text.{Utf8}
use denote.Shadow.{shadow}
use Rattle.dnr_spec.specs.Hosts.{labels_of}
use Rattle.dnr_spec.specs.Suffixes.{matches}
use Rattle.suffix_list.proofs.rule.matches_name.Given as goal

abbrev pub invariant-loop-rule_front : goal.invariant-loop-rule_front
invariant-loop-rule_front l =
    shadow (Utf8 l.rule) × shadow (Utf8 l.name)
    × (matches (labels_of l.rule) (labels_of l.name) ≡ matches (labels_of l.text) (labels_of l.host))

abbrev pub decreases-loop-rule_front : goal.decreases-loop-rule_front
decreases-loop-rule_front l = length l.rule
