use Rattle.std.proofs.Common.{◌≡◌, ◌≤◌, ◌-◌, ◌+◌, length, drop}
use denote.Text.{Utf8}
use denote.Shadow.{shadow}
use Rattle.dnr_spec.specs.Hosts.{labels_of}
use Rattle.suffix_list.proofs.names.labels_from.Given as goal

abbrev pub invariant-loop-left : goal.invariant-loop-left
invariant-loop-left l =
    shadow (Utf8 l.rest) × (l.left ≡ length (labels_of l.rest)) × (l.suffix + 1 ≤ l.left)
    × (drop (l.left - (l.suffix + 1)) (labels_of l.rest) ≡ drop (length (labels_of l.name) - (l.suffix + 1)) (labels_of l.name))
    × (l.suffix + 1 ≤ length (labels_of l.name))

abbrev pub decreases-loop-left : goal.decreases-loop-left
decreases-loop-left l = l.left
