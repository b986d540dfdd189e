use Rattle.std.proofs.Common.{◌≡◌, take}
use Rattle.dnr_spec.specs.Hosts.{labels_of}
use Rattle.suffix_list.specs.Kept.{most, rules_at, is_matching_exception, is_matching_rule}
use Rattle.suffix_list.proofs.tables.longest_others.Given as goal

abbrev pub invariant-loop-place : goal.invariant-loop-place
invariant-loop-place l =
    (l.exceptions ≡ most (is_matching_exception (labels_of l.name)) (rules_at l.rules (take l.place-index l.others)))
    × (l.plain ≡ most (is_matching_rule (labels_of l.name)) (rules_at l.rules (take l.place-index l.others)))
