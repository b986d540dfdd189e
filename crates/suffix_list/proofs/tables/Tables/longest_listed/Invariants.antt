use Rattle.std.proofs.Common.{◌≡◌, List, length}
use denote.Text.{Utf8}
use denote.Shadow.{shadow}
use Rattle.dnr_spec.specs.Hosts.{labels_of}
use Rattle.suffix_list.specs.declared.rule.Rule.{Rule}
use Rattle.suffix_list.specs.Kept.{AreTables, listed_len}
use Rattle.suffix_list.proofs.tables.Tables.longest_listed.Given as goal

abbrev pub invariant-loop-behind : goal.invariant-loop-behind
invariant-loop-behind l =
    shadow (Utf8 l.rest)
    × (l.count ≡ length (labels_of l.rest))
    × ((rules : List Rule) → AreTables rules l.self.plain.texts l.self.starred.texts l.self.others.items → listed_len (labels_of l.name) rules ≡ listed_len (labels_of l.rest) rules)

abbrev pub decreases-loop-behind : goal.decreases-loop-behind
decreases-loop-behind l = length l.rest
