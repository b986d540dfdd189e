-- What is kept of rules, so that no update asks for a pass over them.
use Rattle.std.specs.Prelude.{◌≡◌, List, map}
use Rattle.std.specs.List.Sorted.{IsPermutation}
use Rattle.rule_spec.specs.Rule.{Rule}
use Rattle.rule_ids.specs.Counted.{counts_of, known_of}
use Rattle.rule_ids.specs.declared.counts.Counts.{Counts}
use Rattle.rule_ids.specs.declared.known_rule.KnownRule.{KnownRule}
use Rattle.rule_segments.specs.Segments.{Segment, live_among, AreHalfLive, AreTapered}

-- what is known and the counts are those of the rules
pub record AreHeld (rules : List Rule) (by_id : List KnownRule) (number : Counts) : Type 0 where
  pub known : IsPermutation (map known_of rules) by_id
  pub counts : number ≡ counts_of rules

-- the counts are those of the live rules, the segments taper, and each is half live
pub record AreListed (segments : List Segment) (number : Counts) : Type 0 where
  pub counts : number ≡ counts_of (live_among segments)
  pub taper : AreTapered segments
  pub half : AreHalfLive segments
