-- The walk over a list that finds its removals.
use Rattle.std.specs.Prelude.{List, [], if◌then◌else◌}
use Rattle.std.specs.List.{find}
use Rattle.rule_spec.specs.Rule.{Rule}
use Rattle.prune_spec.specs.declared.shadow.Shadow.{Shadow}
use Rattle.prune_spec.specs.Pruned.{outdoes, is_needless, kept, named_by}

-- the removal of a rule, if it is needless
abbrev pub removal_of : List Rule → Rule → List Shadow
removal_of rules s = if is_needless rules s then named_by s (find (λ k. outdoes rules k s) (kept rules)) else []
