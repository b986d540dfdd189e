-- What `check` looks up is what the definitions say of rules and of a proof.
use Rattle.std.proofs.Common.{◌≡◌, ℕ, List, Bool, not, ◌&&◌, Option, Some, None}
use Rattle.std.specs.Prelude.{is_some, if◌then◌else◌}
use Rattle.rule_spec.specs.Rule.{Rule}
use Rattle.prune_spec.specs.declared.shadow.Shadow.{Shadow}
use Rattle.prune_spec.specs.declared.check_refusal.CheckRefusal.TheVariants.{UnknownId, RemovedTwice, KeeperRemoved, NotShadowed}
use Rattle.prune_spec.specs.Pruned.{is_removed, rule_of, is_shadowed, fault_of}
use Rattle.rule_prune.specs.Known.{fault_by}

pub fault_told : (rules : List Rule) (proof earlier : List Shadow) (rule : ℕ → Option Rule) (removed before : ℕ → Bool) → ((id : ℕ) → rule id ≡ rule_of rules id)
    → ((id : ℕ) → removed id ≡ is_removed proof id) → ((id : ℕ) → before id ≡ is_removed earlier id) → (place : ℕ) (one : Shadow)
    → fault_by rule removed before place one ≡ fault_of rules proof earlier place one
fault_told rules proof earlier rule removed before tells all some place one =
    let s = tells one.removed in
    let k = tells one.by in
    let twice = some one.removed in
    let gone = all one.by in
    λ i.
    if not (is_some (s i) && is_some (k i)) then Some (UnknownId place)
    else (if twice i then Some (RemovedTwice place)
    else (if gone i then Some (KeeperRemoved place)
    else (if not (is_shadowed (k i) (s i)) then Some (NotShadowed place) else None)))
