-- What `check` keeps of rules and of a proof, to look ids up.
use Rattle.std.specs.Prelude.{◌≡◌, ℕ, List, Bool, not, ◌&&◌, Option, Some, None, is_some, option_map, if◌then◌else◌}
use Rattle.std.specs.Borrow.{Bor}
use Rattle.std.specs.Ordering.{nat_cmp}
use Rattle.std.specs.BTreeMap.{BTreeMap, get}
use Rattle.std.specs.BTreeSet.{BTreeSet, contains}
use Rattle.rule_spec.specs.Rule.{Rule}
use Rattle.prune_spec.specs.declared.shadow.Shadow.{Shadow}
use Rattle.prune_spec.specs.declared.check_refusal.CheckRefusal.{CheckRefusal}
use Rattle.prune_spec.specs.declared.check_refusal.CheckRefusal.TheVariants.{UnknownId, RemovedTwice, KeeperRemoved, NotShadowed}
use Rattle.prune_spec.specs.Pruned.{is_removed, rule_of, is_shadowed}

abbrev pub rule_in : BTreeMap ℕ (Bor Rule) → ℕ → Option Rule
rule_in table id = option_map (λ rule. rule.now) (get nat_cmp table id)

-- the table has each of the rules by its id
abbrev pub Tells : BTreeMap ℕ (Bor Rule) → List Rule → Type 0
Tells table rules = (id : ℕ) → rule_in table id ≡ rule_of rules id

-- the set has the ids that these entries remove
abbrev pub HasRemoved : BTreeSet ℕ → List Shadow → Type 0
HasRemoved ids entries = (id : ℕ) → contains nat_cmp ids id ≡ is_removed entries id

-- what is at fault with an entry, by how rules are found and which ids are removed
abbrev pub fault_by : (ℕ → Option Rule) → (ℕ → Bool) → (ℕ → Bool) → ℕ → Shadow → Option CheckRefusal
fault_by rule removed removed_before place one =
    if not (is_some (rule one.removed) && is_some (rule one.by)) then Some (UnknownId place)
    else (if removed_before one.removed then Some (RemovedTwice place)
    else (if removed one.by then Some (KeeperRemoved place)
    else (if not (is_shadowed (rule one.by) (rule one.removed)) then Some (NotShadowed place) else None)))
