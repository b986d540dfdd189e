-- What a list of removals leaves of a list of rules and what it must show, and which removals are
-- looked for. The ids of the rules differ; removals name rules by them.
use Rattle.std.specs.Prelude.{◌≡◌, ℕ, ◌+◌, List, [], ◌∷◌, ◌++◌, filter, Bool, false, not, ◌==◌, ◌&&◌, ◌||◌, Option, Some, None, is_some, Result, Ok, Err, if◌then◌else◌}
use Rattle.std.specs.List.{list_any, find}
use Rattle.rule_spec.specs.Rule.{Rule}
use Rattle.prune_spec.specs.Shadows.{shadows}
use Rattle.prune_spec.specs.declared.shadow.Shadow.{Shadow}
use Rattle.prune_spec.specs.declared.check_refusal.CheckRefusal.{CheckRefusal}
use Rattle.prune_spec.specs.declared.check_refusal.CheckRefusal.TheVariants.{UnknownId, RemovedTwice, KeeperRemoved, NotShadowed}

-- the most rules in which needless ones are looked for
abbrev pub max_rules : ℕ
max_rules = 10000

-- ---- ids

-- some rule has this id
abbrev pub has_id : List Rule → ℕ → Bool
has_id rules id = list_any (λ rule. rule.id == id) rules

-- no two of the rules have one id
abbrev pub IdsDiffer : List Rule → Type 0
IdsDiffer [] = Unit {0}
IdsDiffer (rule ∷ rules) = (has_id rules rule.id ≡ false) × IdsDiffer rules

-- the rule of this id, if there is one
abbrev pub rule_of : List Rule → ℕ → Option Rule
rule_of rules id = find (λ rule. rule.id == id) rules

-- ---- what a list of removals leaves

-- some entry removes the rule of this id
abbrev pub is_removed : List Shadow → ℕ → Bool
is_removed proof id = list_any (λ one. one.removed == id) proof

-- the rules that no entry removes, in their order
abbrev pub rest_of : List Rule → List Shadow → List Rule
rest_of rules proof = filter (λ rule. not (is_removed proof rule.id)) rules

-- ---- what it must show

-- both ids of an entry are those of rules
abbrev pub is_known : List Rule → Shadow → Bool
is_known rules one = is_some (rule_of rules one.removed) && is_some (rule_of rules one.by)

abbrev pub is_shadowed : Option Rule → Option Rule → Bool
is_shadowed None s = false
is_shadowed (Some k) None = false
is_shadowed (Some k) (Some s) = shadows k s

-- the rule that an entry keeps makes the other needless
abbrev pub holds_true : List Rule → Shadow → Bool
holds_true rules one = is_shadowed (rule_of rules one.by) (rule_of rules one.removed)

-- what is at fault with an entry of a proof, which stands at this place behind the earlier ones
abbrev pub fault_of : List Rule → List Shadow → List Shadow → ℕ → Shadow → Option CheckRefusal
fault_of rules proof earlier place one =
    if not (is_known rules one) then Some (UnknownId place)
    else (if is_removed earlier one.removed then Some (RemovedTwice place)
    else (if is_removed proof one.by then Some (KeeperRemoved place)
    else (if not (holds_true rules one) then Some (NotShadowed place) else None)))

abbrev pub or_later : Option CheckRefusal → Option CheckRefusal → Option CheckRefusal
or_later None later = later
or_later (Some refusal) later = Some refusal

-- the first fault of the entries behind the earlier ones, of which the first stands at this place
abbrev pub first_fault : List Rule → List Shadow → List Shadow → ℕ → List Shadow → Option CheckRefusal
first_fault rules proof earlier place [] = None
first_fault rules proof earlier place (one ∷ others) =
    or_later (fault_of rules proof earlier place one)
    (first_fault rules proof (earlier ++ one ∷ []) (place + 1) others)

abbrev pub unless_at_fault : List Rule → Option CheckRefusal → Result (List Rule) CheckRefusal
unless_at_fault rest None = Ok rest
unless_at_fault rest (Some refusal) = Err refusal

-- what a proof leaves, or its first fault
abbrev pub checked : List Rule → List Shadow → Result (List Rule) CheckRefusal
checked rules proof = unless_at_fault (rest_of rules proof) (first_fault rules proof [] 0 proof)

-- ---- which rules are needless

-- of these two rules k stands earlier in the list
abbrev pub stands_earlier : List Rule → Rule → Rule → Bool
stands_earlier [] k s = false
stands_earlier (rule ∷ rules) k s =
    not (rule.id == s.id) && (rule.id == k.id || stands_earlier rules k s)

-- k makes s needless, and s does not make k needless or stands behind it
abbrev pub outdoes : List Rule → Rule → Rule → Bool
outdoes rules k s = shadows k s && (not (shadows s k) || stands_earlier rules k s)

-- some rule of the list outdoes this one
abbrev pub is_needless : List Rule → Rule → Bool
is_needless rules s = list_any (λ k. outdoes rules k s) rules

-- the rules that are left, in their order
abbrev pub kept : List Rule → List Rule
kept rules = filter (λ rule. not (is_needless rules rule)) rules

-- a needless rule goes by the rule that outdoes it
abbrev pub named_by : Rule → Option Rule → List Shadow
named_by s None = []
named_by s (Some k) = record { removed = s.id; by = k.id } ∷ []

-- of each of the needless rules, the first keeper that outdoes it
abbrev pub removals_from : List Rule → List Rule → List Rule → List Shadow
removals_from rules keepers [] = []
removals_from rules keepers (s ∷ others) =
    named_by s (find (λ k. outdoes rules k s) keepers) ++ removals_from rules keepers others

-- the removals of a list, in its order: each needless rule by the first rule that is kept and
-- outdoes it
abbrev pub removals : List Rule → List Shadow
removals rules = removals_from rules (kept rules) (filter (is_needless rules) rules)
