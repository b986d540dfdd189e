-- Examples of what a list can do without, each computed from the definitions alone.
use Rattle.std.specs.Prelude.{◌≡◌, ℕ, List, [], ◌∷◌, codes, Ok, Err}
use Rattle.rule_spec.specs.Rule.{block, allow, Rule}
use Rattle.rule_spec.specs.Examples.{rule_of}
use Rattle.prune_spec.specs.declared.shadow.Shadow.{Shadow}
use Rattle.prune_spec.specs.declared.check_refusal.CheckRefusal.TheVariants.{UnknownId, RemovedTwice, KeeperRemoved, NotShadowed}
use Rattle.prune_spec.specs.Pruned.{checked, kept, removals}

abbrev pub entry : ℕ → ℕ → Shadow
entry removed by = record { removed = removed; by = by }

-- ---- a stronger rule of the same domain

abbrev pub three_blocks : List Rule
three_blocks =
    rule_of 1 1 (codes "||a.com^") block
    ∷ rule_of 2 1 (codes "||x.a.com^") block
    ∷ rule_of 3 2 (codes "||a.com^") block
    ∷ []

-- The strongest of three is kept, and names the others' keeper.
abbrev pub StrongestOfThreeIsKept : Type 0
StrongestOfThreeIsKept =
    (removals three_blocks ≡ entry 1 3 ∷ entry 2 3 ∷ [])
    × (kept three_blocks ≡ rule_of 3 2 (codes "||a.com^") block ∷ [])

-- ---- equal rules

abbrev pub allow_of : ℕ → Rule
allow_of id = rule_of id 1 (codes "||a.com^") allow

abbrev pub block_of : ℕ → Rule
block_of id = rule_of id 1 (codes "||a.com^") block

abbrev pub two_equal : List Rule
two_equal = allow_of 1 ∷ block_of 2 ∷ block_of 3 ∷ []

-- The first of two equal rules is kept, and a rule of another action makes nothing needless.
abbrev pub FirstOfTwoEqualRulesIsKept : Type 0
FirstOfTwoEqualRulesIsKept =
    (removals two_equal ≡ entry 3 2 ∷ [])
    × (kept two_equal ≡ allow_of 1 ∷ block_of 2 ∷ [])
    × (checked two_equal (entry 2 1 ∷ []) ≡ Err (NotShadowed 0))

-- Either of two equal rules may go, and not both, nor one twice, nor one that is not there.
abbrev pub EachRefusalOfAProof : Type 0
EachRefusalOfAProof =
    (checked two_equal (entry 2 3 ∷ []) ≡ Ok (allow_of 1 ∷ block_of 3 ∷ []))
    × (checked two_equal (entry 2 3 ∷ entry 3 2 ∷ []) ≡ Err (KeeperRemoved 0))
    × (checked two_equal (entry 2 3 ∷ entry 2 3 ∷ []) ≡ Err (RemovedTwice 1))
    × (checked two_equal (entry 3 2 ∷ entry 1 9 ∷ []) ≡ Err (UnknownId 1))
    × (checked two_equal (entry 1 2 ∷ []) ≡ Err (NotShadowed 0))

-- ---- a rule in the shadow of one in the shadow of another

abbrev pub chain : List Rule
chain =
    rule_of 1 1 (codes "||x.y.a.com^") block
    ∷ rule_of 2 1 (codes "||y.a.com^") block
    ∷ rule_of 3 1 (codes "||a.com^") block
    ∷ rule_of 4 1 (codes "||ba.com^") block
    ∷ []

-- Each goes by a rule that stays, though the rule between them stands earlier; a domain is no part
-- of a longer label.
abbrev pub KeeperOfAChainStays : Type 0
KeeperOfAChainStays =
    (removals chain ≡ entry 1 3 ∷ entry 2 3 ∷ [])
    × (checked chain (entry 1 2 ∷ entry 2 3 ∷ []) ≡ Err (KeeperRemoved 0))
