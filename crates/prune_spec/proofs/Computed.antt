-- The examples are computed.
use Rattle.std.specs.Prelude.{refl}
use Rattle.prune_spec.specs.Examples.{StrongestOfThreeIsKept, FirstOfTwoEqualRulesIsKept, EachRefusalOfAProof, KeeperOfAChainStays}

pub strongest_of_three_is_kept : StrongestOfThreeIsKept
strongest_of_three_is_kept = (refl, refl)

pub first_of_two_equal_rules_is_kept : FirstOfTwoEqualRulesIsKept
first_of_two_equal_rules_is_kept = (refl, refl, refl)

pub each_refusal_of_a_proof : EachRefusalOfAProof
each_refusal_of_a_proof = (refl, refl, refl, refl, refl)

pub keeper_of_a_chain_stays : KeeperOfAChainStays
keeper_of_a_chain_stays = (refl, refl)
