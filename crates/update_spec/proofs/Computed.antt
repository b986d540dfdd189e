-- The examples are computed.
use Rattle.std.specs.Prelude.{refl}
use Rattle.update_spec.specs.Judge.{judge_update}
use Rattle.update_spec.specs.Examples.{NamesAreJudged, EnablingComesLast, DisabledIdsStay, RemovalComesFirst, UnsafeRulesHaveALimit, BatchIsJudgedInTurn, BatchCountsOnce, OldestStandsFirst, NameIsInstalledOnce, EnabledRulesetsHaveALimit}

pub names_are_judged : NamesAreJudged
unfolding judge_update
names_are_judged = (refl, refl, refl, refl, refl)

pub enabling_comes_last : EnablingComesLast
unfolding judge_update
enabling_comes_last = (refl, refl)

pub disabled_ids_stay : DisabledIdsStay
unfolding judge_update
disabled_ids_stay = (refl, refl, refl)

pub removal_comes_first : RemovalComesFirst
unfolding judge_update
removal_comes_first = (refl, refl)

pub unsafe_rules_have_a_limit : UnsafeRulesHaveALimit
unfolding judge_update
unsafe_rules_have_a_limit = refl

pub batch_is_judged_in_turn : BatchIsJudgedInTurn
unfolding judge_update
batch_is_judged_in_turn = refl

pub batch_counts_once : BatchCountsOnce
unfolding judge_update
batch_counts_once = (refl, refl)

pub oldest_stands_first : OldestStandsFirst
unfolding judge_update
oldest_stands_first = refl

pub name_is_installed_once : NameIsInstalledOnce
unfolding judge_update
name_is_installed_once = refl

pub enabled_rulesets_have_a_limit : EnabledRulesetsHaveALimit
unfolding judge_update
enabled_rulesets_have_a_limit = (refl, refl)
