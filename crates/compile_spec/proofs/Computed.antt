-- The examples are computed.
use Rattle.std.specs.Prelude.{refl}
use Rattle.regex.proofs.OnLiterals.{regex_on_literals}
use Rattle.dnr_spec.specs.Patterns.{groups_of, pattern_in}
use Rattle.compile_spec.specs.Compiled.{compiled}
use Rattle.compile_spec.specs.Report.{report}
use Rattle.compile_spec.specs.Examples.{RulesOfAList, ReportOfAList, NoTypeGivesNoRule, PageAloneGivesNoAllow, OneRuleWhereNothingIsNested, NestedDomainsStandAlone, AlikeFiltersStandAsOne, HostsAscendAndStandOnce, InitiatorsAreASet, ExceptionsStandWithExceptions, OtherPatternsStandAlone}

pub rules_of_a_list : RulesOfAList
unfolding compiled groups_of pattern_in regex_on_literals
rules_of_a_list = refl

pub report_of_a_list : ReportOfAList
unfolding report groups_of pattern_in regex_on_literals
report_of_a_list = refl

pub no_type_gives_no_rule : NoTypeGivesNoRule
unfolding compiled
no_type_gives_no_rule = refl

pub page_alone_gives_no_allow : PageAloneGivesNoAllow
unfolding compiled
page_alone_gives_no_allow = (refl, refl)

pub one_rule_where_nothing_is_nested : OneRuleWhereNothingIsNested
unfolding compiled
one_rule_where_nothing_is_nested = (refl, refl)

pub nested_domains_stand_alone : NestedDomainsStandAlone
unfolding compiled
nested_domains_stand_alone = (refl, refl)

pub alike_filters_stand_as_one : AlikeFiltersStandAsOne
unfolding compiled
alike_filters_stand_as_one = refl

pub hosts_ascend_and_stand_once : HostsAscendAndStandOnce
unfolding compiled
hosts_ascend_and_stand_once = refl

pub initiators_are_a_set : InitiatorsAreASet
unfolding compiled
initiators_are_a_set = refl

pub exceptions_stand_with_exceptions : ExceptionsStandWithExceptions
unfolding compiled
exceptions_stand_with_exceptions = refl

pub other_patterns_stand_alone : OtherPatternsStandAlone
unfolding compiled
other_patterns_stand_alone = (refl, refl, refl)
