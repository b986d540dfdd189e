-- The examples of rules are computed.
use Rattle.std.specs.Prelude.{refl}
use Rattle.std.specs.Str.{is_utf8}
use Rattle.url.proofs.OnLiterals.{url_on_literals}
use Rattle.serde_json.proofs.OnLiterals.{serde_json_on_literals}
use Rattle.dnr_spec.specs.Headers.{is_name, is_appendable}
use Rattle.json_spec.specs.RuleFields.{field_in, absent_in, old_list_in, fields_in}
use Rattle.json_spec.specs.RuleAction.{part_in, transform_in, extension_in, url_in, substitution_in, redirect_in, changes_at, ops_in, modify_in, action_in}
use Rattle.json_spec.specs.ReadRule.{domains_in, filters_in, domain_lists_in, lists_in, numbers_in, frames_in, header_tests_in, tabs_in, rule_in, read_rules}
use Rattle.json_spec.specs.Examples.{FieldsAreRead, OldNamesStandAlone, HeadComesInOrder, FieldsComeBeforeFilters, ListsComeInOrder, SessionRulesNameTabs, AllowAllListsFrames, RedirectsHaveForms, HeaderChangesHaveForms, SecondOfAnIdIsNamed, TestsAreRead, TestsComeInOrder}

pub fields_are_read : FieldsAreRead
unfolding url_on_literals serde_json_on_literals is_utf8 field_in absent_in old_list_in fields_in part_in transform_in extension_in url_in substitution_in redirect_in changes_at ops_in modify_in action_in domains_in filters_in domain_lists_in lists_in numbers_in frames_in header_tests_in tabs_in rule_in read_rules is_name is_appendable
fields_are_read = refl

pub old_names_stand_alone : OldNamesStandAlone
unfolding url_on_literals serde_json_on_literals is_utf8 field_in absent_in old_list_in fields_in part_in transform_in extension_in url_in substitution_in redirect_in changes_at ops_in modify_in action_in domains_in filters_in domain_lists_in lists_in numbers_in frames_in header_tests_in tabs_in rule_in read_rules is_name is_appendable
old_names_stand_alone = (refl, refl)

pub head_comes_in_order : HeadComesInOrder
unfolding url_on_literals serde_json_on_literals is_utf8 field_in absent_in old_list_in fields_in part_in transform_in extension_in url_in substitution_in redirect_in changes_at ops_in modify_in action_in domains_in filters_in domain_lists_in lists_in numbers_in frames_in header_tests_in tabs_in rule_in read_rules is_name is_appendable
head_comes_in_order = (refl, refl, refl, refl)

pub fields_come_before_filters : FieldsComeBeforeFilters
unfolding url_on_literals serde_json_on_literals is_utf8 field_in absent_in old_list_in fields_in part_in transform_in extension_in url_in substitution_in redirect_in changes_at ops_in modify_in action_in domains_in filters_in domain_lists_in lists_in numbers_in frames_in header_tests_in tabs_in rule_in read_rules is_name is_appendable
fields_come_before_filters = (refl, refl, refl, refl)

pub lists_come_in_order : ListsComeInOrder
unfolding url_on_literals serde_json_on_literals is_utf8 field_in absent_in old_list_in fields_in part_in transform_in extension_in url_in substitution_in redirect_in changes_at ops_in modify_in action_in domains_in filters_in domain_lists_in lists_in numbers_in frames_in header_tests_in tabs_in rule_in read_rules is_name is_appendable
lists_come_in_order = (refl, refl, refl, refl)

pub session_rules_name_tabs : SessionRulesNameTabs
unfolding url_on_literals serde_json_on_literals is_utf8 field_in absent_in old_list_in fields_in part_in transform_in extension_in url_in substitution_in redirect_in changes_at ops_in modify_in action_in domains_in filters_in domain_lists_in lists_in numbers_in frames_in header_tests_in tabs_in rule_in read_rules is_name is_appendable
session_rules_name_tabs = refl

pub allow_all_lists_frames : AllowAllListsFrames
unfolding url_on_literals serde_json_on_literals is_utf8 field_in absent_in old_list_in fields_in part_in transform_in extension_in url_in substitution_in redirect_in changes_at ops_in modify_in action_in domains_in filters_in domain_lists_in lists_in numbers_in frames_in header_tests_in tabs_in rule_in read_rules is_name is_appendable
allow_all_lists_frames = (refl, refl, refl)

pub redirects_have_forms : RedirectsHaveForms
unfolding url_on_literals serde_json_on_literals is_utf8 field_in absent_in old_list_in fields_in part_in transform_in extension_in url_in substitution_in redirect_in changes_at ops_in modify_in action_in domains_in filters_in domain_lists_in lists_in numbers_in frames_in header_tests_in tabs_in rule_in read_rules is_name is_appendable
redirects_have_forms = (refl, refl, refl, refl, refl)

pub header_changes_have_forms : HeaderChangesHaveForms
unfolding url_on_literals serde_json_on_literals is_utf8 field_in absent_in old_list_in fields_in part_in transform_in extension_in url_in substitution_in redirect_in changes_at ops_in modify_in action_in domains_in filters_in domain_lists_in lists_in numbers_in frames_in header_tests_in tabs_in rule_in read_rules is_name is_appendable
header_changes_have_forms = (refl, refl, refl)

pub second_of_an_id_is_named : SecondOfAnIdIsNamed
unfolding url_on_literals serde_json_on_literals is_utf8 field_in absent_in old_list_in fields_in part_in transform_in extension_in url_in substitution_in redirect_in changes_at ops_in modify_in action_in domains_in filters_in domain_lists_in lists_in numbers_in frames_in header_tests_in tabs_in rule_in read_rules is_name is_appendable
second_of_an_id_is_named = (refl, refl, refl)

pub tests_are_read : TestsAreRead
unfolding url_on_literals serde_json_on_literals is_utf8 field_in absent_in old_list_in fields_in part_in transform_in extension_in url_in substitution_in redirect_in changes_at ops_in modify_in action_in domains_in filters_in domain_lists_in lists_in numbers_in frames_in header_tests_in tabs_in rule_in read_rules is_name is_appendable
tests_are_read = refl

pub tests_come_in_order : TestsComeInOrder
unfolding url_on_literals serde_json_on_literals is_utf8 field_in absent_in old_list_in fields_in part_in transform_in extension_in url_in substitution_in redirect_in changes_at ops_in modify_in action_in domains_in filters_in domain_lists_in lists_in numbers_in frames_in header_tests_in tabs_in rule_in read_rules is_name is_appendable
tests_come_in_order = (refl, refl, refl, refl)
