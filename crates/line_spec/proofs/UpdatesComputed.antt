-- The examples of updates are computed.
use Rattle.std.proofs.Common.{inl, inr}
use Rattle.std.specs.Prelude.{refl}
use Rattle.std.specs.Str.{is_utf8}
use Rattle.url.proofs.OnLiterals.{url_on_literals}
use Rattle.serde_json.proofs.OnLiterals.{serde_json_on_literals}
use Rattle.dnr_spec.specs.Headers.{is_name, is_appendable}
use Rattle.json_spec.specs.RuleFields.{field_in, absent_in, old_list_in, fields_in}
use Rattle.json_spec.specs.RuleAction.{part_in, transform_in, extension_in, url_in, substitution_in, redirect_in, changes_at, ops_in, modify_in, action_in}
use Rattle.json_spec.specs.ReadRule.{domains_in, filters_in, domain_lists_in, lists_in, numbers_in, frames_in, header_tests_in, tabs_in, rule_in, read_rules}
use Rattle.line_spec.specs.Updates.{text_in, texts_in, wholes_in, remove_in, add_in, set_id_in, enabled_in, set_rules_in, set_in, sets_in, access_in, replacing_in, rulesets_in, static_in, new_name_in, install_in, uninstall_in}
use Rattle.line_spec.specs.Batch.{element_in, batch_in}
use Rattle.line_spec.specs.Line.{command_in, command_of}
use Rattle.line_spec.specs.UpdateExamples.{UpdatesAreRead, ExtensionsAreInstalled, FirstUpdateFieldAtFaultIsNamed, IdsToRemoveAreRuleIds, IdsToSwitchAreWhole, RefusedRulesHavePlaces, RefusedRulesHaveRulesets, BatchesAreReadInTurn, BatchesHaveALimit, HostsFailAtPatterns, first_rule}

pub updates_are_read : UpdatesAreRead
unfolding url_on_literals serde_json_on_literals is_utf8 is_name is_appendable field_in absent_in old_list_in fields_in part_in transform_in extension_in url_in substitution_in redirect_in changes_at ops_in modify_in action_in domains_in filters_in domain_lists_in lists_in numbers_in frames_in header_tests_in tabs_in rule_in read_rules text_in texts_in wholes_in remove_in add_in set_id_in enabled_in set_rules_in set_in sets_in access_in replacing_in rulesets_in static_in new_name_in install_in uninstall_in element_in batch_in command_in command_of
updates_are_read = (refl, refl, refl, refl, refl, refl)

pub extensions_are_installed : ExtensionsAreInstalled
unfolding url_on_literals serde_json_on_literals is_utf8 is_name is_appendable field_in absent_in old_list_in fields_in part_in transform_in extension_in url_in substitution_in redirect_in changes_at ops_in modify_in action_in domains_in filters_in domain_lists_in lists_in numbers_in frames_in header_tests_in tabs_in rule_in read_rules text_in texts_in wholes_in remove_in add_in set_id_in enabled_in set_rules_in set_in sets_in access_in replacing_in rulesets_in static_in new_name_in install_in uninstall_in element_in batch_in command_in command_of
extensions_are_installed = (refl, refl)

pub first_update_field_at_fault_is_named : FirstUpdateFieldAtFaultIsNamed
unfolding url_on_literals serde_json_on_literals is_utf8 is_name is_appendable field_in absent_in old_list_in fields_in part_in transform_in extension_in url_in substitution_in redirect_in changes_at ops_in modify_in action_in domains_in filters_in domain_lists_in lists_in numbers_in frames_in header_tests_in tabs_in rule_in read_rules text_in texts_in wholes_in remove_in add_in set_id_in enabled_in set_rules_in set_in sets_in access_in replacing_in rulesets_in static_in new_name_in install_in uninstall_in element_in batch_in command_in command_of
first_update_field_at_fault_is_named = (refl, refl, refl, refl, refl, refl, refl)

pub ids_to_remove_are_rule_ids : IdsToRemoveAreRuleIds
unfolding url_on_literals serde_json_on_literals is_utf8 is_name is_appendable field_in absent_in old_list_in fields_in part_in transform_in extension_in url_in substitution_in redirect_in changes_at ops_in modify_in action_in domains_in filters_in domain_lists_in lists_in numbers_in frames_in header_tests_in tabs_in rule_in read_rules text_in texts_in wholes_in remove_in add_in set_id_in enabled_in set_rules_in set_in sets_in access_in replacing_in rulesets_in static_in new_name_in install_in uninstall_in element_in batch_in command_in command_of
ids_to_remove_are_rule_ids = (refl, refl, refl, refl)

pub ids_to_switch_are_whole : IdsToSwitchAreWhole
unfolding url_on_literals serde_json_on_literals is_utf8 is_name is_appendable field_in absent_in old_list_in fields_in part_in transform_in extension_in url_in substitution_in redirect_in changes_at ops_in modify_in action_in domains_in filters_in domain_lists_in lists_in numbers_in frames_in header_tests_in tabs_in rule_in read_rules text_in texts_in wholes_in remove_in add_in set_id_in enabled_in set_rules_in set_in sets_in access_in replacing_in rulesets_in static_in new_name_in install_in uninstall_in element_in batch_in command_in command_of
ids_to_switch_are_whole = (refl, refl)

pub refused_rules_have_places : RefusedRulesHavePlaces
unfolding url_on_literals serde_json_on_literals is_utf8 is_name is_appendable field_in absent_in old_list_in fields_in part_in transform_in extension_in url_in substitution_in redirect_in changes_at ops_in modify_in action_in domains_in filters_in domain_lists_in lists_in numbers_in frames_in header_tests_in tabs_in rule_in read_rules text_in texts_in wholes_in remove_in add_in set_id_in enabled_in set_rules_in set_in sets_in access_in replacing_in rulesets_in static_in new_name_in install_in uninstall_in element_in batch_in command_in command_of
refused_rules_have_places = (refl, refl, refl)

pub refused_rules_have_rulesets : RefusedRulesHaveRulesets
unfolding url_on_literals serde_json_on_literals is_utf8 is_name is_appendable field_in absent_in old_list_in fields_in part_in transform_in extension_in url_in substitution_in redirect_in changes_at ops_in modify_in action_in domains_in filters_in domain_lists_in lists_in numbers_in frames_in header_tests_in tabs_in rule_in read_rules text_in texts_in wholes_in remove_in add_in set_id_in enabled_in set_rules_in set_in sets_in access_in replacing_in rulesets_in static_in new_name_in install_in uninstall_in element_in batch_in command_in command_of
refused_rules_have_rulesets = (refl, refl, refl, refl, refl)

pub batches_are_read_in_turn : BatchesAreReadInTurn
unfolding url_on_literals serde_json_on_literals is_utf8 is_name is_appendable field_in absent_in old_list_in fields_in part_in transform_in extension_in url_in substitution_in redirect_in changes_at ops_in modify_in action_in domains_in filters_in domain_lists_in lists_in numbers_in frames_in header_tests_in tabs_in rule_in read_rules text_in texts_in wholes_in remove_in add_in set_id_in enabled_in set_rules_in set_in sets_in access_in replacing_in rulesets_in static_in new_name_in install_in uninstall_in element_in batch_in command_in command_of
batches_are_read_in_turn = (refl, refl, refl, refl, refl, refl)

pub batches_have_a_limit : BatchesHaveALimit
unfolding url_on_literals serde_json_on_literals is_utf8 is_name is_appendable field_in absent_in old_list_in fields_in part_in transform_in extension_in url_in substitution_in redirect_in changes_at ops_in modify_in action_in domains_in filters_in domain_lists_in lists_in numbers_in frames_in header_tests_in tabs_in rule_in read_rules text_in texts_in wholes_in remove_in add_in set_id_in enabled_in set_rules_in set_in sets_in access_in replacing_in rulesets_in static_in new_name_in install_in uninstall_in element_in batch_in command_in command_of
batches_have_a_limit = (refl, refl, refl, refl)

pub hosts_fail_at_patterns : HostsFailAtPatterns
unfolding url_on_literals serde_json_on_literals is_utf8 is_name is_appendable field_in absent_in old_list_in fields_in part_in transform_in extension_in url_in substitution_in redirect_in changes_at ops_in modify_in action_in domains_in filters_in domain_lists_in lists_in numbers_in frames_in header_tests_in tabs_in rule_in read_rules text_in texts_in wholes_in remove_in add_in set_id_in enabled_in set_rules_in set_in sets_in access_in replacing_in rulesets_in static_in new_name_in install_in uninstall_in element_in batch_in command_in command_of
hosts_fail_at_patterns = record {
  update = _;
  named = refl;
  stops = record {
    extension = _;
    named = refl;
    remove = _;
    removed = refl;
    stops = inr (first_rule, refl, inl (refl, record { numbers = refl; fields = refl; filters = (refl, refl) }));
  };
}
