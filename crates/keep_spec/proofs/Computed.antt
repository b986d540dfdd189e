-- The examples are computed.
use Rattle.std.specs.Prelude.{refl}
use Rattle.std.specs.Str.{is_utf8}
use Rattle.url.proofs.OnLiterals.{url_on_literals}
use Rattle.serde_json.proofs.OnLiterals.{serde_json_on_literals}
use Rattle.json_spec.specs.RuleFields.{field_in, absent_in, old_list_in, fields_in}
use Rattle.json_spec.specs.RuleAction.{part_in, transform_in, extension_in, url_in, substitution_in, redirect_in, changes_at, ops_in, modify_in, action_in}
use Rattle.json_spec.specs.ReadRule.{domains_in, filters_in, domain_lists_in, lists_in, numbers_in, frames_in, header_tests_in, tabs_in, rule_in, read_rules}
use Rattle.update_spec.specs.Judge.{judge_update}
use Rattle.line_spec.specs.RequestLine.{url_in as address_in, request_in}
use Rattle.line_spec.specs.Updates.{text_in, remove_in, add_in, replacing_in}
use Rattle.line_spec.specs.Line.{command_in, command_of}
use Rattle.keep_records.specs.Records.{number_of, number_bytes, payloads}
use Rattle.keep_spec.specs.Kept.{update_at, kept}
use Rattle.keep_spec.specs.Examples.{ShortFilesKeepNothing, RecordsKeepUpdates, OtherPayloadsAreNone, UpdatesAreAcceptedOnce}

pub short_files_keep_nothing : ShortFilesKeepNothing
unfolding number_of payloads kept
short_files_keep_nothing = (refl, refl, refl)

pub records_keep_updates : RecordsKeepUpdates
unfolding url_on_literals serde_json_on_literals is_utf8 field_in absent_in old_list_in fields_in part_in transform_in extension_in url_in substitution_in redirect_in changes_at ops_in modify_in action_in domains_in filters_in domain_lists_in lists_in numbers_in frames_in header_tests_in tabs_in rule_in read_rules text_in remove_in add_in replacing_in command_in command_of number_of number_bytes payloads update_at kept
records_keep_updates = (refl, refl, refl)

pub other_payloads_are_none : OtherPayloadsAreNone
unfolding url_on_literals serde_json_on_literals is_utf8 address_in request_in command_in command_of number_of payloads update_at
other_payloads_are_none = (refl, refl)

pub updates_are_accepted_once : UpdatesAreAcceptedOnce
unfolding judge_update
updates_are_accepted_once = (refl, refl)
