-- The examples of `follow` are computed.
use Rattle.std.specs.Prelude.{refl}
use Rattle.std.specs.Str.{is_utf8}
use Rattle.url.proofs.OnLiterals.{url_on_literals}
use Rattle.serde_json.proofs.OnLiterals.{serde_json_on_literals}
use Rattle.rule_spec.specs.Scan.{scan}
use Rattle.json_spec.specs.RuleFields.{field_in, absent_in, old_list_in, fields_in}
use Rattle.line_spec.specs.RequestLine.{url_in, initiator_in, kind_in, method_in, tab_in, frame_in, headers_in, as_header, request_in}
use Rattle.line_spec.specs.Line.{command_in, command_of}
use Rattle.line_spec.specs.RequestLine as line
use Rattle.json_spec.specs.RuleAction as action
use Rattle.json_spec.specs.RuleAction.{part_in, transform_in, extension_in, substitution_in, redirect_in, changes_at, ops_in, modify_in, action_in}
use Rattle.json_spec.specs.ReadRule.{domains_in, filters_in, domain_lists_in, lists_in, numbers_in, frames_in, header_tests_in, tabs_in, rule_in, read_rules}
use Rattle.update_spec.specs.Judge.{judge_update}
use Rattle.follow_spec.specs.Trace.{trace_from}
use Rattle.session_spec.specs.FollowExamples.{FollowTakesTwoFileNames, TracesAreListed, FollowExplainsNothing, HopsOfFaultsAreNamed}

pub follow_takes_two_file_names : FollowTakesTwoFileNames
follow_takes_two_file_names = (refl, refl, refl)

pub traces_are_listed : TracesAreListed
unfolding field_in absent_in old_list_in fields_in part_in transform_in extension_in action.url_in substitution_in redirect_in changes_at ops_in modify_in action_in domains_in filters_in domain_lists_in lists_in numbers_in frames_in header_tests_in tabs_in rule_in read_rules url_in initiator_in kind_in method_in tab_in frame_in line.frames_in as_header headers_in request_in command_in command_of url_on_literals serde_json_on_literals is_utf8 scan judge_update trace_from
traces_are_listed = (refl, refl, refl)

pub follow_explains_nothing : FollowExplainsNothing
unfolding field_in absent_in old_list_in fields_in part_in transform_in extension_in action.url_in substitution_in redirect_in changes_at ops_in modify_in action_in domains_in filters_in domain_lists_in lists_in numbers_in frames_in header_tests_in tabs_in rule_in read_rules url_in initiator_in kind_in method_in tab_in frame_in line.frames_in as_header headers_in request_in command_in command_of url_on_literals serde_json_on_literals is_utf8 scan judge_update trace_from
follow_explains_nothing = refl

pub hops_of_faults_are_named : HopsOfFaultsAreNamed
unfolding url_on_literals serde_json_on_literals
hops_of_faults_are_named = refl
