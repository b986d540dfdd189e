-- The examples are computed.
use Rattle.std.specs.Prelude.{refl, ℕ, zero, suc, [], ◌∷◌, codes, slice_get}
use Rattle.std.proofs.Common.{arith, inl}
use Rattle.std.specs.Str.{is_utf8}
use Rattle.url.proofs.OnLiterals.{url_on_literals}
use Rattle.serde_json.proofs.OnLiterals.{serde_json_on_literals}
use Rattle.rule_spec.specs.Scan.{scan}
use Rattle.json_spec.specs.RuleFields.{field_in, absent_in, old_list_in, fields_in}
use Rattle.line_spec.specs.RequestLine.{url_in, initiator_in, kind_in, method_in, tab_in, frame_in, headers_in, as_header, request_in}
use Rattle.line_spec.specs.Updates.{text_in, texts_in, wholes_in, remove_in, add_in, replacing_in, rulesets_in, static_in, uninstall_in}
use Rattle.line_spec.specs.Line.{command_in, command_of}
use Rattle.line_spec.specs.RequestLine as line
use Rattle.json_spec.specs.RuleAction.{part_in, transform_in, extension_in, substitution_in, redirect_in, changes_at, ops_in, modify_in, action_in}
use Rattle.json_spec.specs.ReadRule.{domains_in, filters_in, domain_lists_in, lists_in, numbers_in, frames_in, header_tests_in, tabs_in, rule_in, read_rules}
use Rattle.session_spec.specs.Examples.{NoRulesDecideNothing, MainFrameIsLeftAlone, AllowPrevailsAtEqualPriority, GreaterPriorityPrevails, SmallerIdPrevails, BlankLinesCount, MatchTakesNoUpdates, UpdatesAreJudgedInTurn, SyncEndsARound, CrAloneIsNoBlankLine, BrokenLinesAreBad, NullIsPresent, FractionIsNoId, LastValueOfAKeyCounts, SecondOfEqualIdsIsAtFault, FirstRuleAtFaultIsNamed, FilterIsRefusedWithItsReason, NestingHasALimit, MatchTakesTwoFileNames, CheckTakesAKind, CompileTakesAFile, ServeTakesOptions, ServeIsStrict, RefusedFilesSayWhy, RefusedInstallsSayWhy, UnsupportedLinesSayWhy, CompiledListsAreReported, TwoFilesAreServed, RulesAreCounted, UsageIsForBadWords}
use Rattle.compile_spec.specs.Compiled.{compiled}
use Rattle.compile_spec.specs.Report.{report}
use Rattle.update_spec.specs.Judge.{judge_update}
use Rattle.update_spec.specs.Update.{installed}
use Rattle.session_spec.specs.Answers.{HostRisesBy}
use Rattle.session_spec.specs.Out.{local, loaded_with}
use Rattle.session_spec.specs.Said.{nothing}
use Rattle.session_spec.specs.Examples.{no_fault}

pub no_rules_decide_nothing : NoRulesDecideNothing
unfolding field_in absent_in old_list_in fields_in part_in transform_in extension_in substitution_in redirect_in changes_at ops_in modify_in action_in domains_in filters_in domain_lists_in lists_in numbers_in frames_in header_tests_in tabs_in rule_in read_rules url_in initiator_in kind_in method_in tab_in frame_in line.frames_in as_header headers_in request_in command_in command_of url_on_literals serde_json_on_literals is_utf8 scan judge_update
no_rules_decide_nothing = refl

pub main_frame_is_left_alone : MainFrameIsLeftAlone
unfolding field_in absent_in old_list_in fields_in part_in transform_in extension_in substitution_in redirect_in changes_at ops_in modify_in action_in domains_in filters_in domain_lists_in lists_in numbers_in frames_in header_tests_in tabs_in rule_in read_rules url_in initiator_in kind_in method_in tab_in frame_in line.frames_in as_header headers_in request_in command_in command_of url_on_literals serde_json_on_literals is_utf8 scan judge_update
main_frame_is_left_alone = refl

pub allow_prevails_at_equal_priority : AllowPrevailsAtEqualPriority
unfolding field_in absent_in old_list_in fields_in part_in transform_in extension_in substitution_in redirect_in changes_at ops_in modify_in action_in domains_in filters_in domain_lists_in lists_in numbers_in frames_in header_tests_in tabs_in rule_in read_rules url_in initiator_in kind_in method_in tab_in frame_in line.frames_in as_header headers_in request_in command_in command_of url_on_literals serde_json_on_literals is_utf8 scan judge_update
allow_prevails_at_equal_priority = refl

pub greater_priority_prevails : GreaterPriorityPrevails
unfolding field_in absent_in old_list_in fields_in part_in transform_in extension_in substitution_in redirect_in changes_at ops_in modify_in action_in domains_in filters_in domain_lists_in lists_in numbers_in frames_in header_tests_in tabs_in rule_in read_rules url_in initiator_in kind_in method_in tab_in frame_in line.frames_in as_header headers_in request_in command_in command_of url_on_literals serde_json_on_literals is_utf8 scan judge_update
greater_priority_prevails = refl

pub smaller_id_prevails : SmallerIdPrevails
unfolding field_in absent_in old_list_in fields_in part_in transform_in extension_in substitution_in redirect_in changes_at ops_in modify_in action_in domains_in filters_in domain_lists_in lists_in numbers_in frames_in header_tests_in tabs_in rule_in read_rules url_in initiator_in kind_in method_in tab_in frame_in line.frames_in as_header headers_in request_in command_in command_of url_on_literals serde_json_on_literals is_utf8 scan judge_update
smaller_id_prevails = refl

pub blank_lines_count : BlankLinesCount
unfolding field_in absent_in old_list_in fields_in part_in transform_in extension_in substitution_in redirect_in changes_at ops_in modify_in action_in domains_in filters_in domain_lists_in lists_in numbers_in frames_in header_tests_in tabs_in rule_in read_rules url_in initiator_in kind_in method_in tab_in frame_in line.frames_in as_header headers_in request_in command_in command_of url_on_literals serde_json_on_literals is_utf8 scan judge_update
blank_lines_count = refl

pub cr_alone_is_no_blank_line : CrAloneIsNoBlankLine
unfolding field_in absent_in old_list_in fields_in part_in transform_in extension_in substitution_in redirect_in changes_at ops_in modify_in action_in domains_in filters_in domain_lists_in lists_in numbers_in frames_in header_tests_in tabs_in rule_in read_rules url_in initiator_in kind_in method_in tab_in frame_in line.frames_in as_header headers_in request_in command_in command_of url_on_literals serde_json_on_literals is_utf8 scan judge_update
cr_alone_is_no_blank_line = refl

pub broken_lines_are_bad : BrokenLinesAreBad
unfolding field_in absent_in old_list_in fields_in part_in transform_in extension_in substitution_in redirect_in changes_at ops_in modify_in action_in domains_in filters_in domain_lists_in lists_in numbers_in frames_in header_tests_in tabs_in rule_in read_rules url_in initiator_in kind_in method_in tab_in frame_in line.frames_in as_header headers_in request_in command_in command_of url_on_literals serde_json_on_literals is_utf8 scan judge_update
broken_lines_are_bad = refl

pub match_takes_no_updates : MatchTakesNoUpdates
unfolding field_in absent_in old_list_in fields_in part_in transform_in extension_in substitution_in redirect_in changes_at ops_in modify_in action_in domains_in filters_in domain_lists_in lists_in numbers_in frames_in header_tests_in tabs_in rule_in read_rules url_in initiator_in kind_in method_in tab_in frame_in line.frames_in as_header headers_in request_in command_in command_of url_on_literals serde_json_on_literals is_utf8 scan judge_update text_in texts_in wholes_in remove_in add_in replacing_in rulesets_in static_in uninstall_in
match_takes_no_updates = refl

pub updates_are_judged_in_turn : UpdatesAreJudgedInTurn
unfolding field_in absent_in old_list_in fields_in part_in transform_in extension_in substitution_in redirect_in changes_at ops_in modify_in action_in domains_in filters_in domain_lists_in lists_in numbers_in frames_in header_tests_in tabs_in rule_in read_rules url_in initiator_in kind_in method_in tab_in frame_in line.frames_in as_header headers_in request_in command_in command_of url_on_literals serde_json_on_literals is_utf8 scan judge_update text_in texts_in wholes_in remove_in add_in replacing_in rulesets_in static_in uninstall_in
updates_are_judged_in_turn = refl

pub sync_ends_a_round : SyncEndsARound
unfolding field_in absent_in old_list_in fields_in part_in transform_in extension_in substitution_in redirect_in changes_at ops_in modify_in action_in domains_in filters_in domain_lists_in lists_in numbers_in frames_in header_tests_in tabs_in rule_in read_rules url_in initiator_in kind_in method_in tab_in frame_in line.frames_in as_header headers_in request_in command_in command_of url_on_literals serde_json_on_literals is_utf8 scan judge_update text_in texts_in wholes_in remove_in add_in replacing_in rulesets_in static_in uninstall_in
sync_ends_a_round = (refl, refl, refl, refl)

pub null_is_present : NullIsPresent
unfolding field_in absent_in old_list_in fields_in part_in transform_in extension_in substitution_in redirect_in changes_at ops_in modify_in action_in domains_in filters_in domain_lists_in lists_in numbers_in frames_in header_tests_in tabs_in rule_in read_rules url_in initiator_in kind_in method_in tab_in frame_in line.frames_in as_header headers_in request_in command_in command_of url_on_literals serde_json_on_literals is_utf8 scan judge_update
null_is_present = refl

pub fraction_is_no_id : FractionIsNoId
unfolding field_in absent_in old_list_in fields_in part_in transform_in extension_in substitution_in redirect_in changes_at ops_in modify_in action_in domains_in filters_in domain_lists_in lists_in numbers_in frames_in header_tests_in tabs_in rule_in read_rules url_in initiator_in kind_in method_in tab_in frame_in line.frames_in as_header headers_in request_in command_in command_of url_on_literals serde_json_on_literals is_utf8 scan judge_update
fraction_is_no_id = refl

pub last_value_of_a_key_counts : LastValueOfAKeyCounts
unfolding field_in absent_in old_list_in fields_in part_in transform_in extension_in substitution_in redirect_in changes_at ops_in modify_in action_in domains_in filters_in domain_lists_in lists_in numbers_in frames_in header_tests_in tabs_in rule_in read_rules url_in initiator_in kind_in method_in tab_in frame_in line.frames_in as_header headers_in request_in command_in command_of url_on_literals serde_json_on_literals is_utf8 scan judge_update
last_value_of_a_key_counts = refl

pub second_of_equal_ids_is_at_fault : SecondOfEqualIdsIsAtFault
unfolding field_in absent_in old_list_in fields_in part_in transform_in extension_in substitution_in redirect_in changes_at ops_in modify_in action_in domains_in filters_in domain_lists_in lists_in numbers_in frames_in header_tests_in tabs_in rule_in read_rules url_in initiator_in kind_in method_in tab_in frame_in line.frames_in as_header headers_in request_in command_in command_of url_on_literals serde_json_on_literals is_utf8 scan judge_update
second_of_equal_ids_is_at_fault = refl

pub first_rule_at_fault_is_named : FirstRuleAtFaultIsNamed
unfolding field_in absent_in old_list_in fields_in part_in transform_in extension_in substitution_in redirect_in changes_at ops_in modify_in action_in domains_in filters_in domain_lists_in lists_in numbers_in frames_in header_tests_in tabs_in rule_in read_rules url_in initiator_in kind_in method_in tab_in frame_in line.frames_in as_header headers_in request_in command_in command_of url_on_literals serde_json_on_literals is_utf8 scan judge_update
first_rule_at_fault_is_named = refl

pub filter_is_refused_with_its_reason : FilterIsRefusedWithItsReason
unfolding field_in absent_in old_list_in fields_in part_in transform_in extension_in substitution_in redirect_in changes_at ops_in modify_in action_in domains_in filters_in domain_lists_in lists_in numbers_in frames_in header_tests_in tabs_in rule_in read_rules url_in initiator_in kind_in method_in tab_in frame_in line.frames_in as_header headers_in request_in command_in command_of url_on_literals serde_json_on_literals is_utf8 scan judge_update
filter_is_refused_with_its_reason = refl

pub nesting_has_a_limit : NestingHasALimit
unfolding field_in absent_in old_list_in fields_in part_in transform_in extension_in substitution_in redirect_in changes_at ops_in modify_in action_in domains_in filters_in domain_lists_in lists_in numbers_in frames_in header_tests_in tabs_in rule_in read_rules url_in initiator_in kind_in method_in tab_in frame_in line.frames_in as_header headers_in request_in command_in command_of url_on_literals serde_json_on_literals is_utf8 scan judge_update
nesting_has_a_limit = (refl, refl)

pub match_takes_two_file_names : MatchTakesTwoFileNames
match_takes_two_file_names = (refl, refl, refl)

pub check_takes_a_kind : CheckTakesAKind
check_takes_a_kind = (refl, refl, refl)

pub compile_takes_a_file : CompileTakesAFile
compile_takes_a_file = (refl, refl, refl)

pub serve_takes_options : ServeTakesOptions
serve_takes_options = (refl, refl)

pub serve_is_strict : ServeIsStrict
serve_is_strict = (refl, refl, refl, refl, refl, refl)

pub refused_files_say_why : RefusedFilesSayWhy
unfolding url_on_literals serde_json_on_literals
refused_files_say_why = (refl, refl, refl, refl, refl, refl)

pub refused_installs_say_why : RefusedInstallsSayWhy
unfolding url_on_literals serde_json_on_literals
refused_installs_say_why = (refl, refl)

pub unsupported_lines_say_why : UnsupportedLinesSayWhy
unfolding url_on_literals serde_json_on_literals
unsupported_lines_say_why = (refl, refl)

pub compiled_lists_are_reported : CompiledListsAreReported
unfolding url_on_literals serde_json_on_literals compiled report
compiled_lists_are_reported = refl

-- nothing failed, whatever hosts there are
no_host_failed : (seat : ℕ) → HostRisesBy 0 (slice_get (no_fault ∷ no_fault ∷ []) (suc seat))
no_host_failed zero = omega arith
no_host_failed (suc seat) = refl

pub two_files_are_served : TwoFilesAreServed
unfolding field_in absent_in old_list_in fields_in part_in transform_in extension_in substitution_in redirect_in changes_at ops_in modify_in action_in domains_in filters_in domain_lists_in lists_in numbers_in frames_in header_tests_in tabs_in rule_in read_rules url_in initiator_in kind_in method_in tab_in frame_in line.frames_in as_header headers_in request_in command_in command_of url_on_literals serde_json_on_literals is_utf8 scan judge_update
two_files_are_served = record {
  loaded = loaded_with [];
  first = record { extensions = installed (local []) ∷ []; count = 0 };
  opens = record { read = ([], record { file = codes "[]"; held = refl; short = omega arith; read = refl }, refl); installed = refl };
  script = codes " \n";
  holds = record { held = refl; within = refl };
  serves = record {
    said = nothing ∷ [];
    last = record { extensions = installed (local []) ∷ []; count = 0 };
    says = record {
      told = nothing ∷ [];
      next = record { extensions = installed (local []) ∷ []; count = 0 };
      others = [];
      all = refl;
      first = record {
        states = record { extensions = installed (local []) ∷ []; count = 0 } ∷ record { extensions = installed (local []) ∷ []; count = 0 } ∷ [];
        says = record {
          told = nothing;
          next = record { extensions = installed (local []) ∷ []; count = 0 };
          others = [];
          later = record { extensions = installed (local []) ∷ []; count = 0 } ∷ [];
          all = refl;
          passes = refl;
          first = inl (refl, refl);
          rest = (refl, refl, refl);
        };
      };
      rest = (refl, refl);
    };
    order = λ seat. tt;
    text = refl;
    finders = no_host_failed;
    checker = omega arith;
  };
}

pub rules_are_counted : RulesAreCounted
unfolding field_in absent_in old_list_in fields_in part_in transform_in extension_in substitution_in redirect_in changes_at ops_in modify_in action_in domains_in filters_in domain_lists_in lists_in numbers_in frames_in header_tests_in tabs_in rule_in read_rules url_in initiator_in kind_in method_in tab_in frame_in line.frames_in as_header headers_in request_in command_in command_of url_on_literals serde_json_on_literals is_utf8 scan judge_update
rules_are_counted = record {
  rules = [];
  loaded = record { file = codes "[]"; held = refl; short = omega arith; read = refl };
  output = refl;
}

pub usage_is_for_bad_words : UsageIsForBadWords
usage_is_for_bad_words = ((refl, refl), (λ written h. h), λ written h. absurd (omega (arith, h.0)))
