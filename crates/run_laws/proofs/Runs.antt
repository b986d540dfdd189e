-- The worked examples of whole runs are what a command may write.
use Rattle.std.specs.Prelude.{ℕ, zero, suc, List, [], ◌∷◌, codes, slice_get, false, true, None, Result, Ok, Err, length, refl, ⊤}
use Rattle.std.proofs.Common.{◌≡◌, ◌≤◌, arith, inl, inr, subst, lit≤}
use Rattle.std.specs.Str.{is_utf8}
use Rattle.url.proofs.OnLiterals.{url_on_literals}
use Rattle.serde_json.proofs.OnLiterals.{serde_json_on_literals}
use Rattle.dnr_spec.specs.declared.status.Status.{Status}
use Rattle.dnr_spec.specs.declared.status.Status.TheVariants.{Done}
use Rattle.dnr_spec.specs.Lines.{lines_of, is_within_limits}
use Rattle.rule_spec.specs.declared.rule_kind.RuleKind.TheVariants.{Static}
use Rattle.rule_spec.specs.Rule.{Rule}
use Rattle.rule_spec.specs.Scan.{scan}
use Rattle.rule_spec.specs.State.{State}
use Rattle.json_spec.specs.RuleFields.{field_in, absent_in, old_list_in, fields_in}
use Rattle.json_spec.specs.RuleAction as action
use Rattle.json_spec.specs.RuleAction.{part_in, transform_in, extension_in, substitution_in, redirect_in, changes_at, ops_in, modify_in, action_in}
use Rattle.json_spec.specs.ReadRule.{domains_in, filters_in, domain_lists_in, lists_in, numbers_in, frames_in, header_tests_in, tabs_in, rule_in, read_rules}
use Rattle.json_spec.specs.RulesFile.{FileRefusal, max_file, rules_of}
use Rattle.line_spec.specs.RequestLine as line
use Rattle.line_spec.specs.RequestLine.{url_in, initiator_in, kind_in, method_in, tab_in, frame_in, headers_in, as_header, request_in}
use Rattle.line_spec.specs.Updates.{text_in, texts_in, wholes_in, remove_in, add_in, replacing_in, rulesets_in, static_in, uninstall_in}
use Rattle.line_spec.specs.Line.{command_in, command_of}
use Rattle.load_spec.specs.Extensions.{extension_of}
use Rattle.load_spec.specs.Files.{HoldsRules}
use Rattle.load_spec.specs.Manifest.{id_in, enabled_in, path_in, resource_in, access_in, manifest_in, manifest_of}
use Rattle.update_spec.specs.Entries.{RefusedInstall, opening}
use Rattle.update_spec.specs.Judge.{judge_update}
use Rattle.follow_spec.specs.Trace.{trace_from}
use Rattle.session_spec.specs.Answers.{HostRisesBy, Serves}
use Rattle.session_spec.specs.Examples.{replies, serving, bare, none}
use Rattle.session_spec.specs.Out.{local, loaded_with}
use Rattle.session_spec.specs.Rounds.{rounds_of}
use Rattle.run_laws.specs.Laws.{RunsAreInTurn}
use Rattle.run_laws.specs.Runs.{rules_and_script, Runs, ServesBare, setting_where, status_opened, text_opened, status_read, text_read, MatchRuns, RefusedRuns, FollowRuns, UpdatesAreServedInTurn, WorkedRuns}
use Rattle.run_laws.proofs.Going.{served_in_turn}

-- what is opened to compute these definitions on a literal
unfoldable on_literals : ⊤
unfolding field_in absent_in old_list_in fields_in part_in transform_in extension_in action.url_in substitution_in redirect_in changes_at ops_in modify_in action_in domains_in filters_in domain_lists_in lists_in numbers_in frames_in header_tests_in tabs_in rule_in read_rules url_in initiator_in kind_in method_in tab_in frame_in line.frames_in as_header headers_in request_in command_in command_of url_on_literals serde_json_on_literals is_utf8 scan judge_update text_in texts_in wholes_in remove_in add_in replacing_in rulesets_in static_in uninstall_in trace_from id_in enabled_in path_in resource_in access_in manifest_in manifest_of
on_literals = tt

-- no count rose, and none fell
no_rise : (place : ℕ) → HostRisesBy 0 (slice_get none.hosts place)
no_rise zero = omega arith
no_rise (suc zero) = omega arith
no_rise (suc (suc place)) = refl

-- ---- rules, and a script

module _ (rules script : List ℕ) (short : length rules ≤ max_file) (within : is_within_limits script ≡ true) where
  held : (read : List Rule) → rules_of Static rules ≡ Ok read → HoldsRules (rules_and_script rules script) Static (codes "r.json") read
  held read is = record { file = rules; held = refl; short = short; read = is }

  match_opened : (read : List Rule) → rules_of Static rules ≡ Ok read → (opened : Result State RefusedInstall) → opening (local read ∷ []) ≡ opened
      → Runs (codes "match") rules script (status_opened opened) (text_opened false opened script)
  match_opened read is (Ok state) opens = record {
    allowed = record {
      loaded = loaded_with read;
      first = state;
      opens = record { read = (read, held read is, refl); installed = opens };
      script = script;
      holds = record { held = refl; within = within };
      serves = served_in_turn none.hosts (setting_where false) state (rounds_of (lines_of script)) no_rise;
    };
  }
  match_opened read is (Err refused) opens = record {
    allowed = inr (record { loaded = loaded_with read; read = (read, held read is, refl); refused = refused; judged = opens; output = refl });
  }

  match_read : (read : Result (List Rule) FileRefusal) → rules_of Static rules ≡ read → Runs (codes "match") rules script (status_read read) (text_read false read script)
  match_read (Ok read) is = match_opened read is (opening (local read ∷ [])) refl
  match_read (Err refusal) is = record {
    allowed = inl (record { refusal = refusal; broken = inl (record { file = rules; held = refl; short = short; read = is }); same = refl });
  }

  follow_opened : (read : List Rule) → rules_of Static rules ≡ Ok read → (opened : Result State RefusedInstall) → opening (local read ∷ []) ≡ opened
      → Runs (codes "follow") rules script (status_opened opened) (text_opened true opened script)
  follow_opened read is (Ok state) opens = record {
    allowed = record {
      loaded = loaded_with read;
      first = state;
      opens = record { read = (read, held read is, refl); installed = opens };
      script = script;
      holds = record { held = refl; within = within };
      serves = served_in_turn none.hosts (setting_where true) state (rounds_of (lines_of script)) no_rise;
    };
  }
  follow_opened read is (Err refused) opens = record {
    allowed = inr (record { loaded = loaded_with read; read = (read, held read is, refl); refused = refused; judged = opens; output = refl });
  }

  follow_read : (read : Result (List Rule) FileRefusal) → rules_of Static rules ≡ read → Runs (codes "follow") rules script (status_read read) (text_read true read script)
  follow_read (Ok read) is = follow_opened read is (opening (local read ∷ [])) refl
  follow_read (Err refusal) is = record {
    allowed = inl (record { refusal = refusal; broken = inl (record { file = rules; held = refl; short = short; read = is }); same = refl });
  }

pub runs_are_in_turn : RunsAreInTurn
runs_are_in_turn rules script short within =
    (match_read rules script short within (rules_of Static rules) refl, follow_read rules script short within (rules_of Static rules) refl)

-- what is computed of the definitions is what may be written
match_is : (rules script : List ℕ) (ended : Status) (written : List ℕ) → length rules ≤ max_file → is_within_limits script ≡ true
    → status_read (rules_of Static rules) ≡ ended → text_read false (rules_of Static rules) script ≡ written → Runs (codes "match") rules script ended written
match_is rules script ended written short within ends writes =
    subst (λ (s : Status). Runs (codes "match") rules script s written) ends
    (subst (λ (w : List ℕ). Runs (codes "match") rules script (status_read (rules_of Static rules)) w) writes (match_read rules script short within (rules_of Static rules) refl))

follow_is : (rules script : List ℕ) (ended : Status) (written : List ℕ) → length rules ≤ max_file → is_within_limits script ≡ true
    → status_read (rules_of Static rules) ≡ ended → text_read true (rules_of Static rules) script ≡ written → Runs (codes "follow") rules script ended written
follow_is rules script ended written short within ends writes =
    subst (λ (s : Status). Runs (codes "follow") rules script s written) ends
    (subst (λ (w : List ℕ). Runs (codes "follow") rules script (status_read (rules_of Static rules)) w) writes (follow_read rules script short within (rules_of Static rules) refl))

-- ---- the runs

match_runs : MatchRuns
unfolding on_literals
match_runs = record {
  no_rules_decide_nothing = match_is _ _ _ _ (lit≤ tt) refl refl refl;
  main_frame_is_left_alone = match_is _ _ _ _ (lit≤ tt) refl refl refl;
  allow_prevails_at_equal_priority = match_is _ _ _ _ (lit≤ tt) refl refl refl;
  greater_priority_prevails = match_is _ _ _ _ (lit≤ tt) refl refl refl;
  smaller_id_prevails = match_is _ _ _ _ (lit≤ tt) refl refl refl;
  blank_lines_count = match_is _ _ _ _ (lit≤ tt) refl refl refl;
  cr_alone_is_no_blank_line = match_is _ _ _ _ (lit≤ tt) refl refl refl;
  broken_lines_are_bad = match_is _ _ _ _ (lit≤ tt) refl refl refl;
  match_takes_no_updates = match_is _ _ _ _ (lit≤ tt) refl refl refl;
  last_value_of_a_key_counts = match_is _ _ _ _ (lit≤ tt) refl refl refl;
}

refused_runs : RefusedRuns
unfolding on_literals
refused_runs = record {
  null_is_present = match_is _ _ _ _ (lit≤ tt) refl refl refl;
  fraction_is_no_id = match_is _ _ _ _ (lit≤ tt) refl refl refl;
  second_of_equal_ids_is_at_fault = match_is _ _ _ _ (lit≤ tt) refl refl refl;
  first_rule_at_fault_is_named = match_is _ _ _ _ (lit≤ tt) refl refl refl;
  filter_is_refused_with_its_reason = match_is _ _ _ _ (lit≤ tt) refl refl refl;
  nesting_is_read = match_is _ _ _ _ (lit≤ tt) refl refl refl;
  nesting_has_a_limit = match_is _ _ _ _ (lit≤ tt) refl refl refl;
}

follow_runs : FollowRuns
unfolding on_literals
follow_runs = record {
  settled = follow_is _ _ _ _ (lit≤ tt) refl refl refl;
  repeated = follow_is _ _ _ _ (lit≤ tt) refl refl refl;
  unreadable = follow_is _ _ _ _ (lit≤ tt) refl refl refl;
  nothing_is_explained = follow_is _ _ _ _ (lit≤ tt) refl refl refl;
}

-- ---- an extension without rules

serve_is : (script written : List ℕ) → is_within_limits script ≡ true → replies serving bare script ≡ written → ServesBare script Done written
unfolding on_literals
serve_is script written within writes = record {
  allowed = record {
    loaded = record { suffixes = []; extensions = extension_of (codes "a") [] None ∷ [] };
    first = bare;
    opens = record {
      read = record {
        suffixes = refl;
        extensions = (
          record {
            manifest = record { resources = []; access = None };
            held = record { bytes = codes "{}"; file = record { held = refl; short = lit≤ tt }; read = refl };
            sets = [];
            loaded = tt;
            same = refl;
          },
          tt,
        );
      };
      installed = refl;
    };
    script = script;
    holds = record { held = refl; within = within };
    serves = subst (λ (w : List ℕ). Serves none.hosts serving bare (rounds_of (lines_of script)) w) writes (served_in_turn none.hosts serving bare (rounds_of (lines_of script)) no_rise);
  };
}

updates_are_served_in_turn : UpdatesAreServedInTurn
unfolding on_literals
updates_are_served_in_turn = serve_is _ _ refl refl

pub runs_are_worked : WorkedRuns
runs_are_worked = record { matched = match_runs; refused = refused_runs; followed = follow_runs; served = updates_are_served_in_turn }
