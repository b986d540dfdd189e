-- Whole runs, as examples of what a command may write: the rules and the scripts of the worked examples, each with the status
-- and the bytes of its run.
use Rattle.std.specs.Prelude.{ℕ, List, [], ◌∷◌, ◌++◌, codes, replicate, bytes_eq, Bool, false, Some, None, Result, Ok, Err, if◌then◌else◌}
use Rattle.dnr_spec.specs.declared.status.Status.{Status}
use Rattle.dnr_spec.specs.declared.status.Status.TheVariants.{Done, Refused}
use Rattle.rule_spec.specs.declared.rule_kind.RuleKind.TheVariants.{Static}
use Rattle.rule_spec.specs.Rule.{Rule}
use Rattle.rule_spec.specs.State.{State}
use Rattle.json_spec.specs.RulesFile.{FileRefusal, rules_of}
use Rattle.load_spec.specs.Files.{Files}
use Rattle.update_spec.specs.Entries.{RefusedInstall, opening}
use Rattle.session_spec.specs.Answers.{Setting}
use Rattle.session_spec.specs.Examples.{replies, adding, request_line, rule_text, none}
use Rattle.session_spec.specs.Out.{local, Out}
use Rattle.session_spec.specs.Refusals.{install_line, refusal_line}

-- ---- what is there

-- a file `r.json` of rules, and a script `s.jsonl`
abbrev pub rules_and_script : List ℕ → List ℕ → Files
rules_and_script rules script name =
    if bytes_eq name (codes "r.json") then Some rules else (if bytes_eq name (codes "s.jsonl") then Some script else None)

-- an extension `a` that names no rules, and a script `s.jsonl`
abbrev pub bare_and_script : List ℕ → Files
bare_and_script script name =
    if bytes_eq name (codes "a/manifest.json") then Some (codes "{}") else (if bytes_eq name (codes "s.jsonl") then Some script else None)

-- ---- what is run, where no count of faults rises

-- `match` or `follow` of such files may end so, and write this
pub record Runs (command rules script : List ℕ) (ended : Status) (written : List ℕ) : Type 0 where
  pub allowed : Out (command ∷ codes "r.json" ∷ codes "s.jsonl" ∷ []) (rules_and_script rules script) none ended written

-- `serve` of that extension
pub record ServesBare (script : List ℕ) (ended : Status) (written : List ℕ) : Type 0 where
  pub allowed : Out (codes "serve" ∷ codes "--ext" ∷ codes "a" ∷ codes "s.jsonl" ∷ []) (bare_and_script script) none ended written

-- ---- how it ends and what it writes, in turn

abbrev pub setting_where : Bool → Setting
setting_where follows = record { suffixes = []; workers = 1; updates = false; follows = follows }

abbrev pub status_opened : Result State RefusedInstall → Status
status_opened (Ok state) = Done
status_opened (Err refused) = Refused

abbrev pub text_opened : Bool → Result State RefusedInstall → List ℕ → List ℕ
text_opened follows (Ok state) script = replies (setting_where follows) state script
text_opened follows (Err refused) script = install_line refused

abbrev pub status_read : Result (List Rule) FileRefusal → Status
status_read (Ok rules) = status_opened (opening (local rules ∷ []))
status_read (Err refusal) = Refused

abbrev pub text_read : Bool → Result (List Rule) FileRefusal → List ℕ → List ℕ
text_read follows (Ok rules) script = text_opened follows (opening (local rules ∷ [])) script
text_read follows (Err refusal) script = refusal_line (codes "r.json") refusal

-- The command may end and write so.
abbrev pub RunsInTurn : List ℕ → Bool → List ℕ → List ℕ → Type 0
RunsInTurn command follows rules script =
    Runs command rules script (status_read (rules_of Static rules)) (text_read follows (rules_of Static rules) script)

-- ---- the runs

abbrev pub script_line : List ℕ
script_line = request_line (codes "script") ++ codes "\n"

abbrev pub blocks_with : List ℕ → List ℕ
blocks_with fields = rule_text fields (codes "block")

abbrev pub matches : List ℕ → List ℕ → Status → List ℕ → Type 0
matches rules script ended written = Runs (codes "match") rules script ended written

-- what each of the worked examples says of `match`
pub record MatchRuns : Type 0 where
  pub no_rules_decide_nothing : matches (codes "[]") script_line Done (codes "{\"line\":1,\"generation\":0,\"verdict\":\"none\"}\n")
  pub main_frame_is_left_alone :
      matches (codes "[" ++ blocks_with (codes "\"id\":1") ++ codes "]") (script_line ++ request_line (codes "main_frame") ++ codes "\n") Done
      (codes "{\"line\":1,\"generation\":0,\"verdict\":\"block\",\"rule\":[\"local\",\"rules\",1]}\n" ++ codes "{\"line\":2,\"generation\":0,\"verdict\":\"none\"}\n")
  pub allow_prevails_at_equal_priority :
      matches (codes "[" ++ blocks_with (codes "\"id\":1") ++ codes "," ++ rule_text (codes "\"id\":2") (codes "allow") ++ codes "]") script_line Done
      (codes "{\"line\":1,\"generation\":0,\"verdict\":\"allow\",\"rule\":[\"local\",\"rules\",2]}\n")
  pub greater_priority_prevails :
      matches (codes "[" ++ blocks_with (codes "\"id\":1,\"priority\":2") ++ codes "," ++ rule_text (codes "\"id\":2") (codes "allow") ++ codes "]") script_line Done
      (codes "{\"line\":1,\"generation\":0,\"verdict\":\"block\",\"rule\":[\"local\",\"rules\",1]}\n")
  pub smaller_id_prevails :
      matches (codes "[" ++ blocks_with (codes "\"id\":7") ++ codes "," ++ blocks_with (codes "\"id\":2") ++ codes "," ++ blocks_with (codes "\"id\":9") ++ codes "]") script_line Done
      (codes "{\"line\":1,\"generation\":0,\"verdict\":\"block\",\"rule\":[\"local\",\"rules\",2]}\n")
  pub blank_lines_count :
      matches (codes "[]") (codes " \t\n\r\n" ++ request_line (codes "script") ++ codes "\r\n\n" ++ request_line (codes "script")) Done
      (codes "{\"line\":3,\"generation\":0,\"verdict\":\"none\"}\n" ++ codes "{\"line\":5,\"generation\":0,\"verdict\":\"none\"}\n")
  pub cr_alone_is_no_blank_line :
      matches (codes "[]") (codes "\r\r\n\r") Done (codes "{\"line\":1,\"bad\":\"json\"}\n" ++ codes "{\"line\":2,\"bad\":\"json\"}\n")
  pub broken_lines_are_bad :
      matches (codes "[]")
      (codes "{\"url\":\n{\"url\":\"http://a!b.com/\",\"type\":\"script\"}\n{\"url\":\"file:///x\",\"type\":\"script\"}\n" ++ request_line (codes "page") ++ codes "\n" ++ script_line)
      Done
      (codes "{\"line\":1,\"bad\":\"json\"}\n" ++ codes "{\"line\":2,\"bad\":\"url\",\"path\":\"url\",\"why\":\"bad-host\"}\n"
      ++ codes "{\"line\":3,\"bad\":\"url\",\"path\":\"url\",\"why\":\"bad-scheme\"}\n" ++ codes "{\"line\":4,\"bad\":\"command\",\"path\":\"type\"}\n"
      ++ codes "{\"line\":5,\"generation\":0,\"verdict\":\"none\"}\n")
  pub match_takes_no_updates :
      matches (codes "[]") (codes "{\"cmd\":\"sync\"}\n{\"cmd\":\"uninstall\",\"extension\":\"a\"}\n{\"cmd\":\"rulesets\"}\n") Done
      (codes "{\"line\":1,\"bad\":\"command\",\"path\":\"cmd\"}\n" ++ codes "{\"line\":2,\"bad\":\"command\",\"path\":\"cmd\"}\n"
      ++ codes "{\"line\":3,\"bad\":\"command\",\"path\":\"extension\"}\n")
  pub last_value_of_a_key_counts :
      matches (codes "[" ++ blocks_with (codes "\"id\":0,\"id\":1") ++ codes "]") script_line Done
      (codes "{\"line\":1,\"generation\":0,\"verdict\":\"block\",\"rule\":[\"local\",\"rules\",1]}\n")

-- what they say of rules that are refused, whatever the script is
pub record RefusedRuns : Type 0 where
  pub null_is_present :
      matches (codes "[" ++ blocks_with (codes "\"id\":1,\"priority\":null") ++ codes "]") [] Refused
      (codes "{\"file\":\"r.json\",\"refused\":\"bad-priority\",\"place\":0,\"id\":1}\n")
  pub fraction_is_no_id :
      matches (codes "[" ++ blocks_with (codes "\"id\":1.0") ++ codes "]") [] Refused
      (codes "{\"file\":\"r.json\",\"refused\":\"bad-id\",\"place\":0,\"id\":null}\n")
  pub second_of_equal_ids_is_at_fault :
      matches (codes "[" ++ blocks_with (codes "\"id\":1") ++ codes "," ++ blocks_with (codes "\"id\":2") ++ codes "," ++ blocks_with (codes "\"id\":1,\"priority\":0") ++ codes "]") [] Refused
      (codes "{\"file\":\"r.json\",\"refused\":\"duplicate-id\",\"place\":2,\"id\":1}\n")
  pub first_rule_at_fault_is_named :
      matches (codes "[" ++ blocks_with (codes "\"id\":1") ++ codes ",{\"id\":2,\"condition\":{\"resourceTypes\":[\"page\"]},\"action\":{\"type\":\"page\"}}," ++ blocks_with (codes "\"id\":1") ++ codes "]") [] Refused
      (codes "{\"file\":\"r.json\",\"refused\":\"bad-field\",\"place\":1,\"id\":2,\"path\":\"condition.resourceTypes\"}\n")
  pub filter_is_refused_with_its_reason :
      matches (codes "[{\"id\":1,\"condition\":{\"urlFilter\":\"||*x\"},\"action\":{\"type\":\"block\"}}]") [] Refused
      (codes "{\"file\":\"r.json\",\"refused\":\"bad-url-filter\",\"place\":0,\"id\":1,\"why\":\"anchor-star\"}\n")
  pub nesting_is_read : matches (replicate 127 91 ++ replicate 127 93) [] Refused (codes "{\"file\":\"r.json\",\"refused\":\"not-object\",\"place\":0,\"id\":null}\n")
  pub nesting_has_a_limit : matches (replicate 128 91 ++ replicate 128 93) [] Refused (codes "{\"file\":\"r.json\",\"refused\":\"bad-json\"}\n")

-- rules that send `a.com` to one URL, and `b.com` to another
abbrev pub sends : List ℕ → List ℕ → List ℕ → List ℕ
sends id domain url =
    codes "{\"id\":" ++ id ++ codes ",\"condition\":{\"urlFilter\":\"||" ++ domain ++ codes "^\"}," ++ codes "\"action\":{\"type\":\"redirect\",\"redirect\":{\"url\":\"" ++ url ++ codes "\"}}}"

abbrev pub sends_both : List ℕ → List ℕ → List ℕ
sends_both first second = codes "[" ++ sends (codes "1") (codes "a.com") first ++ codes "," ++ sends (codes "2") (codes "b.com") second ++ codes "]"

abbrev pub from_a : List ℕ
from_a = codes "{\"line\":1,\"hops\":[{\"url\":\"http://a.com/\",\"verdict\":\"redirect\",\"rule\":[\"local\",\"rules\",1]}"

abbrev pub from_b : List ℕ
from_b = codes ",{\"url\":\"https://b.com/\",\"verdict\":\"redirect\",\"rule\":[\"local\",\"rules\",2]}"

abbrev pub follows : List ℕ → List ℕ → Status → List ℕ → Type 0
follows rules script ended written = Runs (codes "follow") rules script ended written

-- what they say of `follow`
pub record FollowRuns : Type 0 where
  pub settled :
      follows (sends_both (codes "https://b.com/") (codes "https://c.com/")) (request_line (codes "script")) Done
      (from_a ++ from_b ++ codes ",{\"url\":\"https://c.com/\",\"verdict\":\"none\"}],\"end\":\"settled\"}\n")
  pub repeated :
      follows (sends_both (codes "https://b.com/") (codes "http://a.com/")) (request_line (codes "script")) Done (from_a ++ from_b ++ codes "],\"end\":\"repeated\"}\n")
  pub unreadable :
      follows (sends_both (codes "data:x") (codes "https://c.com/")) (request_line (codes "script")) Done (from_a ++ codes "],\"end\":\"unreadable\"}\n")
  pub nothing_is_explained :
      follows (codes "[]") (codes "{\"cmd\":\"explain\",\"url\":\"http://a.com/\",\"type\":\"script\"}\n{\"cmd\":\"sync\"}\n{}\n") Done
      (codes "{\"line\":1,\"bad\":\"command\",\"path\":\"cmd\"}\n{\"line\":2,\"bad\":\"command\",\"path\":\"cmd\"}\n" ++ codes "{\"line\":3,\"bad\":\"command\",\"path\":\"url\"}\n")

-- an update that is accepted decides what comes after it, and a refused one changes nothing
abbrev pub UpdatesAreServedInTurn : Type 0
UpdatesAreServedInTurn =
    ServesBare (script_line ++ adding (codes "7") ++ codes "\n" ++ adding (codes "7") ++ codes "\n{\"cmd\":\"sync\"}\n" ++ script_line) Done
    (codes "{\"line\":1,\"generation\":0,\"verdict\":\"none\"}\n" ++ codes "{\"line\":2,\"accepted\":1}\n" ++ codes "{\"line\":3,\"refused\":\"duplicate-id\",\"id\":7}\n"
    ++ codes "{\"line\":4,\"sync\":1}\n" ++ codes "{\"line\":5,\"generation\":1,\"verdict\":\"block\",\"rule\":[\"a\",\"_dynamic\",7]}\n")

-- all of them
pub record WorkedRuns : Type 0 where
  pub matched : MatchRuns
  pub refused : RefusedRuns
  pub followed : FollowRuns
  pub served : UpdatesAreServedInTurn
