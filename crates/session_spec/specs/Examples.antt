-- Examples, each computed from the definitions alone.
use Rattle.std.specs.Prelude.{◌≡◌, ℕ, List, [], ◌∷◌, ◌++◌, codes, false, true, Some, None, Result, Ok, Err, replicate, bytes_eq, if◌then◌else◌}
use Rattle.dnr_base.specs.Faults.{Count}
use Rattle.dnr_spec.specs.declared.status.Status.TheVariants as status
use Rattle.dnr_spec.specs.Lines.{lines_of}
use Rattle.rule_spec.specs.declared.rule_kind.RuleKind.TheVariants.{Static, Session}
use Rattle.rule_spec.specs.Rule.{Rule}
use Rattle.rule_spec.specs.State.{State}
use Rattle.json_spec.specs.RulesFile.{FileRefusal, rules_of}
use Rattle.session_spec.specs.Answers.{Setting}
use Rattle.session_spec.specs.InTurn.{rounds_in_turn}
use Rattle.session_spec.specs.Rounds.{rounds_of, whole_rounds_of, ended_lines}
use Rattle.session_spec.specs.Said.{lines_text}
use Rattle.update_spec.specs.Update.{installed}
use Rattle.dnr_spec.specs.declared.suffix_refusal.SuffixRefusal.TheVariants.{NotUtf8, BadRule, TooManyRules}
use Rattle.list_spec.specs.declared.reason.Reason.TheVariants.{ElementHiding, UnknownOption}
use Rattle.list_spec.specs.LineKind as list
use Rattle.compile_spec.specs.Compiled.{compiled}
use Rattle.load_spec.specs.declared.manifest_path.ManifestPath.TheVariants as path
use Rattle.update_spec.specs.declared.refusal.Refusal.TheVariants.{ExtensionThere, RegexLimit}
use Rattle.load_spec.specs.Extensions.{bad_manifest}
use Rattle.session_spec.specs.Refusals.{refusal_line, refused_file_line, suffixes_line, too_many_rules, host_failed, list_line, install_line, unsupported_line}
use Rattle.session_spec.specs.Words.{folder, list as from_list, match_files, check_file, compile_file, serve_script, task_of}
use Rattle.load_spec.specs.Files.{Files}
use Rattle.update_spec.specs.Entries.{RefusedInstall, opening}
use Rattle.session_spec.specs.Out.{Outside, local, compiled_text, Out}

-- ---- what is written where no host fails, and each line is answered on the state before it

-- what a session prints for a script
abbrev pub replies : Setting → State → List ℕ → List ℕ
replies setting state script = lines_text 1 (rounds_in_turn setting state 1 (rounds_of (lines_of script)))

-- the setting of `match`, and of a `serve` without a suffix list
abbrev pub matching : Setting
matching = record { suffixes = []; workers = 1; updates = false; follows = false }

abbrev pub serving : Setting
serving = record { suffixes = []; workers = 1; updates = true; follows = false }

abbrev replies_in : Result State RefusedInstall → List ℕ → List ℕ
replies_in (Ok state) script = replies matching state script
replies_in (Err refused) script = install_line refused

abbrev written_for : Result (List Rule) FileRefusal → List ℕ → List ℕ
written_for (Ok rules) script = replies_in (opening (local rules ∷ [])) script
written_for (Err refusal) script = refusal_line (codes "r.json") refusal

-- the bytes that `match` writes for a rules file `r.json` and a script
abbrev pub written : List ℕ → List ℕ → List ℕ
written file script = written_for (rules_of Static file) script

-- a request of this type to `http://a.com/`, without an LF
abbrev pub request_line : List ℕ → List ℕ
request_line kind = codes "{\"url\":\"http://a.com/\",\"type\":\"" ++ kind ++ codes "\"}"

-- a rule without conditions that has these fields before them, and this action
abbrev pub rule_text : List ℕ → List ℕ → List ℕ
rule_text fields action = codes "{" ++ fields ++ codes ",\"condition\":{},\"action\":{\"type\":\"" ++ action ++ codes "\"}}"

-- Without rules a request goes on.
abbrev pub NoRulesDecideNothing : Type 0
NoRulesDecideNothing =
    written (codes "[]")
    (request_line (codes "script") ++ codes "\n")
    ≡ codes "{\"line\":1,\"generation\":0,\"verdict\":\"none\"}\n"

-- A rule that lists no types holds on a script, and not on a `main_frame`.
abbrev pub MainFrameIsLeftAlone : Type 0
MainFrameIsLeftAlone =
    written (codes "[" ++ rule_text (codes "\"id\":1") (codes "block") ++ codes "]")
    (request_line (codes "script") ++ codes "\n" ++ request_line (codes "main_frame") ++ codes "\n")
    ≡ codes "{\"line\":1,\"generation\":0,\"verdict\":\"block\",\"rule\":[\"local\",\"rules\",1]}\n"
    ++ codes "{\"line\":2,\"generation\":0,\"verdict\":\"none\"}\n"

-- At equal priority `allow` prevails over `block`, whatever the ids.
abbrev pub AllowPrevailsAtEqualPriority : Type 0
AllowPrevailsAtEqualPriority =
    written (codes "[" ++ rule_text (codes "\"id\":1") (codes "block") ++ codes "," ++ rule_text (codes "\"id\":2") (codes "allow") ++ codes "]")
    (request_line (codes "script") ++ codes "\n")
    ≡ codes "{\"line\":1,\"generation\":0,\"verdict\":\"allow\",\"rule\":[\"local\",\"rules\",2]}\n"

-- A greater priority prevails whatever the action; an absent one is 1.
abbrev pub GreaterPriorityPrevails : Type 0
GreaterPriorityPrevails =
    written (codes "[" ++ rule_text (codes "\"id\":1,\"priority\":2") (codes "block") ++ codes "," ++ rule_text (codes "\"id\":2") (codes "allow") ++ codes "]")
    (request_line (codes "script") ++ codes "\n")
    ≡ codes "{\"line\":1,\"generation\":0,\"verdict\":\"block\",\"rule\":[\"local\",\"rules\",1]}\n"

-- Of rules that are equal otherwise the one of the smaller id prevails, wherever it stands.
abbrev pub SmallerIdPrevails : Type 0
SmallerIdPrevails =
    written (codes "[" ++ rule_text (codes "\"id\":7") (codes "block") ++ codes "," ++ rule_text (codes "\"id\":2") (codes "block") ++ codes "," ++ rule_text (codes "\"id\":9") (codes "block") ++ codes "]")
    (request_line (codes "script") ++ codes "\n")
    ≡ codes "{\"line\":1,\"generation\":0,\"verdict\":\"block\",\"rule\":[\"local\",\"rules\",2]}\n"

-- A blank line prints nothing and is counted; a CR before the LF is dropped; a last line needs no LF.
abbrev pub BlankLinesCount : Type 0
BlankLinesCount =
    written (codes "[]")
    (codes " \t\n\r\n" ++ request_line (codes "script") ++ codes "\r\n\n" ++ request_line (codes "script"))
    ≡ codes "{\"line\":3,\"generation\":0,\"verdict\":\"none\"}\n"
    ++ codes "{\"line\":5,\"generation\":0,\"verdict\":\"none\"}\n"

-- One CR is dropped, and only before an LF: a CR that is left makes a line that is not blank.
abbrev pub CrAloneIsNoBlankLine : Type 0
CrAloneIsNoBlankLine =
    written (codes "[]")
    (codes "\r\r\n\r")
    ≡ codes "{\"line\":1,\"bad\":\"json\"}\n"
    ++ codes "{\"line\":2,\"bad\":\"json\"}\n"

-- No JSON, a host or a scheme that is none, a type that is not known: each is a bad line, and the next is served.
abbrev pub BrokenLinesAreBad : Type 0
BrokenLinesAreBad =
    written (codes "[]")
    (codes "{\"url\":\n{\"url\":\"http://a!b.com/\",\"type\":\"script\"}\n{\"url\":\"file:///x\",\"type\":\"script\"}\n" ++ request_line (codes "page") ++ codes "\n" ++ request_line (codes "script") ++ codes "\n")
    ≡ codes "{\"line\":1,\"bad\":\"json\"}\n"
    ++ codes "{\"line\":2,\"bad\":\"url\",\"path\":\"url\",\"why\":\"bad-host\"}\n"
    ++ codes "{\"line\":3,\"bad\":\"url\",\"path\":\"url\",\"why\":\"bad-scheme\"}\n"
    ++ codes "{\"line\":4,\"bad\":\"command\",\"path\":\"type\"}\n"
    ++ codes "{\"line\":5,\"generation\":0,\"verdict\":\"none\"}\n"

-- `match` has no updates: what reads as one is a bad line, and what does not says its own fault.
abbrev pub MatchTakesNoUpdates : Type 0
MatchTakesNoUpdates =
    written (codes "[]") (codes "{\"cmd\":\"sync\"}\n{\"cmd\":\"uninstall\",\"extension\":\"a\"}\n{\"cmd\":\"rulesets\"}\n")
    ≡ codes "{\"line\":1,\"bad\":\"command\",\"path\":\"cmd\"}\n"
    ++ codes "{\"line\":2,\"bad\":\"command\",\"path\":\"cmd\"}\n"
    ++ codes "{\"line\":3,\"bad\":\"command\",\"path\":\"extension\"}\n"

-- ---- updates

-- the extension `a` without rules
abbrev pub bare : State
bare = record { extensions = installed (record { name = codes "a"; sets = []; access = None }) ∷ []; count = 0 }

-- adds a dynamic rule of this id that blocks everything
abbrev pub adding : List ℕ → List ℕ
adding id =
    codes "{\"cmd\":\"dynamic\",\"extension\":\"a\",\"addRules\":[" ++ rule_text (codes "\"id\":" ++ id) (codes "block") ++ codes "]}"

-- An update that is accepted decides what comes after it, and a refused one changes nothing.
abbrev pub UpdatesAreJudgedInTurn : Type 0
UpdatesAreJudgedInTurn =
    replies serving bare (request_line (codes "script") ++ codes "\n" ++ adding (codes "7") ++ codes "\n" ++ adding (codes "7") ++ codes "\n{\"cmd\":\"sync\"}\n" ++ request_line (codes "script") ++ codes "\n")
    ≡ codes "{\"line\":1,\"generation\":0,\"verdict\":\"none\"}\n"
    ++ codes "{\"line\":2,\"accepted\":1}\n"
    ++ codes "{\"line\":3,\"refused\":\"duplicate-id\",\"id\":7}\n"
    ++ codes "{\"line\":4,\"sync\":1}\n"
    ++ codes "{\"line\":5,\"generation\":1,\"verdict\":\"block\",\"rule\":[\"a\",\"_dynamic\",7]}\n"

-- ---- rounds

abbrev pub sync_line_text : List ℕ
sync_line_text = codes "{\"cmd\":\"sync\"}"

-- A `sync` ends its round. What stands after it is a round of its own, and no whole one before it has ended too.
abbrev pub SyncEndsARound : Type 0
SyncEndsARound =
    (rounds_of (codes "x" ∷ sync_line_text ∷ codes "y" ∷ []) ≡ (codes "x" ∷ sync_line_text ∷ []) ∷ (codes "y" ∷ []) ∷ [])
    × (whole_rounds_of (codes "x" ∷ sync_line_text ∷ codes "y" ∷ []) ≡ (codes "x" ∷ sync_line_text ∷ []) ∷ [])
    × (rounds_of [] ≡ [])
    × (ended_lines (codes "x\r\ny\nz") ≡ codes "x" ∷ codes "y" ∷ [])

-- A priority that is null is not an absent one.
abbrev pub NullIsPresent : Type 0
NullIsPresent =
    written (codes "[" ++ rule_text (codes "\"id\":1,\"priority\":null") (codes "block") ++ codes "]")
    []
    ≡ codes "{\"file\":\"r.json\",\"refused\":\"bad-priority\",\"place\":0,\"id\":1}\n"

-- `1.0` is no whole number.
abbrev pub FractionIsNoId : Type 0
FractionIsNoId =
    written (codes "[" ++ rule_text (codes "\"id\":1.0") (codes "block") ++ codes "]")
    []
    ≡ codes "{\"file\":\"r.json\",\"refused\":\"bad-id\",\"place\":0,\"id\":null}\n"

-- Of a repeated key the last value counts.
abbrev pub LastValueOfAKeyCounts : Type 0
LastValueOfAKeyCounts =
    written (codes "[" ++ rule_text (codes "\"id\":0,\"id\":1") (codes "block") ++ codes "]")
    (request_line (codes "script") ++ codes "\n")
    ≡ codes "{\"line\":1,\"generation\":0,\"verdict\":\"block\",\"rule\":[\"local\",\"rules\",1]}\n"

-- The second rule of an id is at fault, by its id before its other fields.
abbrev pub SecondOfEqualIdsIsAtFault : Type 0
SecondOfEqualIdsIsAtFault =
    written (codes "[" ++ rule_text (codes "\"id\":1") (codes "block") ++ codes "," ++ rule_text (codes "\"id\":2") (codes "block") ++ codes "," ++ rule_text (codes "\"id\":1,\"priority\":0") (codes "block") ++ codes "]")
    []
    ≡ codes "{\"file\":\"r.json\",\"refused\":\"duplicate-id\",\"place\":2,\"id\":1}\n"

-- The first rule at fault is named, by its first fault.
abbrev pub FirstRuleAtFaultIsNamed : Type 0
FirstRuleAtFaultIsNamed =
    written (codes "[" ++ rule_text (codes "\"id\":1") (codes "block") ++ codes ",{\"id\":2,\"condition\":{\"resourceTypes\":[\"page\"]},\"action\":{\"type\":\"page\"}}," ++ rule_text (codes "\"id\":1") (codes "block") ++ codes "]")
    []
    ≡ codes "{\"file\":\"r.json\",\"refused\":\"bad-field\",\"place\":1,\"id\":2,\"path\":\"condition.resourceTypes\"}\n"

-- A urlFilter that is none is refused with its reason.
abbrev pub FilterIsRefusedWithItsReason : Type 0
FilterIsRefusedWithItsReason =
    written (codes "[{\"id\":1,\"condition\":{\"urlFilter\":\"||*x\"},\"action\":{\"type\":\"block\"}}]")
    []
    ≡ codes "{\"file\":\"r.json\",\"refused\":\"bad-url-filter\",\"place\":0,\"id\":1,\"why\":\"anchor-star\"}\n"

-- 127 nestings are read, and 128 are no JSON.
abbrev pub NestingHasALimit : Type 0
NestingHasALimit =
    (written (replicate 127 91 ++ replicate 127 93) [] ≡ codes "{\"file\":\"r.json\",\"refused\":\"not-object\",\"place\":0,\"id\":null}\n")
    × (written (replicate 128 91 ++ replicate 128 93) [] ≡ codes "{\"file\":\"r.json\",\"refused\":\"bad-json\"}\n")

-- ---- words

-- `match` takes two names of files, and a name does not begin with `-`.
abbrev pub MatchTakesTwoFileNames : Type 0
MatchTakesTwoFileNames =
    (task_of (codes "match" ∷ codes "a" ∷ codes "b" ∷ []) ≡ Some (match_files (codes "a") (codes "b")))
    × (task_of (codes "match" ∷ codes "a" ∷ []) ≡ None)
    × (task_of (codes "match" ∷ codes "a" ∷ codes "-b" ∷ []) ≡ None)

-- `check` takes a kind and the name of a file.
abbrev pub CheckTakesAKind : Type 0
CheckTakesAKind =
    (task_of (codes "check" ∷ codes "session" ∷ codes "a" ∷ []) ≡ Some (check_file Session (codes "a")))
    × (task_of (codes "check" ∷ codes "local" ∷ codes "a" ∷ []) ≡ None)
    × (task_of (codes "check" ∷ codes "static" ∷ codes "-a" ∷ []) ≡ None)

-- `compile` takes the name of a file.
abbrev pub CompileTakesAFile : Type 0
CompileTakesAFile =
    (task_of (codes "compile" ∷ codes "l.txt" ∷ []) ≡ Some (compile_file (codes "l.txt")))
    × (task_of (codes "compile" ∷ []) ≡ None)
    × (task_of (codes "compile" ∷ codes "-l" ∷ []) ≡ None)

-- `serve` takes options in any order and then a script; what is installed keeps its order.
abbrev pub ServeTakesOptions : Type 0
ServeTakesOptions =
    (task_of (codes "serve" ∷ codes "s" ∷ []) ≡ Some (serve_script (record { workers = 1; suffixes = None; installed = []; script = codes "s" })))
    × (task_of (codes "serve" ∷ codes "--list" ∷ codes "l=e=f" ∷ codes "--psl" ∷ codes "p.dat" ∷ codes "--ext" ∷ codes "shop" ∷ codes "s" ∷ [])
    ≡ Some (serve_script (record {
      workers = 1;
      suffixes = Some (codes "p.dat");
      installed = from_list (codes "l") (codes "e=f") ∷ folder (codes "shop") ∷ [];
      script = codes "s";
    })))

-- An option behind the script, a second suffix list, a name with a dot, an option without a value: none is a command.
abbrev pub ServeIsStrict : Type 0
ServeIsStrict =
    (task_of (codes "serve" ∷ codes "s" ∷ codes "--psl" ∷ codes "p" ∷ []) ≡ None)
    × (task_of (codes "serve" ∷ codes "--psl" ∷ codes "p" ∷ codes "--psl" ∷ codes "q" ∷ codes "s" ∷ []) ≡ None)
    × (task_of (codes "serve" ∷ codes "--ext" ∷ codes "a.b" ∷ codes "s" ∷ []) ≡ None)
    × (task_of (codes "serve" ∷ codes "--ext" ∷ codes "s" ∷ []) ≡ None)
    × (task_of (codes "serve" ∷ codes "--list" ∷ codes "l" ∷ codes "s" ∷ []) ≡ None)
    × (task_of (codes "serve" ∷ []) ≡ None)

-- ---- refusals and reports

-- A file of an extension, a suffix list and a filter list each say why they are refused.
abbrev pub RefusedFilesSayWhy : Type 0
RefusedFilesSayWhy =
    (refused_file_line (record { file = codes "a/manifest.json"; cause = bad_manifest path.Manifest })
    ≡ codes "{\"file\":\"a/manifest.json\",\"refused\":\"bad-manifest\",\"path\":\"manifest\"}\n")
    × (suffixes_line (codes "p.dat") (BadRule 2) ≡ codes "{\"file\":\"p.dat\",\"refused\":\"bad-suffix\",\"line\":2}\n")
    × (suffixes_line (codes "p.dat") NotUtf8 ≡ codes "{\"file\":\"p.dat\",\"refused\":\"not-utf8\"}\n")
    × (suffixes_line (codes "p.dat") TooManyRules ≡ codes "{\"file\":\"p.dat\",\"refused\":\"too-many-rules\"}\n")
    × (list_line (codes "l.txt") (too_many_rules 300001) ≡ codes "{\"file\":\"l.txt\",\"refused\":\"too-many-rules\",\"count\":300001}\n")
    × (list_line (codes "l.txt") (host_failed 7) ≡ codes "{\"file\":\"l.txt\",\"refused\":\"pattern-host\",\"line\":7}\n")

-- An extension that is not installed says why, and the count that is too great.
abbrev pub RefusedInstallsSayWhy : Type 0
RefusedInstallsSayWhy =
    (install_line (record { extension = codes "a"; cause = ExtensionThere (codes "a") }) ≡ codes "{\"extension\":\"a\",\"refused\":\"extension-there\"}\n")
    × (install_line (record { extension = codes "local"; cause = RegexLimit 1001 })
    ≡ codes "{\"extension\":\"local\",\"refused\":\"regex-limit\",\"count\":1001}\n")

-- A line of a list that gives nothing says why, and which option is at fault.
abbrev pub UnsupportedLinesSayWhy : Type 0
UnsupportedLinesSayWhy =
    (unsupported_line (record { line = 3; reason = ElementHiding }) ≡ codes "{\"line\":3,\"unsupported\":\"element-hiding\"}\n")
    × (unsupported_line (record { line = 6; reason = UnknownOption (codes "popup") })
    ≡ codes "{\"line\":6,\"unsupported\":\"unknown-option\",\"name\":\"popup\"}\n")

-- Of a compiled list the lines that give nothing stand first, then the count of the rules, then the rules.
abbrev pub CompiledListsAreReported : Type 0
CompiledListsAreReported =
    compiled_text (codes "! t\nx$script=1\n||a.com^$image,~image\n") (compiled (list.lines_of (codes "! t\nx$script=1\n||a.com^$image,~image\n")))
    ≡ codes "{\"line\":2,\"unsupported\":\"option-value\",\"name\":\"script\"}\n{\"rules\":0}\n[]\n"

-- ---- statuses

-- a file `r.json` without rules, and a script `s.jsonl` of one blank line
abbrev pub two_files : Files
two_files name = if bytes_eq name (codes "r.json") then Some (codes "[]") else (if bytes_eq name (codes "s.jsonl") then Some (codes " \n") else None)

-- no fault
abbrev pub no_fault : Count
no_fault = record { before = 0; now = 0 }

-- no fault, and one file was started
abbrev pub none : Outside
none = record { shelf = no_fault; started = record { before = 0; now = 1 }; sink = no_fault; hosts = no_fault ∷ no_fault ∷ []; left = [] }

-- The two files are served, and a blank line prints nothing.
abbrev pub TwoFilesAreServed : Type 0
TwoFilesAreServed = Out (codes "match" ∷ codes "r.json" ∷ codes "s.jsonl" ∷ []) two_files none status.Done []

-- A file without rules is counted.
abbrev pub RulesAreCounted : Type 0
RulesAreCounted =
    Out (codes "check" ∷ codes "static" ∷ codes "r.json" ∷ []) two_files none status.Done (codes "{\"rules\":0}\n")

-- A command without its files ends with Usage, and one with them never does. Where nothing failed no fault is told.
abbrev pub UsageIsForBadWords : Type 0
UsageIsForBadWords =
    Out (codes "match" ∷ codes "a" ∷ []) two_files none status.Usage []
    × ((written : List ℕ) → Out (codes "match" ∷ codes "r.json" ∷ codes "s.jsonl" ∷ []) two_files none status.Usage written → ⊥)
    × ((written : List ℕ) → Out (codes "match" ∷ codes "r.json" ∷ codes "s.jsonl" ∷ []) two_files none status.ReadFault written → ⊥)
