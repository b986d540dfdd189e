-- What a command reads is all there, within the limits and in its form.
use Rattle.std.specs.Prelude.{ℕ, ◌≤◌, List, length, true, false}
use Rattle.rule_spec.specs.State.{State}
use Rattle.rule_spec.specs.declared.rule_kind.RuleKind.{RuleKind}
use Rattle.rule_spec.specs.declared.rule_kind.RuleKind.TheVariants.{Static}
use Rattle.rule_spec.specs.Rule.{Rule}
use Rattle.list_spec.specs.LineKind.{lines_of}
use Rattle.compile_spec.specs.Compiled.{CompiledRule}
use Rattle.hide_spec.specs.Hidden.{hiding_lines, max_hiding}
use Rattle.prune_spec.specs.Pruned.{max_rules}
use Rattle.load_spec.specs.Files.{Files, HoldsFile, HoldsRules}
use Rattle.session_spec.specs.Loading.{HoldsList, Loaded}
use Rattle.session_spec.specs.Out.{Session, of_rules, of_words, HoldsScript, Opens}
use Rattle.session_spec.specs.Words.{Task, match_files, follow_files, check_file, compile_file, serve_script, make_sample, hide_page, prune_file}

-- the file holds rules of this kind
pub record RulesAreReady (files : Files) (kind : RuleKind) (name : List ℕ) : Type 0 where
  pub rules : List Rule
  pub held : HoldsRules files kind name rules

-- the file is a filter list that gives no more rules than it may
pub record ListIsReady (files : Files) (name : List ℕ) : Type 0 where
  pub bytes : List ℕ
  pub rules : List CompiledRule
  pub held : HoldsList files name bytes rules

-- the file is a filter list with no more lines for hiding than it may have
pub record HidingIsReady (files : Files) (name : List ℕ) : Type 0 where
  pub bytes : List ℕ
  pub file : HoldsFile files name bytes
  pub few : length (hiding_lines (lines_of bytes)) ≤ max_hiding

-- the file holds static rules, and no more than are pruned
pub record PruningIsReady (files : Files) (name : List ℕ) : Type 0 where
  pub rules : List Rule
  pub held : HoldsRules files Static name rules
  pub few : length rules ≤ max_rules

-- the files that are read before the script are so, each extension is accepted, and the script has no line too long and
-- none too many
pub record SessionIsReady (files : Files) (session : Session) (name : List ℕ) : Type 0 where
  pub loaded : Loaded
  pub first : State
  pub opens : Opens files session loaded first
  pub script : List ℕ
  pub holds : HoldsScript files name script

-- what this command reads is so; a sample reads nothing
abbrev pub IsReady : Files → Task → Type 0
IsReady files (match_files rules script) = SessionIsReady files (of_rules false rules) script
IsReady files (follow_files rules script) = SessionIsReady files (of_rules true rules) script
IsReady files (check_file kind name) = RulesAreReady files kind name
IsReady files (compile_file name) = ListIsReady files name
IsReady files (serve_script serving) = SessionIsReady files (of_words serving) serving.script
IsReady files (make_sample sample) = Unit {0}
IsReady files (hide_page name host) = HidingIsReady files name
IsReady files (prune_file name) = PruningIsReady files name
