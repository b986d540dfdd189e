-- What files hold: rules and suffix lists, each within the limit of a file.
use Rattle.std.specs.Prelude.{◌≡◌, ℕ, ◌<◌, ◌≤◌, List, length, Option, Some, Ok, Err}
use Rattle.dnr_spec.specs.declared.suffix_refusal.SuffixRefusal.{SuffixRefusal}
use Rattle.dnr_spec.specs.Suffixes.{SuffixRule, read_suffixes}
use Rattle.rule_spec.specs.declared.placed_refusal.PlacedRefusal.{PlacedRefusal}
use Rattle.rule_spec.specs.declared.rule_kind.RuleKind.{RuleKind}
use Rattle.rule_spec.specs.Rule.{Rule}
use Rattle.json_spec.specs.RulesFile.{FileRefusal, bad_rules, max_file, rules_of, StopsInFile}

-- what each name holds, if there is a file of that name
abbrev pub Files : Type 0
Files = List ℕ → Option (List ℕ)

-- the file is short enough, and holds these bytes
pub record HoldsFile (files : Files) (name bytes : List ℕ) : Type 0 where
  pub held : files name ≡ Some bytes
  pub short : length bytes ≤ max_file

-- the file has more bytes than a file may have
pub record HoldsLongFile (files : Files) (name : List ℕ) : Type 0 where
  pub file : List ℕ
  pub held : files name ≡ Some file
  pub long : max_file < length file

-- ---- rules

-- the file is short enough, and these are its rules
pub record HoldsRules (files : Files) (kind : RuleKind) (name : List ℕ) (rules : List Rule) : Type 0 where
  pub file : List ℕ
  pub held : files name ≡ Some file
  pub short : length file ≤ max_file
  pub read : rules_of kind file ≡ Ok rules

-- the file is short enough, and breaks its form so
pub record BreaksForm (files : Files) (kind : RuleKind) (name : List ℕ) (refusal : FileRefusal) : Type 0 where
  pub file : List ℕ
  pub held : files name ≡ Some file
  pub short : length file ≤ max_file
  pub read : rules_of kind file ≡ Err refusal

-- the file is short enough, and a pattern host may fail at the rule that is named
pub record StopsAtHost (files : Files) (kind : RuleKind) (name : List ℕ) (refusal : FileRefusal) : Type 0 where
  pub file : List ℕ
  pub held : files name ≡ Some file
  pub short : length file ≤ max_file
  pub placed : PlacedRefusal
  pub same : refusal ≡ bad_rules placed
  pub stops : StopsInFile kind file placed

-- ---- suffix lists

-- the file is short enough, and these are its suffix rules
pub record HoldsSuffixes (files : Files) (name : List ℕ) (rules : List SuffixRule) : Type 0 where
  pub file : List ℕ
  pub held : files name ≡ Some file
  pub short : length file ≤ max_file
  pub read : read_suffixes file ≡ Ok rules

-- the file is short enough, and is no suffix list for this reason
pub record BreaksSuffixes (files : Files) (name : List ℕ) (refusal : SuffixRefusal) : Type 0 where
  pub file : List ℕ
  pub held : files name ≡ Some file
  pub short : length file ≤ max_file
  pub read : read_suffixes file ≡ Err refusal
