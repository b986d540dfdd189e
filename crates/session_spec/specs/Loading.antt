-- What a session reads before its script, in the order of the words: a suffix list, and each extension whole, from its
-- folder or from a filter list.
use Rattle.std.specs.Prelude.{◌≡◌, ◌⊎◌, ℕ, ◌<◌, ◌≤◌, List, [], length, Option, Some, None}
use Rattle.std.specs.List.{AllZip}
use Rattle.dnr_spec.specs.declared.suffix_refusal.SuffixRefusal.{SuffixRefusal}
use Rattle.dnr_spec.specs.Suffixes.{SuffixRule}
use Rattle.rule_spec.specs.declared.rule_kind.RuleKind.{RuleKind}
use Rattle.update_spec.specs.Update.{NewExtension}
use Rattle.list_spec.specs.LineKind.{lines_of}
use Rattle.compile_spec.specs.Compiled.{CompiledRule, max_compiled, compiled}
use Rattle.compile_spec.specs.Installed.{new_list}
use Rattle.compile_spec.specs.Report.{StopsAtLine}
use Rattle.json_spec.specs.RulesFile.{FileRefusal}
use Rattle.load_spec.specs.Files.{Files, HoldsFile, HoldsLongFile, BreaksForm, StopsAtHost, HoldsSuffixes, BreaksSuffixes}
use Rattle.load_spec.specs.Extensions.{EndsAtOne, HoldsExtension, RefusedFile, RefusesExtension, HasLongFile}
use Rattle.session_spec.specs.Refusals.{refusal_line, refused_file_line, suffixes_line, ListRefusal, too_many_rules, host_failed, list_line}
use Rattle.session_spec.specs.Words.{Installed, folder, list, Serving}

-- ---- rules files

-- the file breaks its form, or the host failed at one of its patterns where its count rose; this line says so
pub record PrintsRefusedRules (files : Files) (rose : Type 0) (kind : RuleKind) (name line : List ℕ) : Type 0 where
  pub refusal : FileRefusal
  pub broken : BreaksForm files kind name refusal ⊎ (rose × StopsAtHost files kind name refusal)
  pub same : line ≡ refusal_line name refusal

-- ---- filter lists

-- the file is a list that gives these rules, and not too many
pub record HoldsList (files : Files) (name bytes : List ℕ) (rules : List CompiledRule) : Type 0 where
  pub file : HoldsFile files name bytes
  pub few : length rules ≤ max_compiled
  pub same : rules ≡ compiled (lines_of bytes)

-- Why a list is refused: it gives too many rules, or the pattern host failed at a line with a regular expression, where
-- its count rose.
abbrev pub IsRefusedList : Type 0 → List ℕ → ListRefusal → Type 0
IsRefusedList rose bytes (too_many_rules count) = (count ≡ length (compiled (lines_of bytes))) × (max_compiled < count)
IsRefusedList rose bytes (host_failed line) = rose × StopsAtLine (lines_of bytes) line

-- the file is a list that is refused
pub record RefusesList (files : Files) (rose : Type 0) (name : List ℕ) (refusal : ListRefusal) : Type 0 where
  pub bytes : List ℕ
  pub file : HoldsFile files name bytes
  pub refused : IsRefusedList rose bytes refusal

-- the file is a list, and the extension of its rules has this name
pub record HoldsListExtension (files : Files) (name file : List ℕ) (extension : NewExtension) : Type 0 where
  pub bytes : List ℕ
  pub rules : List CompiledRule
  pub held : HoldsList files file bytes rules
  pub same : extension ≡ new_list name rules

-- ---- one that is installed

-- what is to be installed was read as this extension
abbrev pub Reads : Files → Installed → NewExtension → Type 0
Reads files (folder name) extension = HoldsExtension files name extension
Reads files (list name file) extension = HoldsListExtension files name file extension

-- a file of the folder is refused, and this line says so
pub record PrintsRefusedFile (files : Files) (rose : Type 0) (name line : List ℕ) : Type 0 where
  pub refused : RefusedFile
  pub cause : RefusesExtension files rose name refused
  pub same : line ≡ refused_file_line refused

-- the list is refused, and this line says so
pub record PrintsRefusedList (files : Files) (rose : Type 0) (file line : List ℕ) : Type 0 where
  pub refusal : ListRefusal
  pub cause : RefusesList files rose file refusal
  pub same : line ≡ list_line file refusal

-- it is refused, and this line says so
abbrev pub Refuses : Files → Type 0 → List ℕ → Installed → Type 0
Refuses files rose line (folder name) = PrintsRefusedFile files rose name line
Refuses files rose line (list name file) = PrintsRefusedList files rose file line

-- it has a file that is too long
abbrev pub IsTooLong : Files → Installed → Type 0
IsTooLong files (folder name) = HasLongFile files name
IsTooLong files (list name file) = HoldsLongFile files file

-- ---- all that is read

-- the suffix rules by which parties are told; without a file there are none
abbrev pub ReadsSuffixes : Files → Option (List ℕ) → List SuffixRule → Type 0
ReadsSuffixes files None rules = rules ≡ []
ReadsSuffixes files (Some name) rules = HoldsSuffixes files name rules

-- the suffix list is refused, and this line says so
pub record PrintsRefusedSuffixes (files : Files) (name line : List ℕ) : Type 0 where
  pub refusal : SuffixRefusal
  pub broken : BreaksSuffixes files name refusal
  pub same : line ≡ suffixes_line name refusal

abbrev pub RefusesSuffixes : Files → List ℕ → Option (List ℕ) → Type 0
RefusesSuffixes files line None = ⊥
RefusesSuffixes files line (Some name) = PrintsRefusedSuffixes files name line

abbrev pub IsLongSuffixFile : Files → Option (List ℕ) → Type 0
IsLongSuffixFile files None = ⊥
IsLongSuffixFile files (Some name) = HoldsLongFile files name

-- what was read: the suffix rules, and the extensions in the order of the words
pub record Loaded : Type 0 where
  pub suffixes : List SuffixRule
  pub extensions : List NewExtension

-- all that the words name was read
pub record Loads (files : Files) (serving : Serving) (loaded : Loaded) : Type 0 where
  pub suffixes : ReadsSuffixes files serving.suffixes loaded.suffixes
  pub extensions : AllZip (Reads files) serving.installed loaded.extensions

-- the suffix list was read, and the first extension that is not read ends so
pub record EndsInExtensions (files : Files) (serving : Serving) (Ends : Installed → Type 0) : Type 0 where
  pub suffixes : List SuffixRule
  pub read : ReadsSuffixes files serving.suffixes suffixes
  pub first : EndsAtOne (Reads files) Ends serving.installed

-- the first file that is not read is refused, and this line says so
abbrev pub RefusesFile : Files → Type 0 → Serving → List ℕ → Type 0
RefusesFile files rose serving line =
    RefusesSuffixes files line serving.suffixes ⊎ EndsInExtensions files serving (Refuses files rose line)

-- the first file that is not read is too long
abbrev pub HasLongFileIn : Files → Serving → Type 0
HasLongFileIn files serving = IsLongSuffixFile files serving.suffixes ⊎ EndsInExtensions files serving (IsTooLong files)
