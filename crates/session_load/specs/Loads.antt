-- What is read before a script is answered, from a shelf that may tell what its files hold.
use Rattle.std.specs.Prelude.{◌≡◌, ◌≤◌, ℕ, List, length, Option, Err, IfSome}
use Rattle.dnr_spec.specs.declared.suffix_refusal.SuffixRefusal.{SuffixRefusal}
use Rattle.dnr_spec.specs.Suffixes.{read_suffixes}
use Rattle.rule_spec.specs.declared.rule_kind.RuleKind.{RuleKind}
use Rattle.rule_spec.specs.Rule.{Rule}
use Rattle.compile_spec.specs.Compiled.{CompiledRule, max_compiled, compiled, rules_in, origins_in}
use Rattle.compile_spec.specs.declared.reported.Reported.{Reported}
use Rattle.compile_spec.specs.Report.{report}
use Rattle.list_spec.specs.LineKind.{lines_of}
use Rattle.load_spec.specs.Extensions.{EndsAtOne}
use Rattle.load_spec.specs.Files.{Files, HoldsLongFile}
use Rattle.session_load.specs.Stops.{StopsAs}
use Rattle.session_load.specs.declared.stop.Stop.{Stop}
use Rattle.session_spec.specs.Loading.{PrintsRefusedRules, IsRefusedList, PrintsRefusedList, PrintsRefusedSuffixes, RefusesSuffixes, IsLongSuffixFile, Reads, Refuses, IsTooLong, RefusesFile, HasLongFileIn}
use Rattle.session_spec.specs.Refusals.{ListRefusal, suffixes_line, list_line}
use Rattle.session_spec.specs.Words.{Installed, Serving}

-- ---- rules files; `rose` where the count of the host rose that checks patterns

abbrev pub StopsInRules : Option Files → Type 0 → RuleKind → List ℕ → Stop → Type 0
StopsInRules known rose kind name stop =
    IfSome known (λ files. StopsAs (PrintsRefusedRules files rose kind name) (HoldsLongFile files name) stop)

-- ---- files

-- a file has no form yet, so nothing of it is refused
abbrev pub StopsInFile : Option Files → List ℕ → Stop → Type 0
StopsInFile known name stop = IfSome known (λ files. StopsAs (λ line. ⊥) (HoldsLongFile files name) stop)

-- ---- suffix lists

abbrev pub StopsInSuffixFile : Option Files → List ℕ → Stop → Type 0
StopsInSuffixFile known name stop =
    IfSome known (λ files. StopsAs (PrintsRefusedSuffixes files name) (HoldsLongFile files name) stop)

-- the bytes are no suffix list, and this line says so
pub record PrintsBadSuffixes (name bytes line : List ℕ) : Type 0 where
  pub refusal : SuffixRefusal
  pub read : read_suffixes bytes ≡ Err refusal
  pub same : line ≡ suffixes_line name refusal

abbrev pub StopsInSuffixes : Option Files → Option (List ℕ) → Stop → Type 0
StopsInSuffixes known name stop =
    IfSome known (λ files. StopsAs (λ line. RefusesSuffixes files line name) (IsLongSuffixFile files name) stop)

-- ---- filter lists

-- the bytes are a list that gives these rules, with these lines for each, and these lines give nothing
pub record IsCompiledFrom (bytes : List ℕ) (rules : List Rule) (origins : List (List ℕ)) (reported : List Reported) : Type 0 where
  pub all : List CompiledRule
  pub few : length all ≤ max_compiled
  pub same : all ≡ compiled (lines_of bytes)
  pub are_rules : rules ≡ rules_in all
  pub are_origins : origins ≡ origins_in all
  pub is_report : reported ≡ report (lines_of bytes)

-- the bytes are a list that is refused, and this line says so
pub record PrintsBadList (rose : Type 0) (name bytes line : List ℕ) : Type 0 where
  pub refusal : ListRefusal
  pub refused : IsRefusedList rose bytes refusal
  pub same : line ≡ list_line name refusal

abbrev pub StopsInList : Option Files → Type 0 → List ℕ → Stop → Type 0
StopsInList known rose name stop =
    IfSome known (λ files. StopsAs (PrintsRefusedList files rose name) (HoldsLongFile files name) stop)

-- ---- what is installed

abbrev pub StopsInOne : Option Files → Type 0 → Installed → Stop → Type 0
StopsInOne known rose installed stop =
    IfSome known (λ files. StopsAs (λ line. Refuses files rose line installed) (IsTooLong files installed) stop)

abbrev pub StopsInServing : Option Files → Type 0 → Serving → Stop → Type 0
StopsInServing known rose serving stop =
    IfSome known (λ files. StopsAs (RefusesFile files rose serving) (HasLongFileIn files serving) stop)

-- the first of them that is not read ends so
abbrev pub StopsInExtensions : Option Files → Type 0 → List Installed → Stop → Type 0
StopsInExtensions known rose installed stop =
    IfSome known (λ files.
    StopsAs (λ line. EndsAtOne (Reads files) (Refuses files rose line) installed) (EndsAtOne (Reads files) (IsTooLong files) installed) stop)
