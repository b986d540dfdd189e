-- What was read, where the shelf tells what its files hold.
use Rattle.std.specs.Prelude.{ℕ, List, false, Option, Vec, IfSome}
use Rattle.std.specs.List.{AllZip}
use Rattle.std.specs.declared.alloc.Global.{Global}
use Rattle.dnr_spec.specs.Suffixes.{SuffixRule}
use Rattle.load_spec.specs.Extensions.{HoldsExtension}
use Rattle.load_spec.specs.Files.{Files, HoldsFile, HoldsRules, HoldsSuffixes}
use Rattle.rule_spec.specs.declared.rule_kind.RuleKind.{RuleKind}
use Rattle.rule_spec.specs.Rule.{Rule}
use Rattle.update_spec.specs.Update.{NewExtension}
use Rattle.session_load.specs.Lists.{HoldsCompiled}
use Rattle.session_load.specs.declared.lists.CompiledList.{CompiledList}
use Rattle.session_spec.specs.Loading.{Loaded, Loads, Reads, ReadsSuffixes, HoldsListExtension}
use Rattle.session_spec.specs.Out.{LoadsFor, of_rules}
use Rattle.session_spec.specs.Words.{Installed, Serving}

abbrev pub TellsFile : Option Files → List ℕ → Vec ℕ Global → Type 0
TellsFile known name bytes = IfSome known (λ files. HoldsFile files name bytes.items)

abbrev pub TellsRules : Option Files → RuleKind → List ℕ → Vec Rule Global → Type 0
TellsRules known kind name rules = IfSome known (λ files. HoldsRules files kind name rules.items)

-- the rules of the file are the extension `local`
abbrev pub TellsLocal : Option Files → List ℕ → Loaded → Type 0
TellsLocal known name loaded = IfSome known (λ files. LoadsFor files (of_rules false name) loaded)

abbrev pub TellsList : Option Files → List ℕ → CompiledList → Type 0
TellsList known name list = IfSome known (λ files. HoldsCompiled files name list)

-- the suffix rules of the file, if one is named
abbrev pub TellsSuffixes : Option Files → Option (List ℕ) → List SuffixRule → Type 0
TellsSuffixes known name rules = IfSome known (λ files. ReadsSuffixes files name rules)

abbrev pub TellsSuffixFile : Option Files → List ℕ → List SuffixRule → Type 0
TellsSuffixFile known name rules = IfSome known (λ files. HoldsSuffixes files name rules)

-- the extension of a folder
abbrev pub TellsFolder : Option Files → List ℕ → NewExtension → Type 0
TellsFolder known name extension = IfSome known (λ files. HoldsExtension files name extension)

-- the filter list of a file as an extension of this name
abbrev pub TellsListAs : Option Files → List ℕ → List ℕ → NewExtension → Type 0
TellsListAs known name file extension = IfSome known (λ files. HoldsListExtension files name file extension)

-- either of the two
abbrev pub TellsOne : Option Files → Installed → NewExtension → Type 0
TellsOne known installed extension = IfSome known (λ files. Reads files installed extension)

-- all of them, in their order
abbrev pub TellsAll : Option Files → List Installed → Vec NewExtension Global → Type 0
TellsAll known installed all = IfSome known (λ files. AllZip (Reads files) installed all.items)

abbrev pub TellsServing : Option Files → Serving → Loaded → Type 0
TellsServing known serving loaded = IfSome known (λ files. Loads files serving loaded)
