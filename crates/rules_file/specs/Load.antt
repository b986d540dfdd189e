-- Why a rules file of a shelf gives no rules.
use Rattle.std.specs.Prelude.{◌≡◌, ◌⊎◌, ℕ, List, Vec, Bool, true, false, Result, Ok, Err}
use Rattle.std.specs.declared.alloc.Global.{Global}
use Rattle.dnr_io.specs.declared.shelf.ShelfRefusal.{ShelfRefusal}
use Rattle.dnr_io.specs.declared.shelf.ShelfRefusal.TheVariants as shelf
use Rattle.rule_spec.specs.declared.placed_refusal.PlacedRefusal.{PlacedRefusal}
use Rattle.rule_spec.specs.declared.rule_kind.RuleKind.{RuleKind}
use Rattle.rule_spec.specs.declared.rule_refusal.RuleRefusal.{RuleRefusal}
use Rattle.rule_spec.specs.declared.rule_refusal.RuleRefusal.TheVariants as rule
use Rattle.rule_spec.specs.Rule.{Rule}
use Rattle.json_spec.specs.RulesFile as spec
use Rattle.json_spec.specs.RulesFile.{rules_of, bad_rules, StopsInFile}
use Rattle.load_spec.specs.Files.{Files, BreaksForm, StopsAtHost, HoldsLongFile}
use Rattle.rules_file.specs.declared.FileRefusal.{FileRefusal}
use Rattle.rules_file.specs.declared.FileRefusal.TheVariants.{BadJson, BadRules}
use Rattle.rules_file.specs.Answers.{IsCalmFile, refusal_seen, is_no_memory}
use Rattle.rules_file.specs.declared.load.LoadRefusal.{LoadRefusal}
use Rattle.rules_file.specs.declared.load.LoadRefusal.TheVariants.{BadFile, ReadFault, FileTooLong, NoMemory}

abbrev pub load_refusal : ShelfRefusal → LoadRefusal
load_refusal shelf.Failed = ReadFault
load_refusal shelf.TooLong = FileTooLong
load_refusal shelf.NoMemory = NoMemory

abbrev pub is_memory : FileRefusal → Bool
is_memory BadJson = false
is_memory (BadRules refusal) = is_no_memory refusal.cause

-- a file is refused, and no memory was wanting
abbrev pub IsNoMemoryApart : LoadRefusal → Type 0
IsNoMemoryApart (BadFile refusal) = is_memory refusal ≡ false
IsNoMemoryApart ReadFault = Unit {0}
IsNoMemoryApart FileTooLong = Unit {0}
IsNoMemoryApart NoMemory = Unit {0}

-- the bytes are refused so, or a pattern host failed at the rule that is named
abbrev pub IsRefusedSo : RuleKind → List ℕ → Type 0 → spec.FileRefusal → Type 0
IsRefusedSo kind bytes rose refusal =
    (rules_of kind bytes ≡ Err refusal)
    ⊎ (rose × (placed : PlacedRefusal) × (refusal ≡ bad_rules placed) × StopsInFile kind bytes placed)

-- why the bytes of a file give no rules
abbrev pub IsStopped : RuleKind → List ℕ → Type 0 → LoadRefusal → Type 0
IsStopped kind bytes rose (BadFile refusal) = IsRefusedSo kind bytes rose (refusal_seen refusal)
IsStopped kind bytes rose ReadFault = ⊥
IsStopped kind bytes rose FileTooLong = ⊥
IsStopped kind bytes rose NoMemory = Unit {0}

-- why the file of this name is refused; faults are told by their count
abbrev pub Refuses : Files → RuleKind → List ℕ → Type 0 → LoadRefusal → Type 0
Refuses files kind name rose (BadFile refusal) =
    BreaksForm files kind name (refusal_seen refusal) ⊎ (rose × StopsAtHost files kind name (refusal_seen refusal))
Refuses files kind name rose ReadFault = Unit {0}
Refuses files kind name rose FileTooLong = HoldsLongFile files name
Refuses files kind name rose NoMemory = Unit {0}

-- The count of a pattern host's faults stays, unless the host is why the file is refused, or the file is no JSON: no
-- fault is passed over.
abbrev pub IsCalmLoad : ℕ → ℕ → Result (Vec Rule Global) LoadRefusal → Type 0
IsCalmLoad before now (Ok rules) = now ≡ before
IsCalmLoad before now (Err (BadFile refusal)) = IsCalmFile before now (Err refusal)
IsCalmLoad before now (Err ReadFault) = now ≡ before
IsCalmLoad before now (Err FileTooLong) = now ≡ before
IsCalmLoad before now (Err NoMemory) = now ≡ before

-- the rules were read in some bytes as a list of this kind, so each has an id of its own
abbrev pub AreRead : RuleKind → Vec Rule Global → Type 0
AreRead kind rules = (bytes : List ℕ) × (rules_of kind bytes ≡ Ok rules.items)
