-- Why no verdict is given.
use Rattle.std.specs.Prelude.{◌≡◌, ℕ, List, IsSome, Result, Ok, Err}
use Rattle.std.specs.List.{Contains}
use Rattle.dnr_base.specs.declared.rule_name.RuleName.{RuleName}
use Rattle.dnr_base.specs.Faults.{Rose}
use Rattle.rule_spec.specs.State.{Extension, Live, live_rules}
use Rattle.rule_spec.specs.Scan.{name_of}
use Rattle.rule_match.specs.declared.refusal.MatchRefusal.{MatchRefusal}
use Rattle.rule_match.specs.declared.refusal.MatchRefusal.TheVariants as tested
use Rattle.generation.specs.declared.refusal.DecideRefusal.{DecideRefusal}
use Rattle.generation.specs.declared.refusal.DecideRefusal.TheVariants.{HostFault, NoMemory}

-- one of these rules of an extension has this name and a regexFilter
pub record IsPattern (extension : List ℕ) (lives : List Live) (name : RuleName) : Type 0 where
  pub live : Live
  pub in_force : Contains lives live
  pub pattern : IsSome live.rule.condition.regex_filter
  pub named : name ≡ name_of extension live

-- so has a rule in force of one of these extensions
pub record IsPatternOf (extensions : List Extension) (name : RuleName) : Type 0 where
  pub extension : Extension
  pub installed : Contains extensions extension
  pub rule : IsPattern extension.name (live_rules extension) name

-- a host's count of faults rises only where its fault is answered
abbrev pub Refuses : (RuleName → Type 0) → ℕ → ℕ → DecideRefusal → Type 0
Refuses blamed before now (HostFault name) = Rose before now × blamed name
Refuses blamed before now NoMemory = now ≡ before

abbrev pub Ends : {T : Type 0} → (RuleName → Type 0) → ℕ → ℕ → Result T DecideRefusal → Type 0
Ends blamed before now (Ok x) = now ≡ before
Ends blamed before now (Err refusal) = Refuses blamed before now refusal

-- the answer where the test of the rule of this name was refused
abbrev pub refusal_by : MatchRefusal → RuleName → DecideRefusal
refusal_by tested.HostFault name = HostFault name
refusal_by tested.NoMemory name = NoMemory
