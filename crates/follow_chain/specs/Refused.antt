-- Why a request is not followed to its end.
use Rattle.std.specs.Prelude.{◌≡◌, ℕ, ◌<◌, Result, Ok, Err}
use Rattle.dnr_base.specs.declared.rule_name.RuleName.{RuleName}
use Rattle.dnr_base.specs.Faults.{Rose}
use Rattle.rule_spec.specs.PatternRule.{NamesPattern}
use Rattle.rule_spec.specs.State.{State}
use Rattle.follow_chain.specs.declared.refusal.FollowRefusal.{FollowRefusal}
use Rattle.follow_chain.specs.declared.refusal.FollowRefusal.TheVariants.{HostFault, NoMemory}

-- the host may fail at this hop, counted from 0, of so many, on this rule: one in force that has a regexFilter
pub record IsBlamed (state : State) (hops : ℕ) (hop : ℕ) (rule : RuleName) : Type 0 where
  pub within : hop < hops
  pub pattern : NamesPattern state rule

-- a host's count of faults rises only where its fault is answered
abbrev pub Refuses : (ℕ → RuleName → Type 0) → ℕ → ℕ → FollowRefusal → Type 0
Refuses blamed before now (HostFault hop rule) = Rose before now × blamed hop rule
Refuses blamed before now NoMemory = now ≡ before

abbrev pub Ends : {T : Type 0} → (ℕ → RuleName → Type 0) → ℕ → ℕ → Result T FollowRefusal → Type 0
Ends blamed before now (Ok x) = now ≡ before
Ends blamed before now (Err refusal) = Refuses blamed before now refusal

-- the host may fail at this hop alone
pub record IsBlamedAt (state : State) (place : ℕ) (hop : ℕ) (rule : RuleName) : Type 0 where
  pub here : hop ≡ place
  pub pattern : NamesPattern state rule
