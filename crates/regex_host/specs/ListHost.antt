-- What a host for tests keeps, and what a call does to it.
use Rattle.std.specs.Prelude.{◌≡◌, ◌⊎◌, ℕ, ◌+◌, ◌-◌, ◌^◌, List, [], ◌∷◌, ◌++◌, Bool, true, false, min, Result, Ok, Err}
use Rattle.dnr_base.specs.Plan.{Plan, fails_next, after_call}
use Rattle.regex_host.specs.Asked.{Asked}
use Rattle.regex_host.specs.declared.host.HostRefusal.{HostRefusal}
use Rattle.regex_host.specs.declared.host.HostRefusal.TheVariants.{NoPattern, HostFault, NoMemory}

-- faults of two counters as one count: their sum, which stands still at the end of its type
abbrev pub both_counts : ℕ → ℕ → ℕ
both_counts below own = min (below + own) (2 ^ 64 - 1)

-- the host below, which calls are to fail, and the patterns that were asked for
pub record Listed (H : Type 0) : Type 0 where
  pub below : H
  pub plan : Plan
  pub asked : List (List ℕ)

-- the pattern is kept, and the call counts, as one that is to fail or not
pub record IsKept {H : Type 0} (before : Listed H) (text : List ℕ) (now : Listed H) (is_failing : Bool) : Type 0 where
  pub asked : now.asked ≡ before.asked ++ text ∷ []
  pub plan : now.plan ≡ after_call before.plan
  pub fails : fails_next before.plan ≡ is_failing

-- what is kept of a call before the host below is asked; nothing where there is no memory for it
abbrev pub KeepsCall : {H T : Type 0} → Listed H → List ℕ → Listed H → Result T HostRefusal → Type 0
KeepsCall before pattern now (Ok x) = IsKept before pattern now false
KeepsCall before pattern now (Err HostFault) = IsKept before pattern now true
KeepsCall before pattern now (Err NoPattern) = ⊥
KeepsCall before pattern now (Err NoMemory) = now ≡ before

-- the host below is asked the same by a call that is not to fail
abbrev pub AsksBelow : {H : Type 0} → (H → Asked → H → Type 0) → Listed H → Asked → Listed H → Type 0
AsksBelow asks before asked now =
    (IsKept before asked.pattern now true × (now.below ≡ before.below))
    ⊎ (IsKept before asked.pattern now false × asks before.below asked now.below)

-- what a call does; nothing where there is no memory for it
abbrev pub KeepsOrNot : {H : Type 0} → (H → Asked → H → Type 0) → Listed H → Asked → Listed H → Type 0
KeepsOrNot asks before asked now = AsksBelow asks before asked now ⊎ (now ≡ before)
