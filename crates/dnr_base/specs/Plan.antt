-- Which calls of an object in memory are to fail.
use Rattle.std.specs.Prelude.{ℕ, List, Bool, ◌==◌, if◌then◌else◌}
use Rattle.std.specs.List.{list_any}
use Rattle.dnr_base.specs.Faults.{next_count}

-- the numbers of the calls that are to fail, and how many calls and faults there were
pub record Plan : Type 0 where
  pub failing : List ℕ
  pub calls : ℕ
  pub faults : ℕ

-- the next call is one that is to fail: calls are counted from 1
abbrev pub fails_next : Plan → Bool
fails_next plan = list_any (λ call. call == next_count plan.calls) plan.failing

-- after one more fault
abbrev pub after_fault : Plan → Plan
after_fault plan = record { failing = plan.failing; calls = plan.calls; faults = next_count plan.faults }

-- after the next call
abbrev pub after_call : Plan → Plan
after_call plan =
    record { failing = plan.failing; calls = next_count plan.calls; faults = if fails_next plan then next_count plan.faults else plan.faults }
