-- What was made of the filters so far, and what a group of them adds to it.
use Rattle.std.specs.Prelude.{◌≡◌, ℕ, ◌≤◌, List, ◌++◌, length, map, All, IsTrue}
use Rattle.rule_spec.specs.IsRule.{IsRule, is_number}
use Rattle.compile_spec.specs.Initiators.{Initiators, initiators_of}
use Rattle.compile_spec.specs.Compiled.{Standing, Effect, Draft, rule_of, max_compiled, with_ids, rules_in, origins_in}
use Rattle.abp_compile.specs.declared.work.Work.{Work}

abbrev pub draft : Standing → Effect → Initiators → Draft
draft standing effect initiators = record { standing = standing; effect = effect; initiators = initiators }

abbrev pub drafts : Standing → Effect → List Initiators → List Draft
drafts standing effect list = map (draft standing effect) list

-- the rule with this id is a rule
abbrev pub IsGiven : ℕ → Standing → Effect → Initiators → Type 0
IsGiven id standing effect initiators = IsRule (rule_of id (draft standing effect initiators))

-- whatever its id, the rule for each of these initiators is a rule
abbrev pub GiveRules : Standing → Effect → List Initiators → Type 0
GiveRules standing effect list = (id : ℕ) → IsTrue (is_number id) → All (IsGiven id standing effect) list

-- the drafts are counted, and kept as rules where they are not too many
pub record HasDrafts (work : Work) (held : List Draft) : Type 0 where
  pub counted : work.count ≡ length held
  pub rules : work.count ≤ max_compiled → work.rules.items ≡ rules_in (with_ids 1 held)
  pub origins : work.count ≤ max_compiled → work.origins.items ≡ origins_in (with_ids 1 held)

-- whatever drafts there were before, these have come behind them
abbrev pub Gains : List Draft → Work → Work → Type 0
Gains more before now = (held : List Draft) → HasDrafts before held → HasDrafts now (held ++ more)

-- rules with ids from this one on have come behind the others
pub record Keeps (id : ℕ) (more : List Draft) (before now : Work) : Type 0 where
  pub rules : now.rules.items ≡ before.rules.items ++ rules_in (with_ids id more)
  pub origins : now.origins.items ≡ before.origins.items ++ origins_in (with_ids id more)

-- whatever they do, the rules of filters that stand as one are rules
abbrev pub GivesAllRules : Standing → Type 0
GivesAllRules standing = (effect : Effect) → GiveRules standing effect (initiators_of standing.filter.domains)
