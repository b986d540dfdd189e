-- Rules that are found by their ids, and what an update makes of them.
use Rattle.std.specs.Prelude.{◌≡◌, ℕ, ◌≤◌, false, nat_eq, List, length, count_by, slice_get, All, Option, Some}
use Rattle.std.specs.HashMap.{HashMap, get}
use Rattle.std.specs.declared.hash.FoldHasher.{FoldHasher}
use Rattle.std.specs.declared.hash.BuildHasherDefault.{BuildHasherDefault}
use Rattle.rule_spec.specs.Rule.{Rule}
use Rattle.update_spec.specs.Judge.{has_id, uses_regex, count_unsafe}
use Rattle.update_spec.specs.Update.{without_ids, replaced}
use Rattle.rule_ids.specs.Counted.{counts_of}
use Rattle.rule_ids.specs.declared.counts.Counts.{Counts}
use Rattle.live_rules.specs.Slots.{there}

-- places by ids
abbrev pub Places : Type 0
Places = HashMap ℕ ℕ (BuildHasherDefault FoldHasher)

-- each rule that is there is found by its id, and so they differ in it; and so many count for a limit
pub record IsLive (slots : List (Option Rule)) (places : Places) (number : Counts) : Type 0 where
  pub found : (place : ℕ) (rule : Rule) → slice_get slots place ≡ Some (Some rule) → get nat_eq places rule.id ≡ Some place
  pub counts : number ≡ counts_of (there slots)

-- there are no more than an extension may have
pub record AreFew (rules : List Rule) : Type 0 where
  pub all : length rules ≤ 30000
  pub unsafe_rules : count_unsafe rules ≤ 5000
  pub patterns : count_by uses_regex rules ≤ 1000

-- the update was made, and none of its rules has the id of one that stays
pub record IsMade (remove : List ℕ) (add old new : List Rule) : Type 0 where
  pub others : All (λ rule. has_id (without_ids remove old) rule.id ≡ false) add
  pub is : new ≡ replaced remove add old
  pub few : AreFew new
