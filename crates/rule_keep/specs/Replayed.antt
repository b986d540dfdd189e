-- The updates that the records of a file hold, made by the rules' ids alone.
use Rattle.std.specs.Prelude.{◌≡◌, ℕ, ◌<◌, List}
use Rattle.rule_spec.specs.Rule.{Rule}
use Rattle.update_spec.specs.Update.{Update, dynamic}
use Rattle.update_spec.specs.Judge.{max_updates}
use Rattle.live_rules.specs.Live.{IsMade}
use Rattle.live_rules.specs.Laws.{alone}
use Rattle.keep_spec.specs.Kept.{empty_extension}
use Rattle.rule_keep.specs.Listed.{IsFound, ReadSoFar}

-- a dynamic update was made, before which there were so many
pub record IsMadeBy (update : Update) (count : ℕ) (old new : List Rule) : Type 0 where
  pub extension : List ℕ
  pub remove : List ℕ
  pub add : List Rule
  pub is : update ≡ dynamic extension remove add
  pub less : count < max_updates
  pub made : IsMade remove add old new

-- the updates of a file leave these rules, and so many they are
abbrev pub IsReplayed : List ℕ → List ℕ → ℕ → List Rule → ℕ → Type 0
IsReplayed name bytes place rules count = IsFound name bytes place (alone (empty_extension name) rules count)

-- so many bytes were read, and the updates of their records leave these rules; for the updates stands what is handed out
pub record ReplayedSoFar (name bytes : List ℕ) (Stands : List Update → Type 0) (place count : ℕ) (rules : List Rule) : Type 0 where
  pub list : List Update
  pub so_far : ReadSoFar name bytes list place (alone (empty_extension name) rules count)
  pub stands : Stands list
