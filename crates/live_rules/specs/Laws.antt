-- Laws of an extension that is installed alone.
use Rattle.std.specs.Prelude.{◌≡◌, ℕ, ◌+◌, ◌<◌, List, [], ◌∷◌, None}
use Rattle.rule_spec.specs.Rule.{Rule}
use Rattle.rule_spec.specs.State.{State}
use Rattle.update_spec.specs.Update.{NewExtension, installed, dynamic, replaced}
use Rattle.update_spec.specs.Judge.{judge_update, max_updates}
use Rattle.update_spec.specs.Entries.{one, after}
use Rattle.live_rules.specs.Live.{IsMade}

-- nothing is installed but this extension, which has these dynamic rules, and so many updates were accepted
abbrev pub alone : NewExtension → List Rule → ℕ → State
alone new rules count = record { extensions = record (installed new) { dynamic = rules } ∷ []; count = count }

-- an update that was made is accepted, while there are no more than may be
abbrev pub MadeUpdatesAreAccepted : Type 0
MadeUpdatesAreAccepted =
    (new : NewExtension) (remove : List ℕ) (add old rules : List Rule) (count : ℕ) → count < max_updates → IsMade remove add old rules
    → judge_update (alone new old count) (dynamic new.name remove add) ≡ None

-- and leaves these rules
abbrev pub UpdatesReplaceRules : Type 0
UpdatesReplaceRules =
    (new : NewExtension) (remove : List ℕ) (add old : List Rule) (count : ℕ)
    → after (alone new old count) (one (dynamic new.name remove add)) ≡ alone new (replaced remove add old) (count + 1)
