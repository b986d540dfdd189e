-- Rules that are looked up together: those of a segment that was added to an extension, or of all its static rulesets.
use Rattle.std.specs.Prelude.{ℕ, ◌+◌, ◌-◌, List, [], ◌∷◌, ◌++◌, length, codes, nat_lt, Option, Some, None, unwrap_or, slice_get, option_and_then, if◌then◌else◌}
use Rattle.std.specs.List.{cons_option}
use Rattle.dnr_base.specs.declared.rank.Rank.{Rank}
use Rattle.dnr_base.specs.declared.rank.Rank.TheVariants.{Session, Dynamic, Static}
use Rattle.rule_spec.specs.Rule.{Rule}
use Rattle.rule_spec.specs.State.{Extension, Live, RuleSet, has_number, live_with}
use Rattle.ruleset_store.specs.StaticIndex.{lists_of, rules_among}
use Rattle.generation.specs.declared.block.Block.{Block}
use Rattle.generation.specs.declared.block.Block.TheVariants.{Added, Sets}

-- how rules stand at a place: the ids of those that are off, and what is known of the others
pub record Standing : Type 0 where
  pub rank : Rank
  pub set : List ℕ
  pub off : List ℕ
  pub lines : List ℕ

-- a rule that stands so, unless it is switched off
abbrev pub live_by : Standing → Rule → Option Live
live_by standing rule =
    if has_number standing.off rule.id then None
    else Some (record { rank = standing.rank; set = standing.set; rule = rule; lines = standing.lines })

-- the same, where rules stand there at all
abbrev pub live_by_some : Option Standing → Rule → Option Live
live_by_some None rule = None
live_by_some (Some standing) rule = live_by standing rule

-- the lines of the rule at a place
abbrev pub lines_at : List (List ℕ) → ℕ → List ℕ
lines_at origins place = unwrap_or (slice_get origins place) []

-- at a place of a ruleset of this number, if it is enabled
abbrev pub standing_in : ℕ → RuleSet → ℕ → Option Standing
standing_in number set place =
    if set.enabled then Some (record { rank = Static number; set = set.id; off = set.disabled; lines = lines_at set.origins place })
    else None

-- at a place of the rulesets, which stand one behind another, the first of this number
abbrev pub standing_from : ℕ → List RuleSet → ℕ → Option Standing
standing_from number [] place = None
standing_from number (set ∷ sets) place =
    if nat_lt place (length set.rules) then standing_in number set place
    else standing_from (number + 1) sets (place - length set.rules)

-- the rule at a place of a ruleset of this number, if one stands there and is in force
abbrev pub set_there : ℕ → RuleSet → ℕ → Option Live
set_there number set place = option_and_then (live_by_some (standing_in number set place)) (slice_get set.rules place)

-- the rule at a place of the rulesets, the first of this number
abbrev pub sets_there : ℕ → List RuleSet → ℕ → Option Live
sets_there number sets place = option_and_then (live_by_some (standing_from number sets place)) (slice_get (rules_among (lists_of sets)) place)

-- the rules that are looked up together, whether in force or not
abbrev pub listed_in : Block → List Rule
listed_in (Added rank set segment) = segment.now.rules
listed_in (Sets extension) = rules_among (lists_of extension.now.sets)

abbrev pub standing_at : Block → ℕ → Option Standing
standing_at (Added rank set segment) place = Some (record { rank = rank; set = set.now; off = segment.now.removed; lines = [] })
standing_at (Sets extension) place = standing_from 0 extension.now.sets place

-- the rule at a place of a block, if it is in force
abbrev pub live_in : Block → ℕ → Rule → Option Live
live_in block place rule = live_by_some (standing_at block place) rule

-- the same, if one stands there
abbrev pub live_there : Block → ℕ → Option Live
live_there block place = option_and_then (live_in block place) (slice_get (listed_in block) place)

-- those of the rules that are in force, the first at this place
abbrev pub lives_from : (ℕ → Rule → Option Live) → ℕ → List Rule → List Live
lives_from live place [] = []
lives_from live place (rule ∷ rules) = cons_option (live place rule) (lives_from live (place + 1) rules)

abbrev pub lives_in : Block → List Live
lives_in block = lives_from (live_in block) 0 (listed_in block)

-- the rules that were added to an extension since it was installed
abbrev pub added_to : Extension → List Live
added_to extension = live_with Session (codes "_session") extension.session ++ live_with Dynamic (codes "_dynamic") extension.dynamic
