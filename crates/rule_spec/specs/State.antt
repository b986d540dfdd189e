-- The extensions that are installed, oldest first, and the count of the updates that were accepted.
use Rattle.std.specs.Prelude.{ℕ, ◌+◌, List, [], ◌∷◌, ◌++◌, Bool, ◌==◌, codes, map, if◌then◌else◌}
use Rattle.std.specs.List.{list_any, filter_map}
use Rattle.std.specs.Prelude.{Option, Some, None}
use Rattle.dnr_base.specs.declared.rank.Rank.{Rank}
use Rattle.dnr_base.specs.declared.rank.Rank.TheVariants.{Session, Dynamic, Static}
use Rattle.rule_spec.specs.Rule.{Rule}

-- A static ruleset. `origins` has the lines of a filter list that each rule comes from, or is empty; `disabled` has
-- the ids of the rules that are switched off.
pub record RuleSet : Type 0 where
  pub id : List ℕ
  pub enabled : Bool
  pub rules : List Rule
  pub origins : List (List ℕ)
  pub disabled : List ℕ

-- The rulesets stand in the order of the manifest. `access` has the texts of the match patterns of what the extension may
-- send elsewhere or change the headers of; without a list it may do so with every request.
pub record Extension : Type 0 where
  pub name : List ℕ
  pub sets : List RuleSet
  pub access : Option (List (List ℕ))
  pub dynamic : List Rule
  pub session : List Rule

pub record State : Type 0 where
  pub extensions : List Extension
  pub count : ℕ

-- a rule that is in force: where it stands, the ruleset's name, and the lines that it comes from
pub record Live : Type 0 where
  pub rank : Rank
  pub set : List ℕ
  pub rule : Rule
  pub lines : List ℕ

abbrev pub has_number : List ℕ → ℕ → Bool
has_number numbers n = list_any (λ other. n == other) numbers

-- a rule with its lines, if the ruleset has any
abbrev pub with_lines : List Rule → List (List ℕ) → List (Rule × List ℕ)
with_lines [] origins = []
with_lines (rule ∷ rules) [] = (rule, []) ∷ with_lines rules []
with_lines (rule ∷ rules) (lines ∷ origins) = (rule, lines) ∷ with_lines rules origins

abbrev pub live_in_set : ℕ → RuleSet → Rule × List ℕ → Option Live
live_in_set place set one =
    if has_number set.disabled one.0.id then None
    else Some (record { rank = Static place; set = set.id; rule = one.0; lines = one.1 })

abbrev pub live_of : ℕ → RuleSet → List Live
live_of place set = if set.enabled then filter_map (live_in_set place set) (with_lines set.rules set.origins) else []

-- the rules of the rulesets that are enabled and not switched off, the first ruleset at this place
abbrev pub live_from : ℕ → List RuleSet → List Live
live_from place [] = []
live_from place (set ∷ sets) = live_of place set ++ live_from (place + 1) sets

abbrev pub live_with : Rank → List ℕ → List Rule → List Live
live_with rank set rules = map (λ rule. record { rank = rank; set = set; rule = rule; lines = [] }) rules

-- the rules in force
abbrev pub live_rules : Extension → List Live
live_rules extension =
    live_with Session (codes "_session") extension.session ++ live_with Dynamic (codes "_dynamic") extension.dynamic
    ++ live_from 0 extension.sets
