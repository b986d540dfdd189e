-- Whether a request is blocked, where no rule in force asks for a match of a pattern and none sends a request elsewhere.
use Rattle.std.specs.Prelude.{ℕ, ◌+◌, ◌*◌, ◌-◌, List, [], ◌∷◌, ◌++◌, map, max, Bool, true, false, not, ◌&&◌, Option, Some, None, is_some, if◌then◌else◌}
use Rattle.std.specs.List.{flat_map, list_all, list_any}
use Rattle.dnr_base.specs.declared.candidate.Candidate.{Candidate}
use Rattle.dnr_base.specs.declared.request.Request.{Request}
use Rattle.dnr_base.specs.declared.verb.Verb.{Verb}
use Rattle.dnr_base.specs.declared.verb.Verb.TheVariants as verb
use Rattle.dnr_base.specs.View.{View}
use Rattle.dnr_spec.specs.Order.{place_of}
use Rattle.dnr_spec.specs.Suffixes.{SuffixRule}
use Rattle.dnr_spec.specs.Target.{is_upgraded}
use Rattle.index_spec.specs.Pairs.{rules_in}
use Rattle.rule_match.specs.Tested.{reaches_by}
use Rattle.rule_spec.specs.declared.reach.Reach.{Reach}
use Rattle.rule_spec.specs.Reaches.{reach_of}
use Rattle.rule_spec.specs.Rule.{Action, block, redirect, allow, upgrade_scheme, modify_headers, allow_all_requests, verb_of, Rule}
use Rattle.rule_spec.specs.Scan.{winner_of}
use Rattle.rule_spec.specs.State.{Extension, Live, RuleSet, State}
use Rattle.update_spec.specs.Update.{without_ids}
use Rattle.generation.specs.declared.block.Block.{Block}
use Rattle.generation.specs.Block.{live_there}
use Rattle.generation.specs.Hits.{part_at}

-- ---- plain rules

abbrev pub is_redirect : Action → Bool
is_redirect block = false
is_redirect (redirect target) = true
is_redirect allow = false
is_redirect upgrade_scheme = false
is_redirect (modify_headers request response) = false
is_redirect allow_all_requests = false

-- the rule has no regexFilter, and is no redirect
abbrev pub is_plain_rule : Rule → Bool
is_plain_rule rule = not (is_some rule.condition.regex_filter) && not (is_redirect rule.action)

abbrev pub are_plain : List Rule → Bool
are_plain rules = list_all is_plain_rule rules

-- so are all rules in force
abbrev pub is_plain : State → Bool
is_plain state = are_plain (rules_in state)

-- ---- the rules in force

abbrev pub rules_by : List Live → List Rule
rules_by lives = map (λ live. live.rule) lives

abbrev pub rules_of_set : RuleSet → List Rule
rules_of_set set = if set.enabled then without_ids set.disabled set.rules else []

abbrev pub rules_of : Extension → List Rule
rules_of extension = extension.session ++ (extension.dynamic ++ flat_map rules_of_set extension.sets)

-- ---- levels

-- How strong a candidate is in its extension, by what decides before its rank and its id: the stronger has the greater
-- number, and each has one above 0.
abbrev pub level_of : ℕ → Verb → ℕ
level_of priority verb = 5 * priority + (5 - place_of verb)

-- 0 of a rule that gives no verdict
abbrev pub level_by : Option Verb → ℕ → ℕ
level_by None priority = 0
level_by (Some verb) priority = level_of priority verb

abbrev pub level_in : Option Candidate → ℕ
level_in None = 0
level_in (Some best) = level_of best.priority best.action

-- a plain rule of this action may decide a request of this view
abbrev pub may_decide : Action → View → Bool
may_decide block view = true
may_decide (redirect target) view = false
may_decide allow view = true
may_decide upgrade_scheme view = is_upgraded view.scheme
may_decide (modify_headers request response) view = false
may_decide allow_all_requests view = true

-- the level of a rule that reaches or not
abbrev pub level_if : Bool → Request → Rule → ℕ
level_if reaches request rule =
    if reaches && may_decide rule.action request.view then level_by (verb_of rule.action) rule.priority else 0

abbrev pub level_at : List SuffixRule → Request → Rule → Reach → ℕ
level_at suffixes request rule part = level_if (reaches_by suffixes rule request part) request rule

abbrev pub level : List SuffixRule → Request → Rule → ℕ
level suffixes request rule = level_if (is_some (reach_of suffixes rule request)) request rule

-- the greatest level of the rules, 0 where none decides
abbrev pub greatest : List SuffixRule → Request → List Rule → ℕ
greatest suffixes request [] = 0
greatest suffixes request (rule ∷ rules) = max (level suffixes request rule) (greatest suffixes request rules)

-- ---- of hits

abbrev pub level_there : List SuffixRule → Request → Option Live → Reach → ℕ
level_there suffixes request None part = 0
level_there suffixes request (Some live) part = level_at suffixes request live.rule part

abbrev pub hit_level : List SuffixRule → Request → Block → ℕ × ℕ → ℕ
hit_level suffixes request among hit = level_there suffixes request (live_there among hit.0) (part_at hit.1)

abbrev pub hits_level : List SuffixRule → Request → Block → List (ℕ × ℕ) → ℕ
hits_level suffixes request among [] = 0
hits_level suffixes request among (hit ∷ hits) = max (hit_level suffixes request among hit) (hits_level suffixes request among hits)

-- ---- blocks

abbrev pub is_block : Verb → Bool
is_block verb.Allow = false
is_block verb.AllowAllRequests = false
is_block verb.Block = true
is_block verb.UpgradeScheme = false
is_block verb.Redirect = false

abbrev pub blocks_by : Option Candidate → Bool
blocks_by None = false
blocks_by (Some best) = is_block best.action

abbrev pub decides_block : Option (Live × Candidate) → Bool
decides_block None = false
decides_block (Some one) = is_block one.1.action

-- the rule of this extension that decides inside it blocks
abbrev pub blocks : List SuffixRule → Request → Extension → Bool
blocks suffixes request extension = decides_block (winner_of suffixes request extension)

abbrev pub some_blocks : List SuffixRule → Request → List Extension → Bool
some_blocks suffixes request extensions = list_any (blocks suffixes request) extensions
