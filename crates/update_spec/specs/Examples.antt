-- Examples of updates, each computed from the definitions alone.
use Rattle.std.specs.Prelude.{◌≡◌, ℕ, List, [], ◌∷◌, codes, map, replicate, Bool, true, false, pos, Some, None, Ok, Err}
use Rattle.rule_spec.specs.Rule.{Rule, block, modify_headers}
use Rattle.rule_spec.specs.State.{Extension, State}
use Rattle.rule_spec.specs.Examples.{rule_of}
use Rattle.update_spec.specs.declared.refusal.Refusal.TheVariants.{NoExtension, ExtensionThere, NoRuleset, DuplicateId, NoStaticRule, BothLists, EnabledLimit, UnsafeLimit}
use Rattle.update_spec.specs.Update.{NewRuleSet, NewExtension, Update, dynamic, rulesets, static, install, uninstall, changed}
use Rattle.update_spec.specs.Judge.{judge_update}
use Rattle.update_spec.specs.Entries.{one, batch, judge, after, replay, empty, opening}

abbrev pub block_of : ℕ → Rule
block_of id = rule_of id 1 (codes "||a.com^") block

-- the extension `a`, of which the ruleset `s` has the rules 1 and 2, and is enabled or not, with these ids switched off
abbrev pub shop : Bool → List ℕ → Extension
shop enabled disabled = record {
  name = codes "a";
  sets = record { id = codes "s"; enabled = enabled; rules = block_of 1 ∷ block_of 2 ∷ []; origins = []; disabled = disabled } ∷ [];
  access = None;
  dynamic = [];
  session = [];
}

abbrev pub with_shop : ℕ → Bool → List ℕ → State
with_shop count enabled disabled = record { extensions = shop enabled disabled ∷ []; count = count }

-- the extension `a` as it is installed
abbrev pub new_shop : NewExtension
new_shop = record {
  name = codes "a";
  sets = record { id = codes "s"; enabled = true; rules = block_of 1 ∷ block_of 2 ∷ []; origins = [] } ∷ [];
  access = None;
}

abbrev pub switch_rules : List ℕ → List ℕ → Update
switch_rules disable enable = static (codes "a") (codes "s") (map pos disable) (map pos enable)

abbrev pub switch_set : List (List ℕ) → List (List ℕ) → Update
switch_set disable enable = rulesets (codes "a") disable enable

abbrev pub add_dynamic : List ℕ → List Rule → Update
add_dynamic remove add = dynamic (codes "a") remove add

-- What an update names must be there, and what it installs must not.
abbrev pub NamesAreJudged : Type 0
NamesAreJudged =
    (judge_update (with_shop 0 true []) (uninstall (codes "q")) ≡ Some (NoExtension (codes "q")))
    × (judge_update (with_shop 0 true []) (switch_set [] (codes "t" ∷ [])) ≡ Some (NoRuleset (codes "t")))
    × (judge_update (with_shop 0 true []) (switch_rules (1 ∷ 9 ∷ []) []) ≡ Some (NoStaticRule (pos 9)))
    × (judge_update (with_shop 0 true []) (switch_rules (1 ∷ []) (1 ∷ [])) ≡ Some (BothLists (pos 1)))
    × (judge_update (with_shop 0 true []) (install new_shop) ≡ Some (ExtensionThere (codes "a")))

-- A ruleset that is disabled and enabled ends enabled.
abbrev pub EnablingComesLast : Type 0
EnablingComesLast =
    (judge (with_shop 0 false []) (one (switch_set (codes "s" ∷ []) (codes "s" ∷ []))) ≡ None)
    × (after (with_shop 0 false []) (one (switch_set (codes "s" ∷ []) (codes "s" ∷ []))) ≡ with_shop 1 true [])

-- An id that is disabled twice is off once, and stays off while its ruleset is disabled.
abbrev pub DisabledIdsStay : Type 0
DisabledIdsStay =
    (changed (with_shop 0 true []) (switch_rules (2 ∷ 2 ∷ 1 ∷ []) []) ≡ with_shop 0 true (1 ∷ 2 ∷ []))
    × (
    replay (with_shop 0 true [])
    (one (switch_rules (1 ∷ []) []) ∷ one (switch_set (codes "s" ∷ []) []) ∷ one (switch_set [] (codes "s" ∷ [])) ∷ [])
    ≡ with_shop 3 true (1 ∷ [])
    )
    × (changed (with_shop 0 true (1 ∷ 2 ∷ [])) (switch_rules [] (2 ∷ [])) ≡ with_shop 0 true (1 ∷ []))

-- An id may be added again where it is removed; an id to remove that is not there is ignored.
abbrev pub RemovalComesFirst : Type 0
RemovalComesFirst =
    (
    judge_update (changed (with_shop 0 true []) (add_dynamic [] (block_of 1 ∷ []))) (add_dynamic (1 ∷ 7 ∷ []) (block_of 1 ∷ []))
    ≡ None
    )
    × (
    judge_update (changed (with_shop 0 true []) (add_dynamic [] (block_of 1 ∷ []))) (add_dynamic (7 ∷ []) (block_of 1 ∷ []))
    ≡ Some (DuplicateId 1)
    )

-- Of the dynamic rules 5,000 may change headers; one more is refused.
abbrev pub UnsafeRulesHaveALimit : Type 0
UnsafeRulesHaveALimit =
    judge_update (with_shop 0 true []) (add_dynamic [] (replicate 5001 (rule_of 1 1 (codes "||a.com^") (modify_headers [] []))))
    ≡ Some (UnsafeLimit 5001)

-- A batch is refused at the first update that what the earlier ones leave refuses.
abbrev pub BatchIsJudgedInTurn : Type 0
BatchIsJudgedInTurn =
    judge (with_shop 0 true []) (batch (add_dynamic [] (block_of 1 ∷ []) ∷ add_dynamic [] (block_of 1 ∷ []) ∷ []))
    ≡ Some (1, DuplicateId 1)

-- A batch may uninstall an extension and install one of the same name, and counts once.
abbrev pub BatchCountsOnce : Type 0
BatchCountsOnce =
    (judge (with_shop 0 false []) (batch (uninstall (codes "a") ∷ install new_shop ∷ [])) ≡ None)
    × (after (with_shop 0 false []) (batch (uninstall (codes "a") ∷ install new_shop ∷ [])) ≡ with_shop 1 true [])

-- ---- installations

abbrev pub set_named : List ℕ → Bool → NewRuleSet
set_named id enabled = record { id = id; enabled = enabled; rules = []; origins = [] }

abbrev pub without_rules : List ℕ → List NewRuleSet → NewExtension
without_rules name sets = record { name = name; sets = sets; access = None }

abbrev pub bare : List ℕ → Extension
bare name = record { name = name; sets = []; access = None; dynamic = []; session = [] }

-- Extensions stand in the order of their installation, and count for nothing before the first line.
abbrev pub OldestStandsFirst : Type 0
OldestStandsFirst =
    opening (without_rules (codes "a") [] ∷ without_rules (codes "b") [] ∷ [])
    ≡ Ok (record { extensions = bare (codes "a") ∷ bare (codes "b") ∷ []; count = 0 })

-- A name is installed once.
abbrev pub NameIsInstalledOnce : Type 0
NameIsInstalledOnce =
    opening (without_rules (codes "a") [] ∷ without_rules (codes "a") [] ∷ [])
    ≡ Err (record { extension = codes "a"; cause = ExtensionThere (codes "a") })

-- Fifty enabled rulesets are installed, and one more is refused; those that are not enabled do not count.
abbrev pub EnabledRulesetsHaveALimit : Type 0
EnabledRulesetsHaveALimit =
    (judge_update empty (install (without_rules (codes "a") (replicate 50 (set_named (codes "s") true)))) ≡ None)
    × (
    judge_update empty (install (without_rules (codes "a") (replicate 51 (set_named (codes "s") true))))
    ≡ Some (EnabledLimit 51)
    )
