-- Rules in force, by themselves, and whether they are plain.
use Rattle.std.proofs.Common.{◌≡◌, ℕ, zero, suc, ◌+◌, ◌*◌, ◌^◌, ◌≤◌, List, [], ◌∷◌, ◌++◌, length, Bool, true, false, not, ◌&&◌, ◌||◌, cond, Option, Some, None, is_some, refl, sym, ap, ◌∙◌, arith, codes, length-append}
use Rattle.std.specs.List.{Contains, cons_option, filter_map, flat_map, list_all}
use Rattle.std.proofs.lemmas.List.{map-append}
use Rattle.std.proofs.lemmas.List.Folds.{list_all-append}
use Rattle.dnr_base.specs.declared.rank.Rank.{Rank}
use Rattle.dnr_base.specs.declared.rank.Rank.TheVariants.{Session, Dynamic}
use Rattle.index_spec.specs.Pairs.{rules_in}
use Rattle.rule_spec.specs.Rule.{Rule}
use Rattle.rule_spec.specs.State.{Extension, Live, RuleSet, State, has_number, live_from, live_in_set, live_of, live_rules, live_with, with_lines}
use Rattle.update_spec.specs.Update.{without_ids}
use Rattle.generation.specs.Plain.{are_plain, is_plain_rule, rules_by, rules_of, rules_of_set}

-- ---- plain rules

pub both : (a b : Bool) → (a && b) ≡ true → (a ≡ true) × (b ≡ true)
both true true h = (refl, refl)
both true false h = cc
both false b h = cc

plain_case : (plain off : Bool) (rule : Rule) (rules : List Rule) (rest : Bool) → is_plain_rule rule ≡ plain → rest ≡ are_plain rules
    → ((plain || off) && rest) ≡ are_plain (cond (not off) (rule ∷ rules) rules)
plain_case true true rule rules rest is same = same
plain_case false true rule rules rest is same = same
plain_case true false rule rules rest is same = same ∙ sym (ap (λ b. b && are_plain rules) is)
plain_case false false rule rules rest is same = sym (ap (λ b. b && are_plain rules) is)

-- those that are not off are plain where each is plain or off
pub live_are_plain : (off : List ℕ) (rules : List Rule) → list_all (λ rule. is_plain_rule rule || has_number off rule.id) rules ≡ are_plain (without_ids off rules)
live_are_plain off [] = refl
live_are_plain off (rule ∷ rules) =
    plain_case (is_plain_rule rule) (has_number off rule.id) rule (without_ids off rules) (list_all (λ rule. is_plain_rule rule || has_number off rule.id) rules) refl (live_are_plain off rules)

pub plain_both : (xs ys : List Rule) → are_plain (xs ++ ys) ≡ (are_plain xs && are_plain ys)
plain_both xs ys = list_all-append is_plain_rule xs ys

pub each_is_plain : {X : Type 0} (rules : X → List Rule) (xs : List X) → list_all (λ x. are_plain (rules x)) xs ≡ are_plain (flat_map rules xs)
each_is_plain rules [] = refl
each_is_plain rules (x ∷ xs) = ap (λ b. are_plain (rules x) && b) (each_is_plain rules xs) ∙ sym (plain_both (rules x) (flat_map rules xs))

and_two : (a b c : Bool) → (a && (b && c)) ≡ (a && b && c)
and_two true b c = refl
and_two false b c = refl

pub all_three : (extension : Extension) → are_plain (rules_of extension) ≡ (are_plain extension.session && are_plain extension.dynamic && are_plain (flat_map rules_of_set extension.sets))
all_three extension =
    let sets = flat_map rules_of_set extension.sets in
    plain_both extension.session (extension.dynamic ++ sets)
    ∙ ap (λ b. are_plain extension.session && b) (plain_both extension.dynamic sets)
    ∙ and_two (are_plain extension.session) (are_plain extension.dynamic) (are_plain sets)

pub plain_there : (rules : List Rule) (rule : Rule) → are_plain rules ≡ true → Contains rules rule → is_plain_rule rule ≡ true
plain_there [] rule all has = absurd (let within = has.1 in omega arith)
plain_there (own ∷ rules) rule all (zero, within, is) = sym (ap is_plain_rule is) ∙ (both (is_plain_rule own) (are_plain rules) all).0
plain_there (own ∷ rules) rule all (suc k, within, is) = plain_there rules rule (both (is_plain_rule own) (are_plain rules) all).1 (k, omega (arith, within), is)

none_of : {X : Type 0} (o : Option X) → not (is_some o) ≡ true → o ≡ None
none_of None h = refl
none_of (Some x) h = cc

pub asks_none : (rule : Rule) → is_plain_rule rule ≡ true → rule.condition.regex_filter ≡ None
asks_none rule h = none_of rule.condition.regex_filter (both (not (is_some rule.condition.regex_filter)) _ h).0

-- ---- rules in force

pub with_rules : (rank : Rank) (set : List ℕ) (rules : List Rule) → rules_by (live_with rank set rules) ≡ rules
with_rules rank set [] = refl
with_rules rank set (rule ∷ rules) = ap (λ l. rule ∷ l) (with_rules rank set rules)

set_case : (off : Bool) (live : Live) (lives : List Live) (rules : List Rule) → rules_by lives ≡ rules
    → rules_by (cons_option (cond off None (Some live)) lives) ≡ cond (not off) (live.rule ∷ rules) rules
set_case true live lives rules same = same
set_case false live lives rules same = ap (λ l. live.rule ∷ l) same

set_rules : (place : ℕ) (set : RuleSet) (rules : List Rule) (origins : List (List ℕ)) → rules_by (filter_map (live_in_set place set) (with_lines rules origins)) ≡ without_ids set.disabled rules
set_rules place set [] origins = refl
set_rules place set (rule ∷ rules) [] =
    set_case (has_number set.disabled rule.id) _ (filter_map (live_in_set place set) (with_lines rules [])) (without_ids set.disabled rules) (set_rules place set rules [])
set_rules place set (rule ∷ rules) (lines ∷ origins) =
    set_case (has_number set.disabled rule.id) _ (filter_map (live_in_set place set) (with_lines rules origins)) (without_ids set.disabled rules) (set_rules place set rules origins)

enabled_case : (enabled : Bool) (lives : List Live) (rules : List Rule) → rules_by lives ≡ rules → rules_by (cond enabled lives []) ≡ cond enabled rules []
enabled_case true lives rules same = same
enabled_case false lives rules same = refl

of_set_rules : (place : ℕ) (set : RuleSet) → rules_by (live_of place set) ≡ rules_of_set set
of_set_rules place set = enabled_case set.enabled (filter_map (live_in_set place set) (with_lines set.rules set.origins)) (without_ids set.disabled set.rules) (set_rules place set set.rules set.origins)

pub sets_rules : (place : ℕ) (sets : List RuleSet) → rules_by (live_from place sets) ≡ flat_map rules_of_set sets
sets_rules place [] = refl
sets_rules place (set ∷ sets) =
    map-append (λ (live : Live). live.rule) (live_of place set) (live_from (place + 1) sets)
    ∙ ap (λ l. l ++ rules_by (live_from (place + 1) sets)) (of_set_rules place set)
    ∙ ap (λ l. rules_of_set set ++ l) (sets_rules (place + 1) sets)

append_three : {X : Type 0} (xs ys zs : List X) → (xs ++ ys) ++ zs ≡ xs ++ (ys ++ zs)
append_three [] ys zs = refl
append_three (x ∷ xs) ys zs = ap (λ l. x ∷ l) (append_three xs ys zs)

pub rules_are : (extension : Extension) → rules_by (live_rules extension) ≡ rules_of extension
rules_are extension =
    let session = live_with Session (codes "_session") extension.session in
    let dynamic = live_with Dynamic (codes "_dynamic") extension.dynamic in
    let sets = live_from 0 extension.sets in
    map-append (λ (live : Live). live.rule) (session ++ dynamic) sets
    ∙ ap (λ l. l ++ rules_by sets) (map-append (λ (live : Live). live.rule) session dynamic)
    ∙ append_three (rules_by session) (rules_by dynamic) (rules_by sets)
    ∙ ap (λ l. l ++ (rules_by dynamic ++ rules_by sets)) (with_rules Session (codes "_session") extension.session)
    ∙ ap (λ l. extension.session ++ (l ++ rules_by sets)) (with_rules Dynamic (codes "_dynamic") extension.dynamic)
    ∙ ap (λ l. extension.session ++ (extension.dynamic ++ l)) (sets_rules 0 extension.sets)

all_rules : (extensions : List Extension) → flat_map (λ extension. rules_by (live_rules extension)) extensions ≡ flat_map rules_of extensions
all_rules [] = refl
all_rules (extension ∷ extensions) =
    ap (λ l. l ++ flat_map (λ e. rules_by (live_rules e)) extensions) (rules_are extension)
    ∙ ap (λ l. rules_of extension ++ l) (all_rules extensions)

pub all_in_force : (state : State) → rules_in state ≡ flat_map rules_of state.extensions
all_in_force state = all_rules state.extensions

-- ---- how many

pub few_more : (s a b : ℕ) → 2 ^ s ≤ 2 * a + 1 → a ≤ b → 2 ^ s ≤ 2 * b + 1
few_more s a b few less = omega arith

pub rules_within : (extensions : List Extension) (extension : Extension) → Contains extensions extension → length (rules_of extension) ≤ length (flat_map rules_of extensions)
rules_within [] extension has = absurd (let within = has.1 in omega arith)
rules_within (own ∷ extensions) extension (zero, within, is) =
    let long = length-append (rules_of own) (flat_map rules_of extensions) in
    let same = ap (λ e. length (rules_of e)) is in
    omega arith
rules_within (own ∷ extensions) extension (suc k, within, is) =
    let long = length-append (rules_of own) (flat_map rules_of extensions) in
    let more = rules_within extensions extension (k, omega (arith, within), is) in
    omega arith

-- ---- told

pub extension_told : (extension : Extension) → (are_plain extension.session && are_plain extension.dynamic && list_all (λ set. are_plain (rules_of_set set)) extension.sets) ≡ are_plain (rules_of extension)
extension_told extension =
    ap (λ b. are_plain extension.session && are_plain extension.dynamic && b) (each_is_plain rules_of_set extension.sets) ∙ sym (all_three extension)

pub state_told : (state : State) (extensions : List Extension) → extensions ≡ state.extensions → list_all (λ extension. are_plain (rules_of extension)) extensions ≡ are_plain (rules_in state)
state_told state extensions is =
    each_is_plain rules_of extensions ∙ ap (λ e. are_plain (flat_map rules_of e)) is ∙ ap are_plain (sym (all_in_force state))
