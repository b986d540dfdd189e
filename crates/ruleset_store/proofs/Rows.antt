-- The table of tests, for an update whose extension is there and for one whose extension is not.
use Rattle.std.proofs.Common.{◌≡◌, ℕ, ℤ, List, [], ◌∷◌, ◌++◌, Bool, true, false, cond, ◌||◌, length, map, count_by, Option, Some, None, refl, sym, ap, ◌∙◌, subst}
use Rattle.std.specs.Prelude.{find, Result, Ok, Err, IfOk, IfErr, OnOk}
use Rattle.std.specs.declared.vec.Vec.{Vec}
use Rattle.std.specs.declared.alloc.Global.{Global}
use Rattle.std.specs.List.{list_any}
use Rattle.rule_spec.specs.Rule.{Rule}
use Rattle.rule_spec.specs.State.{RuleSet, Extension}
use Rattle.update_spec.specs.declared.refusal.Refusal.{Refusal}
use Rattle.update_spec.specs.declared.refusal.Refusal.TheVariants as refusal
use Rattle.update_spec.specs.Update as spec
use Rattle.update_spec.specs.Judge.{judge_update, first_refusal, named, limited, refused_if, first_refused, first_duplicate, uses_regex, count_unsafe, count_rules, count_patterns, count_disabled, enabled_sets, drawn, lacks_set, lacks_rule, of_set}
use Rattle.ruleset_store.specs.Installed.{put_first}
use Rattle.ruleset_store.specs.Seen.{IsRefusalOf, IsMadeIn, Places, judge_in, state_in, switched_among}
use Rattle.ruleset_store.specs.Tests.{dynamic_tests, session_tests, ruleset_tests, static_tests, switched_tests, sets_after, install_tests, both_test, disabled_limits, count_test}

-- ---- what is found

found_step : {X : Type 0} (b : Bool) (y x : X) (rest : Option X) (there : Bool) → (rest ≡ Some x → there ≡ true) → cond b (Some y) rest ≡ Some x → (b || there) ≡ true
found_step true y x rest there later e = refl
found_step false y x rest there later e = later e

pub found_there : {X : Type 0} (p : X → Bool) (xs : List X) (x : X) → find p xs ≡ Some x → list_any p xs ≡ true
found_there p [] x e = cc
found_there p (y ∷ ys) x e = found_step (p y) y x (find p ys) (list_any p ys) (found_there p ys x) e

not_step : {X : Type 0} (b : Bool) (y : X) (rest : Option X) (there : Bool) → (rest ≡ None → there ≡ false) → cond b (Some y) rest ≡ None → (b || there) ≡ false
not_step true y rest there later e = cc
not_step false y rest there later e = later e

pub not_there : {X : Type 0} (p : X → Bool) (xs : List X) → find p xs ≡ None → list_any p xs ≡ false
not_there p [] e = refl
not_there p (y ∷ ys) e = not_step (p y) y (find p ys) (list_any p ys) (not_there p ys) e

some_is : {X : Type 0} (x y : X) → Some x ≡ Some y → x ≡ y
some_is x y e = cc

first_step : {X : Type 0} (b : Bool) (f : X → X) (x next y : X) (ys a c : List X) (rest : Option X) → next ≡ f x → (rest ≡ Some x → a ≡ c) → cond b (Some y) rest ≡ Some x
    → cond b (next ∷ ys) (y ∷ a) ≡ cond b (f y ∷ ys) (y ∷ c)
first_step true f x next y ys a c rest same later e = ap (λ z. z ∷ ys) (same ∙ ap f (sym (some_is y x e)))
first_step false f x next y ys a c rest same later e = ap (λ zs. y ∷ zs) (later e)

-- the first that is meant is the one that is found
pub first_is : {X : Type 0} (p : X → Bool) (f : X → X) (x next : X) (xs : List X) → next ≡ f x → find p xs ≡ Some x
    → spec.with_first p (λ _. next) xs ≡ spec.with_first p f xs
first_is p f x next [] same e = refl
first_is p f x next (y ∷ ys) same e =
    first_step (p y) f x next y ys (spec.with_first p (λ _. next) ys) (spec.with_first p f ys) (find p ys) same (first_is p f x next ys same) e

-- ---- the order of tests

dynamic_order : (a b c d e : Option Refusal) → first_refusal (a ∷ None ∷ None ∷ None ∷ None ∷ None ∷ None ∷ None ∷ b ∷ c ∷ None ∷ d ∷ None ∷ e ∷ []) ≡ first_refusal (a ∷ b ∷ c ∷ d ∷ e ∷ [])
dynamic_order (Some r) b c d e = refl
dynamic_order None (Some r) c d e = refl
dynamic_order None None (Some r) d e = refl
dynamic_order None None None (Some r) e = refl
dynamic_order None None None None e = refl

session_order : (a b c d : Option Refusal) → first_refusal (a ∷ None ∷ None ∷ None ∷ None ∷ None ∷ None ∷ None ∷ None ∷ None ∷ b ∷ c ∷ None ∷ d ∷ []) ≡ first_refusal (a ∷ b ∷ c ∷ d ∷ [])
session_order (Some r) b c d = refl
session_order None (Some r) c d = refl
session_order None None (Some r) d = refl
session_order None None None d = refl

static_order : (a b c d e : Option Refusal) → first_refusal (a ∷ None ∷ b ∷ c ∷ None ∷ None ∷ None ∷ None ∷ None ∷ None ∷ None ∷ None ∷ None ∷ d ∷ e ∷ []) ≡ first_refusal (a ∷ b ∷ c ∷ d ∷ e ∷ [])
static_order (Some r) b c d e = refl
static_order None (Some r) c d e = refl
static_order None None (Some r) d e = refl
static_order None None None (Some r) e = refl
static_order None None None None e = refl

ruleset_order : (a b c d e : Option Refusal) → first_refusal (a ∷ None ∷ None ∷ None ∷ None ∷ None ∷ None ∷ b ∷ c ∷ None ∷ None ∷ None ∷ d ∷ None ∷ e ∷ []) ≡ first_refusal (a ∷ b ∷ c ∷ d ∷ e ∷ [])
ruleset_order (Some r) b c d e = refl
ruleset_order None (Some r) c d e = refl
ruleset_order None None (Some r) d e = refl
ruleset_order None None None (Some r) e = refl
ruleset_order None None None None e = refl

install_order : (a b c d e f g h : Option Refusal) → first_refusal (a ∷ None ∷ None ∷ None ∷ None ∷ b ∷ c ∷ d ∷ e ∷ f ∷ None ∷ None ∷ None ∷ g ∷ None ∷ h ∷ []) ≡ first_refusal (a ∷ b ∷ c ∷ d ∷ e ∷ f ∷ g ∷ h ∷ [])
install_order (Some r) b c d e f g h = refl
install_order None (Some r) c d e f g h = refl
install_order None None (Some r) d e f g h = refl
install_order None None None (Some r) e f g h = refl
install_order None None None None (Some r) f g h = refl
install_order None None None None None (Some r) g h = refl
install_order None None None None None None (Some r) h = refl
install_order None None None None None None None h = refl

pub dynamic_rows : (extensions : List Extension) (count : ℕ) (name remove : List ℕ) (add : List Rule) (e : Extension) → named name extensions ≡ Some e
    → judge_in extensions count (spec.dynamic name remove add) ≡ first_refusal (dynamic_tests count remove add e.dynamic)
unfolding judge_update
dynamic_rows extensions count name remove add e is =
    let next = spec.replaced remove add e.dynamic in
    rw (found_there (spec.has_name name) extensions e is, is)
    (dynamic_order (first_duplicate remove add e.dynamic) (limited 30000 refusal.DynamicLimit (length next)) (limited 5000 refusal.UnsafeLimit (count_unsafe next))
    (limited 1000 refusal.RegexLimit (count_by uses_regex next)) (count_test count))

pub session_rows : (extensions : List Extension) (count : ℕ) (name remove : List ℕ) (add : List Rule) (e : Extension) → named name extensions ≡ Some e
    → judge_in extensions count (spec.session name remove add) ≡ first_refusal (session_tests count remove add e.session)
unfolding judge_update
session_rows extensions count name remove add e is =
    let next = spec.replaced remove add e.session in
    rw (found_there (spec.has_name name) extensions e is, is)
    (session_order (first_duplicate remove add e.session) (limited 5000 refusal.SessionLimit (length next)) (limited 1000 refusal.RegexLimit (count_by uses_regex next)) (count_test count))

pub static_rows : (extensions : List Extension) (count : ℕ) (name id : List ℕ) (disable enable : List ℤ) (e : Extension) → named name extensions ≡ Some e
    → judge_in extensions count (spec.static name id disable enable) ≡ first_refusal (static_tests count id disable enable e)
unfolding judge_update
static_rows extensions count name id disable enable e is =
    let next = spec.with_first (spec.has_set_id id) (spec.with_rules_switched disable enable) e.sets in
    rw (found_there (spec.has_name name) extensions e is, is)
    (static_order (refused_if (lacks_set e id) (refusal.NoRuleset id)) (of_set id e (λ set. first_refused (lacks_rule set) refusal.NoStaticRule (disable ++ enable)))
    (both_test disable enable) (limited 5000 refusal.DisabledLimit (count_disabled next)) (count_test count))

pub ruleset_rows : (extensions : List Extension) (count : ℕ) (name : List ℕ) (disable enable : List (List ℕ)) (e : Extension) → named name extensions ≡ Some e
    → judge_in extensions count (spec.rulesets name disable enable)
    ≡ first_refusal (ruleset_tests count disable enable e (spec.extensions_after (spec.rulesets name disable enable) extensions))
unfolding judge_update
ruleset_rows extensions count name disable enable e is =
    let next = map (spec.switched disable enable) e.sets in
    rw (found_there (spec.has_name name) extensions e is, is)
    (ruleset_order (first_refused (lacks_set e) refusal.NoRuleset (disable ++ enable)) (limited 50 refusal.EnabledLimit (length (enabled_sets next)))
    (limited 300000 refusal.PoolLimit (drawn (spec.extensions_after (spec.rulesets name disable enable) extensions)))
    (limited 1000 refusal.RegexLimit (count_patterns (enabled_sets next))) (count_test count))

pub uninstall_rows : (extensions : List Extension) (count : ℕ) (name : List ℕ) (e : Extension) → named name extensions ≡ Some e
    → judge_in extensions count (spec.uninstall name) ≡ first_refusal (count_test count ∷ [])
unfolding judge_update
uninstall_rows extensions count name e is = rw (found_there (spec.has_name name) extensions e is, is) refl

pub install_rows : (extensions : List Extension) (count : ℕ) (new : spec.NewExtension)
    → judge_in extensions count (spec.install new) ≡ first_refusal (install_tests count new extensions)
unfolding judge_update
install_rows extensions count new =
    let sets = (spec.installed new).sets in
    let next = extensions ++ spec.installed new ∷ [] in
    install_order (refused_if (list_any (spec.has_name new.name) extensions) (refusal.ExtensionThere new.name)) (limited 16 refusal.ExtensionLimit (length next))
    (limited 100 refusal.RulesetLimit (length new.sets)) (limited 330000 refusal.RulesLimit (count_rules sets)) (limited 50 refusal.EnabledLimit (length (enabled_sets sets)))
    (limited 300000 refusal.PoolLimit (drawn next)) (limited 1000 refusal.RegexLimit (count_patterns (enabled_sets sets))) (count_test count)

-- ---- a ruleset whose rules are switched

pub sets_is : (id : List ℕ) (disable enable : List ℤ) (e : Extension) (set : RuleSet) → find (spec.has_set_id id) e.sets ≡ Some set
    → spec.with_first (spec.has_set_id id) (spec.with_rules_switched disable enable) e.sets ≡ sets_after id disable enable set e
unfolding put_first
sets_is id disable enable e set found =
    sym (first_is (spec.has_set_id id) (spec.with_rules_switched disable enable) set (spec.with_rules_switched disable enable set) e.sets refl found)

pub static_found : (count : ℕ) (id : List ℕ) (disable enable : List ℤ) (e : Extension) (set : RuleSet) → find (spec.has_set_id id) e.sets ≡ Some set
    → first_refusal (static_tests count id disable enable e) ≡ first_refusal (switched_tests count id disable enable set e)
static_found count id disable enable e set found =
    rw (found_there (spec.has_set_id id) e.sets set found, found)
    (ap (λ (sets : List RuleSet). first_refusal (first_refused (lacks_rule set) refusal.NoStaticRule (disable ++ enable) ∷ both_test disable enable ∷ disabled_limits count sets))
    (sets_is id disable enable e set found))

pub static_no_set : (count : ℕ) (id : List ℕ) (disable enable : List ℤ) (e : Extension) → find (spec.has_set_id id) e.sets ≡ None
    → first_refusal (static_tests count id disable enable e) ≡ Some (refusal.NoRuleset id)
static_no_set count id disable enable e missing = rw (not_there (spec.has_set_id id) e.sets missing) refl

-- ---- an extension that is not there

pub dynamic_missing : (extensions : List Extension) (count : ℕ) (name remove : List ℕ) (add : List Rule) → named name extensions ≡ None
    → judge_in extensions count (spec.dynamic name remove add) ≡ Some (refusal.NoExtension name)
unfolding judge_update
dynamic_missing extensions count name remove add is = rw (not_there (spec.has_name name) extensions is) refl

pub session_missing : (extensions : List Extension) (count : ℕ) (name remove : List ℕ) (add : List Rule) → named name extensions ≡ None
    → judge_in extensions count (spec.session name remove add) ≡ Some (refusal.NoExtension name)
unfolding judge_update
session_missing extensions count name remove add is = rw (not_there (spec.has_name name) extensions is) refl

pub ruleset_missing : (extensions : List Extension) (count : ℕ) (name : List ℕ) (disable enable : List (List ℕ)) → named name extensions ≡ None
    → judge_in extensions count (spec.rulesets name disable enable) ≡ Some (refusal.NoExtension name)
unfolding judge_update
ruleset_missing extensions count name disable enable is = rw (not_there (spec.has_name name) extensions is) refl

pub static_missing : (extensions : List Extension) (count : ℕ) (name set : List ℕ) (disable enable : List ℤ) → named name extensions ≡ None
    → judge_in extensions count (spec.static name set disable enable) ≡ Some (refusal.NoExtension name)
unfolding judge_update
static_missing extensions count name set disable enable is = rw (not_there (spec.has_name name) extensions is) refl

pub uninstall_missing : (extensions : List Extension) (count : ℕ) (name : List ℕ) → named name extensions ≡ None
    → judge_in extensions count (spec.uninstall name) ≡ Some (refusal.NoExtension name)
unfolding judge_update
uninstall_missing extensions count name is = rw (not_there (spec.has_name name) extensions is) refl

-- ---- refusals

-- a refusal of an equal judgement
pub refusal_same : (a b : Option Refusal) (r : Refusal) → a ≡ b → IsRefusalOf b r → IsRefusalOf a r
refusal_same a b r same is = subst (λ (o : Option Refusal). IsRefusalOf o r) (sym same) is

-- ---- an extension that is updated

same_refusal : (a : Option Refusal) (r s : Refusal) → s ≡ r → IsRefusalOf a r → IsRefusalOf a s
same_refusal a r s same is = subst (IsRefusalOf a) (sym same) is

memory_apart : (a : Option Refusal) (s : Refusal) → s ≡ refusal.NoMemory → IsRefusalOf a s
memory_apart a s same = subst (IsRefusalOf a) (sym same) tt

-- what is made of the first extension of a name is made of the state
pub made_of : (extensions : List Extension) (count : ℕ) (update : spec.Update) (name : List ℕ) (tests : List (Option Refusal)) (e : Extension) (change : Extension → Extension)
    (next : Result Extension Refusal) (list : Result (Vec Extension Global) Refusal) → judge_in extensions count update ≡ first_refusal tests
    → spec.extensions_after update extensions ≡ spec.with_first (spec.has_name name) change extensions → named name extensions ≡ Some e
    → OnOk next (first_refusal tests ≡ None) → IfOk next (λ n. n ≡ change e) → Places extensions name next list
    → IfOk list (λ l. IsMadeIn extensions count update l.items)
unfolding put_first
made_of extensions count update name tests e change (Ok n) (Ok l) rows after found none same places = record {
  judged = rows ∙ none;
  changed = ap (λ es. state_in es count) (places ∙ first_is (spec.has_name name) change e n extensions same found ∙ sym after);
}
made_of extensions count update name tests e change (Ok n) (Err r) rows after found none same places = tt
made_of extensions count update name tests e change (Err r) (Ok l) rows after found none same places = absurd places
made_of extensions count update name tests e change (Err r) (Err s) rows after found none same places = tt

pub refused_of : (extensions : List Extension) (count : ℕ) (update : spec.Update) (name : List ℕ) (tests : List (Option Refusal)) (next : Result Extension Refusal)
    (list : Result (Vec Extension Global) Refusal) → judge_in extensions count update ≡ first_refusal tests → IfErr next (IsRefusalOf (first_refusal tests))
    → Places extensions name next list → IfErr list (IsRefusalOf (judge_in extensions count update))
refused_of extensions count update name tests (Ok n) (Ok l) rows refused places = tt
refused_of extensions count update name tests (Ok n) (Err r) rows refused places = memory_apart (judge_in extensions count update) r places
refused_of extensions count update name tests (Err r) (Ok l) rows refused places = absurd places
refused_of extensions count update name tests (Err r) (Err s) rows refused places =
    same_refusal (judge_in extensions count update) r s places (refusal_same (judge_in extensions count update) (first_refusal tests) r rows refused)

pub fits_of : (P : Type 0) (extensions : List Extension) (name : List ℕ) (next : Result Extension Refusal) (list : Result (Vec Extension Global) Refusal)
    → OnOk next P → Places extensions name next list → OnOk list P
fits_of P extensions name (Ok n) (Ok l) fits places = fits
fits_of P extensions name (Ok n) (Err r) fits places = tt
fits_of P extensions name (Err r) (Ok l) fits places = absurd places
fits_of P extensions name (Err r) (Err s) fits places = tt

-- ---- a state that is made as a whole

pub made_whole : (extensions : List Extension) (count : ℕ) (update : spec.Update) (tests : List (Option Refusal)) (all : List Extension) (list : Result (Vec Extension Global) Refusal)
    → judge_in extensions count update ≡ first_refusal tests → all ≡ spec.extensions_after update extensions → OnOk list (first_refusal tests ≡ None)
    → IfOk list (λ l. l.items ≡ all) → IfOk list (λ l. IsMadeIn extensions count update l.items)
made_whole extensions count update tests all (Ok l) rows after none same = record { judged = rows ∙ none; changed = ap (λ es. state_in es count) (same ∙ after) }
made_whole extensions count update tests all (Err r) rows after none same = tt

pub refused_whole : (extensions : List Extension) (count : ℕ) (update : spec.Update) (tests : List (Option Refusal)) (list : Result (Vec Extension Global) Refusal)
    → judge_in extensions count update ≡ first_refusal tests → IfErr list (IsRefusalOf (first_refusal tests)) → IfErr list (IsRefusalOf (judge_in extensions count update))
refused_whole extensions count update tests (Ok l) rows refused = tt
refused_whole extensions count update tests (Err r) rows refused = refusal_same (judge_in extensions count update) (first_refusal tests) r rows refused

pub switched_is : (extensions : List Extension) (name : List ℕ) (disable enable : List (List ℕ)) (e : Extension) → named name extensions ≡ Some e
    → switched_among extensions name disable enable e ≡ spec.extensions_after (spec.rulesets name disable enable) extensions
unfolding put_first
switched_is extensions name disable enable e found =
    first_is (spec.has_name name) (spec.updated (spec.rulesets name disable enable)) e (record e { sets = map (spec.switched disable enable) e.sets }) extensions refl found

pub switched_rows : (extensions : List Extension) (count : ℕ) (name : List ℕ) (disable enable : List (List ℕ)) (e : Extension) → named name extensions ≡ Some e
    → judge_in extensions count (spec.rulesets name disable enable) ≡ first_refusal (ruleset_tests count disable enable e (switched_among extensions name disable enable e))
switched_rows extensions count name disable enable e found =
    ruleset_rows extensions count name disable enable e found
    ∙ ap (λ all. first_refusal (ruleset_tests count disable enable e all)) (sym (switched_is extensions name disable enable e found))
