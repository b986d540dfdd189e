-- The parts of an update that bring rules, and why the whole is not read.
use Rattle.std.proofs.Common.{◌≡◌, ℕ, List, [], Bool, Some, Ok, refl, sym, ap, ◌∙◌, subst}
use Rattle.std.specs.Prelude.{codes, option_and_then}
use Rattle.serde_json.specs.Data.{Data}
use Rattle.serde_json.specs.Find.{get, as_array}
use Rattle.rule_spec.specs.declared.rule_kind.RuleKind.{RuleKind}
use Rattle.rule_spec.specs.declared.rule_kind.RuleKind.TheVariants as kind
use Rattle.rule_spec.specs.declared.rule_refusal.RuleRefusal.{RuleRefusal}
use Rattle.rule_spec.specs.declared.rule_refusal.RuleRefusal.TheVariants as rule
use Rattle.rule_spec.specs.declared.placed_refusal.PlacedRefusal.{PlacedRefusal}
use Rattle.rule_spec.specs.Rule.{Rule}
use Rattle.json_spec.specs.RulesFile.{StopsInList, StopsInTree}
use Rattle.update_spec.specs.Update.{NewRuleSet, Update, install}
use Rattle.line_spec.specs.declared.update_field.UpdateField.TheVariants as field
use Rattle.line_spec.specs.declared.update_fault.UpdateFault.{UpdateFault}
use Rattle.line_spec.specs.declared.update_fault.UpdateFault.TheVariants.{BadField, RuleRefused, NoMemory}
use Rattle.line_spec.specs.Reading.{and_then}
use Rattle.line_spec.specs.Updates.{value_at, text_in, remove_in, add_in, replacing_in, rules_of_list, naming_set, set_rules_from, of_set, set_id_in, enabled_in, set_rules_in, set_in, new_name_in, sets_in, access_in, install_in}
use Rattle.line_spec.specs.Stops.{StopsInAdded, StopsInSet, StopsInSetList, StopsInInstall}
use Rattle.script_read.specs.Faults.{MayStopBy, MayRefuse, IsFaultOf, fault_in_set}
use Rattle.script_read.specs.Stops.{StopsInSetRules}
use Rattle.script_read.proofs.Chains.{stops_within, stops_plainly}

-- ---- rules to add

module _ (kind : RuleKind) (make : List ℕ → List ℕ → List Rule → Update) (d : Data) (rose : Type 0) (fault : UpdateFault) where
  pub extension_stops : IsFaultOf (text_in field.Extension d) fault → MayRefuse (replacing_in kind make d) (λ r. rose × StopsInAdded kind d r) fault
  unfolding replacing_in
  extension_stops h =
      stops_plainly (text_in field.Extension d) (λ extension. and_then (remove_in d) (λ remove. and_then (add_in kind d) (λ add. Ok (make extension remove add))))
      (λ r. rose × StopsInAdded kind d r) fault h

  pub removed_stops : (extension : List ℕ) → text_in field.Extension d ≡ Ok extension → IsFaultOf (remove_in d) fault → MayRefuse (replacing_in kind make d) (λ r. rose × StopsInAdded kind d r) fault
  unfolding replacing_in
  removed_stops extension named h =
      rw named (stops_plainly (remove_in d) (λ remove. and_then (add_in kind d) (λ add. Ok (make extension remove add))) (λ r. rose × StopsInAdded kind d r) fault h)

  pub added_stops : (extension remove : List ℕ) → text_in field.Extension d ≡ Ok extension → remove_in d ≡ Ok remove
      → MayRefuse (add_in kind d) (λ r. rose × StopsInTree kind (value_at field.AddRules d) r) fault → MayRefuse (replacing_in kind make d) (λ r. rose × StopsInAdded kind d r) fault
  unfolding replacing_in
  added_stops extension remove named removed h =
      rw (named, removed)
      (stops_within (add_in kind d) (λ add. Ok (make extension remove add)) (λ r. rose × StopsInTree kind (value_at field.AddRules d) r) (λ r. rose × StopsInAdded kind d r) fault
      (λ r s. (s.0, record { extension = extension; named = named; remove = remove; removed = removed; stops = s.1 })) h)

-- ---- rules of a ruleset

set_rule_stops : (id : List ℕ) (d list : Data) (rose : Type 0) (refusal : PlacedRefusal) (cause : RuleRefusal) → get (codes "rules") d ≡ Some list
    → MayStopBy (rules_of_list field.Rulesets kind.Static (as_array list)) (rose × StopsInList kind.Static (as_array list) refusal) refusal cause
    → MayStopBy (set_rules_in id d) (rose × StopsInSetRules id d (of_set id refusal)) (of_set id refusal) cause
unfolding set_rules_in
set_rule_stops id d list rose refusal rule.HostFault is h =
    (h.0, record { inner = refusal; stops = subst (λ found. StopsInTree kind.Static found refusal) (sym is) h.1; same = refl })
set_rule_stops id d list rose refusal rule.NoMemory is h = h
set_rule_stops id d list rose refusal cause is h = ap (λ found. naming_set id (set_rules_from found)) is ∙ ap (naming_set id) h

pub set_rules_stop : (id : List ℕ) (d list : Data) (rose : Type 0) (fault : UpdateFault) → get (codes "rules") d ≡ Some list
    → MayRefuse (rules_of_list field.Rulesets kind.Static (as_array list)) (λ r. rose × StopsInList kind.Static (as_array list) r) fault
    → MayRefuse (set_rules_in id d) (λ r. rose × StopsInSetRules id d r) (fault_in_set id fault)
unfolding set_rules_in
set_rules_stop id d list rose (BadField f) is h = ap (λ found. naming_set id (set_rules_from found)) is ∙ ap (naming_set id) h
set_rules_stop id d list rose (RuleRefused refusal) is h = set_rule_stops id d list rose refusal refusal.cause is h
set_rules_stop id d list rose NoMemory is h = tt

abbrev set_of : List ℕ → Bool → List Rule → NewRuleSet
set_of id enabled rules = record { id = id; enabled = enabled; rules = rules; origins = [] }

module _ (earlier : List (List ℕ)) (d : Data) (rose : Type 0) (fault : UpdateFault) where
  pub set_id_stops : IsFaultOf (set_id_in earlier d) fault → MayRefuse (set_in earlier d) (λ r. rose × StopsInSet earlier d r) fault
  unfolding set_in
  set_id_stops h =
      stops_plainly (set_id_in earlier d) (λ id. and_then (enabled_in d) (λ enabled. and_then (set_rules_in id d) (λ rules. Ok (set_of id enabled rules))))
      (λ r. rose × StopsInSet earlier d r) fault h

  pub enabled_stops : (id : List ℕ) → set_id_in earlier d ≡ Ok id → IsFaultOf (enabled_in d) fault → MayRefuse (set_in earlier d) (λ r. rose × StopsInSet earlier d r) fault
  unfolding set_in
  enabled_stops id named h =
      rw named (stops_plainly (enabled_in d) (λ enabled. and_then (set_rules_in id d) (λ rules. Ok (set_of id enabled rules))) (λ r. rose × StopsInSet earlier d r) fault h)

  pub set_rules_stop_set : (id : List ℕ) (enabled : Bool) → set_id_in earlier d ≡ Ok id → enabled_in d ≡ Ok enabled
      → MayRefuse (set_rules_in id d) (λ r. rose × StopsInSetRules id d r) fault → MayRefuse (set_in earlier d) (λ r. rose × StopsInSet earlier d r) fault
  unfolding set_in
  set_rules_stop_set id enabled named marked h =
      rw (named, marked)
      (stops_within (set_rules_in id d) (λ rules. Ok (set_of id enabled rules)) (λ r. rose × StopsInSetRules id d r) (λ r. rose × StopsInSet earlier d r) fault
      (λ r s. (s.0, record { id = id; named = named; enabled = enabled; marked = marked; inner = s.1.inner; stops = s.1.stops; same = s.1.same })) h)

-- ---- installations

module _ (d : Data) (rose : Type 0) (fault : UpdateFault) where
  pub name_stops : IsFaultOf (new_name_in d) fault → MayRefuse (install_in d) (λ r. rose × StopsInInstall d r) fault
  unfolding install_in
  name_stops h =
      stops_plainly (new_name_in d) (λ extension. and_then (sets_in d) (λ sets. and_then (access_in d) (λ access. Ok (install (record { name = extension; sets = sets; access = access })))))
      (λ r. rose × StopsInInstall d r) fault h

  pub sets_stop_install : (extension : List ℕ) → new_name_in d ≡ Ok extension
      → MayRefuse (sets_in d) (λ r. rose × StopsInSetList (option_and_then as_array (value_at field.Rulesets d)) r) fault → MayRefuse (install_in d) (λ r. rose × StopsInInstall d r) fault
  unfolding install_in
  sets_stop_install extension named h =
      rw named
      (stops_within (sets_in d) (λ sets. and_then (access_in d) (λ access. Ok (install (record { name = extension; sets = sets; access = access }))))
      (λ r. rose × StopsInSetList (option_and_then as_array (value_at field.Rulesets d)) r) (λ r. rose × StopsInInstall d r) fault
      (λ r s. (s.0, record { extension = extension; named = named; stops = s.1 })) h)

  pub access_stops : (extension : List ℕ) (sets : List NewRuleSet) → new_name_in d ≡ Ok extension → sets_in d ≡ Ok sets → IsFaultOf (access_in d) fault
      → MayRefuse (install_in d) (λ r. rose × StopsInInstall d r) fault
  unfolding install_in
  access_stops extension sets named read h =
      rw (named, read) (stops_plainly (access_in d) (λ access. Ok (install (record { name = extension; sets = sets; access = access }))) (λ r. rose × StopsInInstall d r) fault h)
