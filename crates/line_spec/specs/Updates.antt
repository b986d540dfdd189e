-- What an update reads as: Chrome's reference of declarativeNetRequest, `UpdateRuleOptions`, `UpdateRulesetOptions` and
-- `UpdateStaticRulesOptions`, each with the name of its extension; and the installation of extensions. Fields are tested
-- in the order in which they stand here, and the first at fault is named; keys that are not known are ignored.
use Rattle.std.specs.Prelude.{ℕ, ℤ, pos, negsuc, List, [], ◌∷◌, ◌++◌, filter_map, codes, Bool, Option, Some, None, option_map, option_and_then, Result, Ok, Err, if◌then◌else◌}
use Rattle.serde_json.specs.Data.{Data, Items, no_items, item}
use Rattle.serde_json.specs.Find.{get, as_str, as_bool, as_number, as_integer, as_array}
use Rattle.rule_spec.specs.declared.rule_kind.RuleKind.{RuleKind}
use Rattle.rule_spec.specs.declared.rule_kind.RuleKind.TheVariants as kind
use Rattle.rule_spec.specs.declared.placed_refusal.PlacedRefusal.{PlacedRefusal}
use Rattle.rule_spec.specs.Rule.{Rule}
use Rattle.rule_spec.specs.IsRule.{is_number}
use Rattle.json_spec.specs.RuleFields.{list_of, as_texts}
use Rattle.json_spec.specs.ReadRule.{read_items}
use Rattle.update_spec.specs.Update.{NewRuleSet, Update, dynamic, session, rulesets, static, install, uninstall}
use Rattle.load_spec.specs.Manifest.{passing, is_new_id}
use Rattle.line_spec.specs.declared.command_name.UpdateName.{UpdateName}
use Rattle.line_spec.specs.declared.command_name.UpdateName.TheVariants as name
use Rattle.line_spec.specs.declared.update_field.UpdateField.{UpdateField}
use Rattle.line_spec.specs.declared.update_field.UpdateField.TheVariants as field
use Rattle.line_spec.specs.declared.update_fault.UpdateFault.{UpdateFault}
use Rattle.line_spec.specs.declared.update_fault.UpdateFault.TheVariants.{BadField, RuleRefused}
use Rattle.line_spec.specs.CommandPath.{field_name}
use Rattle.line_spec.specs.Names.{is_extension_name}
use Rattle.line_spec.specs.Reading.{and_then}

-- ---- one field

abbrev pub value_at : UpdateField → Data → Option Data
value_at f d = get (field_name f) d

-- what must be there
abbrev pub needed : {X : Type 0} → UpdateField → Option X → Result X UpdateFault
needed f None = Err (BadField f)
needed f (Some x) = Ok x

-- a list of this form, which is empty where none is given
abbrev pub list_given : {X : Type 0} → UpdateField → (Data → Option (List X)) → Option Data → Result (List X) UpdateFault
list_given f form None = Ok []
list_given f form (Some d) = needed f (form d)

unfoldable pub text_in : UpdateField → Data → Result (List ℕ) UpdateFault
text_in f d = needed f (option_and_then as_str (value_at f d))

unfoldable pub texts_in : UpdateField → Data → Result (List (List ℕ)) UpdateFault
texts_in f d = list_given f as_texts (value_at f d)

-- ---- ids

-- any whole number that JSON can write without fraction and exponent; `-0` is none
abbrev pub as_whole : Data → Option ℤ
as_whole d = option_and_then as_integer (as_number d)

abbrev pub as_wholes : Data → Option (List ℤ)
as_wholes d = list_of as_whole d

-- the ids of rules to disable or to enable; one that no rule has is refused where the update is judged
unfoldable pub wholes_in : UpdateField → Data → Result (List ℤ) UpdateFault
wholes_in f d = list_given f as_wholes (value_at f d)

-- the id, where a rule may have it
abbrev pub rule_id : ℤ → Option ℕ
rule_id (pos n) = if is_number n then Some n else None
rule_id (negsuc n) = None

-- an id to remove that no rule can have is left out
abbrev pub as_rule_ids : Data → Option (List ℕ)
as_rule_ids d = option_map (filter_map rule_id) (as_wholes d)

unfoldable pub remove_in : Data → Result (List ℕ) UpdateFault
remove_in d = list_given field.RemoveRuleIds as_rule_ids (value_at field.RemoveRuleIds d)

-- ---- rules

abbrev pub unless_refused : Result (List Rule) PlacedRefusal → Result (List Rule) UpdateFault
unless_refused (Ok rules) = Ok rules
unless_refused (Err refusal) = Err (RuleRefused refusal)

-- the rules of a list, or the first that is refused
abbrev pub rules_of_list : UpdateField → RuleKind → Option Items → Result (List Rule) UpdateFault
rules_of_list f kind None = Err (BadField f)
rules_of_list f kind (Some items) = unless_refused (read_items kind (Some items))

abbrev pub rules_given : UpdateField → RuleKind → Option Data → Result (List Rule) UpdateFault
rules_given f kind None = Ok []
rules_given f kind (Some d) = rules_of_list f kind (as_array d)

unfoldable pub add_in : RuleKind → Data → Result (List Rule) UpdateFault
add_in kind d = rules_given field.AddRules kind (value_at field.AddRules d)

-- ---- rulesets

-- the ruleset's id, which is none of the earlier ones'
unfoldable pub set_id_in : List (List ℕ) → Data → Result (List ℕ) UpdateFault
set_id_in earlier d =
    needed field.Rulesets (option_and_then (passing (is_new_id earlier)) (option_and_then as_str (get (codes "id") d)))

unfoldable pub enabled_in : Data → Result Bool UpdateFault
enabled_in d = needed field.Rulesets (option_and_then as_bool (get (codes "enabled") d))

-- the refusal of a rule of this ruleset
abbrev pub of_set : List ℕ → PlacedRefusal → PlacedRefusal
of_set id refusal = record refusal { set = Some id }

abbrev pub naming_set : List ℕ → Result (List Rule) UpdateFault → Result (List Rule) UpdateFault
naming_set id (Err (RuleRefused refusal)) = Err (RuleRefused (of_set id refusal))
naming_set id reading = reading

-- static rules, whose list must be given
abbrev pub set_rules_from : Option Data → Result (List Rule) UpdateFault
set_rules_from None = Err (BadField field.Rulesets)
set_rules_from (Some d) = rules_of_list field.Rulesets kind.Static (as_array d)

unfoldable pub set_rules_in : List ℕ → Data → Result (List Rule) UpdateFault
set_rules_in id d = naming_set id (set_rules_from (get (codes "rules") d))

-- the ruleset behind others of these ids; what is no object has no id
unfoldable pub set_in : List (List ℕ) → Data → Result NewRuleSet UpdateFault
set_in earlier d =
    and_then (set_id_in earlier d) (λ id.
    and_then (enabled_in d) (λ enabled.
    and_then (set_rules_in id d) (λ rules.
    Ok (record { id = id; enabled = enabled; rules = rules; origins = [] }))))

-- the rulesets in turn, behind others of these ids, up to the first at fault
abbrev pub sets_from : List (List ℕ) → Items → Result (List NewRuleSet) UpdateFault
sets_from earlier no_items = Ok []
sets_from earlier (item d items) =
    and_then (set_in earlier d) (λ first.
    and_then (sets_from (earlier ++ first.id ∷ []) items) (λ others. Ok (first ∷ others)))

abbrev pub sets_of_list : Option Items → Result (List NewRuleSet) UpdateFault
sets_of_list None = Err (BadField field.Rulesets)
sets_of_list (Some items) = sets_from [] items

unfoldable pub sets_in : Data → Result (List NewRuleSet) UpdateFault
sets_in d = sets_of_list (option_and_then as_array (value_at field.Rulesets d))

-- ---- access

abbrev pub access_from : Option Data → Result (Option (List (List ℕ))) UpdateFault
access_from None = Ok None
access_from (Some d) = needed field.HostPermissions (option_map Some (as_texts d))

-- the match patterns of what the extension may touch, if it is restricted
unfoldable pub access_in : Data → Result (Option (List (List ℕ))) UpdateFault
access_in d = access_from (value_at field.HostPermissions d)

-- ---- updates

-- rules of this kind are removed, and others added
unfoldable pub replacing_in : RuleKind → (List ℕ → List ℕ → List Rule → Update) → Data → Result Update UpdateFault
replacing_in kind update d =
    and_then (text_in field.Extension d) (λ extension.
    and_then (remove_in d) (λ remove.
    and_then (add_in kind d) (λ add.
    Ok (update extension remove add))))

unfoldable pub rulesets_in : Data → Result Update UpdateFault
rulesets_in d =
    and_then (text_in field.Extension d) (λ extension.
    and_then (texts_in field.DisableRulesetIds d) (λ disable.
    and_then (texts_in field.EnableRulesetIds d) (λ enable.
    Ok (rulesets extension disable enable))))

unfoldable pub static_in : Data → Result Update UpdateFault
static_in d =
    and_then (text_in field.Extension d) (λ extension.
    and_then (text_in field.RulesetId d) (λ set.
    and_then (wholes_in field.DisableRuleIds d) (λ disable.
    and_then (wholes_in field.EnableRuleIds d) (λ enable.
    Ok (static extension set disable enable)))))

-- the name that an extension is given
unfoldable pub new_name_in : Data → Result (List ℕ) UpdateFault
new_name_in d =
    needed field.Extension (option_and_then (passing is_extension_name) (option_and_then as_str (value_at field.Extension d)))

unfoldable pub install_in : Data → Result Update UpdateFault
install_in d =
    and_then (new_name_in d) (λ extension.
    and_then (sets_in d) (λ sets.
    and_then (access_in d) (λ access.
    Ok (install (record { name = extension; sets = sets; access = access })))))

unfoldable pub uninstall_in : Data → Result Update UpdateFault
uninstall_in d = and_then (text_in field.Extension d) (λ extension. Ok (uninstall extension))

-- the update of this name
abbrev pub update_in : UpdateName → Data → Result Update UpdateFault
update_in name.Dynamic d = replacing_in kind.Dynamic dynamic d
update_in name.Session d = replacing_in kind.Session session d
update_in name.Rulesets d = rulesets_in d
update_in name.Static d = static_in d
update_in name.Install d = install_in d
update_in name.Uninstall d = uninstall_in d
