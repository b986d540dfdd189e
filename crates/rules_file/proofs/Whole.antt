-- What a file is refused for, by the tree of its text.
use Rattle.std.proofs.Common.{◌≡◌, ℕ, List, Bool, true, false, Option, Some, None, Result, Err, refl, sym, ap, ◌∙◌, subst}
use Rattle.std.specs.Prelude.{if◌then◌else◌}
use Rattle.std.specs.Str.{IsUtf8}
use Rattle.serde_json.specs.Data.{Data, Items}
use Rattle.serde_json.specs.Find.{as_array}
use Rattle.serde_json.specs.Read.{read}
use Rattle.rule_spec.specs.declared.rule_kind.RuleKind.{RuleKind}
use Rattle.rule_spec.specs.declared.rule_refusal.RuleRefusal.{RuleRefusal}
use Rattle.rule_spec.specs.declared.rule_refusal.RuleRefusal.TheVariants.{HostFault, NoMemory}
use Rattle.rule_spec.specs.declared.placed_refusal.PlacedRefusal.{PlacedRefusal}
use Rattle.rule_spec.specs.Rule.{Rule}
use Rattle.json_spec.specs.ReadRule.{read_items, read_rules}
use Rattle.json_spec.specs.RulesFile.{bad_json, rules_or_refusal, rules_in_tree, rules_of, StopsInList, StopsInTree}
use Rattle.json_spec.proofs.Trees.{tree_of_read, tree_of_none}
use Rattle.rule_read.specs.Reading.{MayStop, MayStopBy, StopsAtHost}
use Rattle.rules_file.specs.declared.FileRefusal.TheVariants.{BadRules}
use Rattle.rules_file.specs.Answers as file

pub file_is_bad : (kind : RuleKind) (bytes : List ℕ) → (IsUtf8 bytes → read bytes ≡ None) → rules_of kind bytes ≡ Err bad_json
file_is_bad kind bytes fails = ap (rules_in_tree kind) (sym (tree_of_none bytes fails))

pub file_is_read : (kind : RuleKind) (bytes : List ℕ) (d : Data) (answer : Result (List Rule) PlacedRefusal) → IsUtf8 bytes → read bytes ≡ Some d → read_items kind (as_array d) ≡ answer → rules_of kind bytes ≡ rules_or_refusal answer
unfolding read_rules
file_is_read kind bytes d answer utf8 reads is = ap (rules_in_tree kind) (sym (tree_of_read bytes d utf8 reads)) ∙ ap rules_or_refusal is

in_list : (kind : RuleKind) (items : Option Items) (refusal : PlacedRefusal) → StopsAtHost kind items refusal → StopsInList kind items refusal
in_list kind None refusal h = h
in_list kind (Some items) refusal h = h

refused_by : (kind : RuleKind) (bytes : List ℕ) (d : Data) (rose : Type 0) (refusal : PlacedRefusal) (cause : RuleRefusal) → IsUtf8 bytes → read bytes ≡ Some d
    → file.is_no_memory cause ≡ false → MayStopBy (read_items kind (as_array d)) (rose × StopsAtHost kind (as_array d) refusal) refusal cause → file.MayStop kind bytes rose refusal cause
refused_by kind bytes d rose refusal HostFault utf8 reads not h =
    (h.0, subst (λ t. StopsInTree kind t refusal) (tree_of_read bytes d utf8 reads) (in_list kind (as_array d) refusal h.1))
refused_by kind bytes d rose refusal NoMemory utf8 reads not h = absurd (cc not)
refused_by kind bytes d rose refusal cause utf8 reads not h = file_is_read kind bytes d (Err refusal) utf8 reads h

named_by : (kind : RuleKind) (bytes : List ℕ) (d : Data) (rose : Type 0) (refusal : PlacedRefusal) (none : Bool) → file.is_no_memory refusal.cause ≡ none → IsUtf8 bytes → read bytes ≡ Some d
    → MayStop kind (as_array d) rose refusal → file.MayRefuse kind bytes rose (BadRules (if none then file.of_no_rule else refusal))
named_by kind bytes d rose refusal true is utf8 reads h = (refl, refl)
named_by kind bytes d rose refusal false is utf8 reads h = refused_by kind bytes d rose refusal refusal.cause utf8 reads is h

pub file_is_refused : (kind : RuleKind) (bytes : List ℕ) (d : Data) (rose : Type 0) (refusal : PlacedRefusal) → IsUtf8 bytes → read bytes ≡ Some d
    → MayStop kind (as_array d) rose refusal → file.MayRefuse kind bytes rose (BadRules (file.named refusal))
file_is_refused kind bytes d rose refusal utf8 reads h = named_by kind bytes d rose refusal (file.is_no_memory refusal.cause) refl utf8 reads h
