-- The rules of a list are the same, where only what has their form was kept.
use Rattle.std.proofs.Common.{◌≡◌, ℕ, List, [], ◌∷◌, ◌++◌, length, Bool, true, false, Result, Ok, Err, refl, sym, ap, ◌∙◌, inl, inr}
use Rattle.std.specs.Prelude.{is_some}
use Rattle.serde_json.specs.Data.{Data, null, Items, no_items, item}
use Rattle.serde_json.specs.Find.{as_null, as_array}
use Rattle.rule_spec.specs.declared.rule_kind.RuleKind.{RuleKind}
use Rattle.rule_spec.specs.declared.rule_refusal.RuleRefusal.{RuleRefusal}
use Rattle.rule_spec.specs.declared.rule_refusal.RuleRefusal.TheVariants.{NotObject, HostFault}
use Rattle.rule_spec.specs.declared.placed_refusal.PlacedRefusal.{PlacedRefusal}
use Rattle.rule_spec.specs.Rule.{Rule}
use Rattle.json_spec.specs.ReadRule.{rule_in, numbers_in, id_of, has_id, placed, read_next, read_from, StopsAtPattern}
use Rattle.json_spec.specs.RulesFile.{StopsInList}
use Rattle.json_fields.specs.Shapes.{EndsIf, KeptItems}
use Rattle.json_fields.proofs.Forms.{null_if, list_related}
use Rattle.line_spec.specs.declared.update_field.UpdateField.{UpdateField}
use Rattle.line_spec.specs.Updates.{unless_refused, rules_of_list}
use Rattle.rule_parts.specs.declared.part.RulePart.TheVariants as rule
use Rattle.rule_parts.specs.ReadsAs.{ReadsAs}
use Rattle.rule_parts.proofs.RuleKept.{reads_as}
use Rattle.update_parts.specs.declared.part.UpdatePart.TheVariants as part
use Rattle.update_parts.specs.Parts.{wanted_at, item_of, member_of, accepts_at, KeptAs}
use Rattle.update_parts.proofs.InRules.{of_rule}

-- behind what is not null others may stand
more_by : (b : Bool) (es : Items) (others : Type 0) → (b ≡ true → ⊥) → EndsIf b es others → others
more_by true es others never h = absurd (never refl)
more_by false es others never h = h

pub more_kept : (e : Data) (es : Items) (others : Type 0) → (e ≡ null → ⊥) → EndsIf (is_some (as_null e)) es others → others
more_kept e es others never h = more_by (is_some (as_null e)) es others (λ t. never (null_if e t)) h

null_refused : (kind : RuleKind) (is_taken : ℕ → Bool) → rule_in kind is_taken null ≡ Err NotObject
unfolding rule_in numbers_in
null_refused kind is_taken = refl

no_null : (kind : RuleKind) (is_taken : ℕ → Bool) (e : Data) (r : Rule) → rule_in kind is_taken e ≡ Ok r → e ≡ null → ⊥
no_null kind is_taken e r h is = let never : Err NotObject ≡ Ok r = sym (null_refused kind is_taken) ∙ ap (rule_in kind is_taken) (sym is) ∙ h in absurd (cc)

next_same : (go on : Rule → Result (List Rule) PlacedRefusal) (place : ℕ) (d e : Data) (r : Result Rule RuleRefusal) → id_of e ≡ id_of d → ((x : Rule) → r ≡ Ok x → go x ≡ on x)
    → read_next go place e r ≡ read_next on place d r
next_same go on place d e (Ok x) id law = law x refl
next_same go on place d e (Err cause) id law = rw id

placed_same : (place : ℕ) (d e : Data) → id_of e ≡ id_of d → placed place e HostFault ≡ placed place d HostFault
placed_same place d e id = rw id

module _ (n : ℕ) (kind : RuleKind) where
  alike : (d e : Data) → KeptAs n (part.InRule rule.Rule) d e → ReadsAs e d
  alike d e h = reads_as n d e (of_rule n rule.Rule d e h)

  from_same : (earlier : List Rule) (ds es : Items) → KeptItems (KeptAs n (part.InRule rule.Rule)) ds es → read_from kind earlier es ≡ read_from kind earlier ds
  from_same earlier no_items no_items h = refl
  from_same earlier no_items (item e es) h = absurd h
  from_same earlier (item d ds) no_items h = absurd h
  from_same earlier (item d ds) (item e es) h =
      let same = alike d e h.0 in
      next_same (λ r. read_from kind (earlier ++ r ∷ []) es) (λ r. read_from kind (earlier ++ r ∷ []) ds) (length earlier) d e (rule_in kind (has_id earlier) e) same.id
      (λ r is. from_same (earlier ++ r ∷ []) ds es (more_kept e es (KeptItems (KeptAs n (part.InRule rule.Rule)) ds es) (no_null kind (has_id earlier) e r is) h.1))
      ∙ ap (read_next (λ r. read_from kind (earlier ++ r ∷ []) ds) (length earlier) d) (same.rule kind (has_id earlier))

  from_stops : (earlier : List Rule) (ds es : Items) (refusal : PlacedRefusal) → KeptItems (KeptAs n (part.InRule rule.Rule)) ds es → StopsAtPattern kind earlier es refusal → StopsAtPattern kind earlier ds refusal
  from_stops earlier no_items no_items refusal h s = absurd s
  from_stops earlier no_items (item e es) refusal h s = absurd h
  from_stops earlier (item d ds) no_items refusal h s = absurd h
  from_stops earlier (item d ds) (item e es) refusal h (inl s) =
      let same = alike d e h.0 in
      inl (s.0 ∙ placed_same (length earlier) d e same.id, same.pattern (has_id earlier) s.1)
  from_stops earlier (item d ds) (item e es) refusal h (inr s) =
      let same = alike d e h.0 in
      let more = more_kept e es (KeptItems (KeptAs n (part.InRule rule.Rule)) ds es) (no_null kind (has_id earlier) e s.0 s.1) h.1 in
      inr (s.0, sym (same.rule kind (has_id earlier)) ∙ s.1, from_stops (earlier ++ s.0 ∷ []) ds es refusal more s.2)

pub rules_same : (f : UpdateField) (kind : RuleKind) (n : ℕ) (d e : Data) → KeptAs n part.Rules d e → rules_of_list f kind (as_array e) ≡ rules_of_list f kind (as_array d)
rules_same f kind n d e h =
    list_related wanted_at item_of member_of accepts_at (λ b a. rules_of_list f kind b ≡ rules_of_list f kind a) part.Rules (part.InRule rule.Rule) refl refl refl
    (λ m ds es k. ap unless_refused (from_same m kind [] ds es k)) n d e h

pub rules_stop : (kind : RuleKind) (refusal : PlacedRefusal) (n : ℕ) (d e : Data) → KeptAs n part.Rules d e → StopsInList kind (as_array e) refusal → StopsInList kind (as_array d) refusal
rules_stop kind refusal n d e h =
    list_related wanted_at item_of member_of accepts_at (λ b a. StopsInList kind b refusal → StopsInList kind a refusal) part.Rules (part.InRule rule.Rule) refl refl (λ s. s)
    (λ m ds es k s. from_stops m kind [] ds es refusal k s) n d e h
