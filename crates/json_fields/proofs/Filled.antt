-- Fields, and one member more.
use Rattle.std.proofs.Common.{◌≡◌, ◌≢◌, ℕ, ◌<◌, List, length, map, get_or, set, Some, option_map, refl, sym, ap, ◌∙◌, subst, arith, length-set, get_or-set_other, ⊎_elim}
use Rattle.std.proofs.lemmas.List.{get_or-map, length-map}
use Rattle.std.proofs.Math.Seq.{map-set_same}
use Rattle.std.proofs.lemmas.Grind.{get_or-set_at}
use Rattle.std.proofs.lemmas.Bool.{cases_eq}
use Rattle.std.specs.List.{All}
use Rattle.serde_json.specs.Data.{Data, Members, no_members, put}
use Rattle.serde_json.specs.Find.{get_member}
use Rattle.serde_json.proofs.Views.{get_member-put, get_member-put_other}
use Rattle.json_fields.specs.declared.held.Held.{Held}
use Rattle.json_fields.specs.declared.field.Field.{Field}
use Rattle.json_fields.specs.Held.{Shows, seen, value_of}
use Rattle.json_fields.specs.Fields.{key_of, AreApart, IsEmpty, HoldsIts, Holds, IsPut}

abbrev pub with_held : Field → Held → Field
with_held s p = record { name = s.name; keeps = s.keeps; held = Some p }

pub holds_nothing : (fields : List Field) → All IsEmpty fields → Holds fields no_members
holds_nothing fields empty k s lt = ap (option_map value_of) (empty k s lt)

one_apart : (fields : List Field) (i j : ℕ) (d : Field) → AreApart fields → i < length fields → j < length fields → (get_or fields i d).name.now ≡ (get_or fields j d).name.now → i ≡ j
one_apart fields i j d apart before_i before_j e =
    let same_length = length-map fields key_of in
    apart i j (key_of d) (omega arith) (omega arith)
    (ap (λ q. q.0) (get_or-map key_of fields i d (key_of d) before_i) ∙ e ∙ sym (ap (λ q. q.0) (get_or-map key_of fields j d (key_of d) before_j)))

kept : (ms : Members) (name : List ℕ) (d : Data) (field : Field) → (field.name.now ≡ name → ⊥) → HoldsIts ms field → HoldsIts (put name d ms) field
kept ms name d field other h = h ∙ ap (option_map (seen field.keeps)) (sym (get_member-put_other field.name.now name d ms other))

pub put_nowhere : (fields : List Field) (name : List ℕ) (d : Data) → All (λ field. field.name.now ≢ name) fields → IsPut name d fields fields
put_nowhere fields name d none ms holds k s lt = kept ms name d (get_or fields k s) (none k s lt) (holds k s lt)

module _ (fields : List Field) (i : ℕ) (name : List ℕ) (p : Held) (d : Data) (here : Field) where
  at_it : (ms : Members) → (get_or fields i here).name.now ≡ name → Shows (get_or fields i here).keeps p d → HoldsIts (put name d ms) (with_held (get_or fields i here) p)
  at_it ms named shows = ap Some shows ∙ ap (option_map (seen (get_or fields i here).keeps)) (sym (ap (λ n. get_member n (put name d ms)) named ∙ get_member-put name d ms))

  pub put_here : AreApart fields → i < length fields → ((s : Field) → (get_or fields i s).name.now ≡ name) → Shows (get_or fields i here).keeps p d → IsPut name d fields (set fields i (with_held (get_or fields i here) p))
  put_here apart before named shows ms holds k s lt =
      let same_length = length-set fields i (with_held (get_or fields i here) p) in
      let within : k < length fields = omega arith in
      ⊎_elim
      (λ same. subst (HoldsIts (put name d ms)) (sym (get_or-set_at fields i k (with_held (get_or fields i here) p) s same before)) (at_it ms (named here) shows))
      (λ other. subst (HoldsIts (put name d ms)) (sym (get_or-set_other fields i k (with_held (get_or fields i here) p) s other))
      (kept ms name d (get_or fields k s) (λ e. other (one_apart fields k i s apart within before (e ∙ sym (named s)))) (holds k s within)))
      (cases_eq k i)

  pub keys_stay : map key_of (set fields i (with_held (get_or fields i here) p)) ≡ map key_of fields
  keys_stay = map-set_same key_of fields i (with_held (get_or fields i here) p) here refl
