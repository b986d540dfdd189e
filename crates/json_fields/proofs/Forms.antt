-- What is read of a value stays, where only what has its form was kept.
use Rattle.std.proofs.Common.{◌≡◌, ℕ, zero, suc, List, ◌∷◌, Bool, true, false, Option, Some, None, option_map, refl, sym, ap, ap₂, ◌∙◌, subst, ◌⊎◌, inl, inr}
use Rattle.std.specs.Prelude.{is_some, option_and_then}
use Rattle.serde_json.specs.Data.{Data, null, boolean, number, string, array, object, Items, no_items, item, Members}
use Rattle.serde_json.specs.Find.{get, get_member, as_null, as_str, as_bool, as_number, as_array, as_object}
use Rattle.json_spec.specs.RuleFields.{each, list_of}
use Rattle.json_fields.specs.declared.shape.Wanted.{Wanted}
use Rattle.json_fields.specs.declared.shape.Wanted.TheVariants as wanted
use Rattle.json_fields.specs.Shapes.{Kept, EndsIf, KeptAt, KeptItems, KeptList, KeptMembers, KeptObject, kept_if, kept_text, kept_number, kept_truth}

pub none_if : {X : Type 0} (o : Option X) → is_some o ≡ false → o ≡ None
none_if None h = refl
none_if (Some x) h = absurd (cc)

-- what is no object has no members
pub get_none : (key : List ℕ) (d : Data) → as_object d ≡ None → get key d ≡ None
get_none key null h = refl
get_none key (boolean b) h = refl
get_none key (number x) h = refl
get_none key (string s) h = refl
get_none key (array ds) h = refl
get_none key (object ms) h = absurd (cc)

pub null_if : (d : Data) → is_some (as_null d) ≡ true → d ≡ null
null_if null e = refl
null_if (boolean b) e = absurd (cc)
null_if (number x) e = absurd (cc)
null_if (string s) e = absurd (cc)
null_if (array ds) e = absurd (cc)
null_if (object ms) e = absurd (cc)

-- an object that is not accepted is read as null
if_not : {Y : Type 0} (reading : Data → Y) (some : Data) (b : Bool) → (b ≡ false → reading some ≡ reading null) → reading (kept_if b some) ≡ reading some
if_not reading some true refuses = refl
if_not reading some false refuses = sym (refuses refl)

one_same : {X : Type 0} (form : Data → Option X) (d e : Data) (ds es : Items) (b : Bool) (others : Type 0) → form null ≡ None → (b ≡ true → e ≡ null) → EndsIf b es others
    → (others → each form es ≡ each form ds) → form e ≡ form d → each form (item e es) ≡ each form (item d ds)
one_same form d e ds es true others none last ends law same =
    let refused : form e ≡ None = ap form (last refl) ∙ none in
    ap (λ o. option_and_then (λ x. option_map (λ xs. x ∷ xs) (each form es)) o) refused
    ∙ sym (ap (λ o. option_and_then (λ x. option_map (λ xs. x ∷ xs) (each form ds)) o) (sym same ∙ refused))
one_same form d e ds es false others none last more law same = ap₂ (λ o rest. option_and_then (λ x. option_map (λ xs. x ∷ xs) rest) o) same (law more)

-- the items of a list, each of one form
pub each_same : {X : Type 0} (keeps : Data → Data → Type 0) (form : Data → Option X) → form null ≡ None → ((d e : Data) → keeps d e → form e ≡ form d)
    → (ds es : Items) → KeptItems keeps ds es → each form es ≡ each form ds
each_same keeps form none law no_items no_items h = refl
each_same keeps form none law no_items (item e es) h = absurd h
each_same keeps form none law (item d ds) no_items h = absurd h
each_same keeps form none law (item d ds) (item e es) h =
    one_same form d e ds es (is_some (as_null e)) (KeptItems keeps ds es) none (null_if e) h.1 (λ more. each_same keeps form none law ds es more) (law d e h.0)

module _ {S : Type 0} (wants : S → Wanted) (item_shape : S → S) (member_shape : S → List ℕ → Option S) (accepts : S → Data → Bool) where
  abbrev KeptAs : ℕ → S → Data → Data → Type 0
  KeptAs n shape d e = Kept wants item_shape member_shape accepts n shape d e

  -- ---- single values

  no_list : (n : ℕ) (t : S) (w : Wanted) (ds : Items) (e : Data) → wants t ≡ w → KeptAs (suc n) t (array ds) e → KeptList (KeptAs n (item_shape t)) w ds e
  no_list n t w ds e is h = subst (λ v. KeptList (KeptAs n (item_shape t)) v ds e) is h

  no_object : (n : ℕ) (t : S) (w : Wanted) (ms : Members) (e : Data) → wants t ≡ w → KeptAs (suc n) t (object ms) e → KeptObject (KeptAs n) (member_shape t) (accepts t) w ms e
  no_object n t w ms e is h = subst (λ v. KeptObject (KeptAs n) (member_shape t) (accepts t) v ms e) is h

  pub text_same : (t : S) → wants t ≡ wanted.Text → (n : ℕ) (d e : Data) → KeptAs n t d e → as_str e ≡ as_str d
  text_same t is n null e h = ap as_str h
  text_same t is n (boolean b) e h = ap as_str (h ∙ ap (λ w. kept_truth w b) is)
  text_same t is n (number x) e h = ap as_str (h ∙ ap (λ w. kept_number w x) is)
  text_same t is n (string s) e h = ap as_str (h ∙ ap (λ w. kept_text w s) is)
  text_same t is zero (array ds) e h = absurd h
  text_same t is (suc n) (array ds) e h = ap as_str (no_list n t wanted.Text ds e is h)
  text_same t is zero (object ms) e h = absurd h
  text_same t is (suc n) (object ms) e h = ap as_str (no_object n t wanted.Text ms e is h)

  pub truth_same : (t : S) → wants t ≡ wanted.Truth → (n : ℕ) (d e : Data) → KeptAs n t d e → as_bool e ≡ as_bool d
  truth_same t is n null e h = ap as_bool h
  truth_same t is n (boolean b) e h = ap as_bool (h ∙ ap (λ w. kept_truth w b) is)
  truth_same t is n (number x) e h = ap as_bool (h ∙ ap (λ w. kept_number w x) is)
  truth_same t is n (string s) e h = ap as_bool (h ∙ ap (λ w. kept_text w s) is)
  truth_same t is zero (array ds) e h = absurd h
  truth_same t is (suc n) (array ds) e h = ap as_bool (no_list n t wanted.Truth ds e is h)
  truth_same t is zero (object ms) e h = absurd h
  truth_same t is (suc n) (object ms) e h = ap as_bool (no_object n t wanted.Truth ms e is h)

  pub number_same : (t : S) → wants t ≡ wanted.Number → (n : ℕ) (d e : Data) → KeptAs n t d e → as_number e ≡ as_number d
  number_same t is n null e h = ap as_number h
  number_same t is n (boolean b) e h = ap as_number (h ∙ ap (λ w. kept_truth w b) is)
  number_same t is n (number x) e h = ap as_number (h ∙ ap (λ w. kept_number w x) is)
  number_same t is n (string s) e h = ap as_number (h ∙ ap (λ w. kept_text w s) is)
  number_same t is zero (array ds) e h = absurd h
  number_same t is (suc n) (array ds) e h = ap as_number (no_list n t wanted.Number ds e is h)
  number_same t is zero (object ms) e h = absurd h
  number_same t is (suc n) (object ms) e h = ap as_number (no_object n t wanted.Number ms e is h)

  -- ---- members of an object

  -- what is said of the value at a key, of what was kept first
  at_related : (R : Option Data → Option Data → Type 0) (n : ℕ) (t : S) → R None None → ((d e : Data) → KeptAs n t d e → R (Some e) (Some d)) → (a b : Option Data) → KeptAt (KeptAs n) (Some t) a b → R b a
  at_related R n t none law None b h = subst (λ o. R o None) (sym h) none
  at_related R n t none law (Some d) None h = absurd h
  at_related R n t none law (Some d) (Some e) h = law d e h

  pub inner_related : (R : Option Data → Option Data → Type 0) (o t : S) (key : List ℕ) → member_shape o key ≡ Some t → R None None → ((n : ℕ) (d e : Data) → KeptAs n t d e → R (Some e) (Some d))
      → (n : ℕ) (ms some : Members) → KeptMembers (KeptAs n) (member_shape o) ms some → R (get_member key some) (get_member key ms)
  inner_related R o t key there none law n ms some h =
      at_related R n t none (law n) (get_member key ms) (get_member key some) (subst (λ p. KeptAt (KeptAs n) p (get_member key ms) (get_member key some)) there (h key))

  -- what is kept of an object
  object_kept : (o : S) (n : ℕ) (ms : Members) (e : Data) → wants o ≡ wanted.Object → KeptAs (suc n) o (object ms) e
      → (some : Members) × (e ≡ kept_if (accepts o (object some)) (object some)) × KeptMembers (KeptAs n) (member_shape o) ms some
  object_kept o n ms e is h = no_object n o wanted.Object ms e is h

  -- what is kept of another value
  other_kept : (o : S) (n : ℕ) (d e : Data) → wants o ≡ wanted.Object → as_object d ≡ None → KeptAs n o d e → e ≡ null
  other_kept o n null e is none h = h
  other_kept o n (boolean b) e is none h = h ∙ ap (λ w. kept_truth w b) is
  other_kept o n (number x) e is none h = h ∙ ap (λ w. kept_number w x) is
  other_kept o n (string s) e is none h = h ∙ ap (λ w. kept_text w s) is
  other_kept o zero (array ds) e is none h = absurd h
  other_kept o (suc n) (array ds) e is none h = no_list n o wanted.Object ds e is h
  other_kept o n (object ms) e is none h = absurd (cc)

  whole_kept : (o : S) (n : ℕ) (ms : Members) (e : Data) → wants o ≡ wanted.Object → ((d : Data) → accepts o d ≡ true) → KeptAs (suc n) o (object ms) e
      → (some : Members) × (e ≡ object some) × KeptMembers (KeptAs n) (member_shape o) ms some
  whole_kept o n ms e is all h =
      let k = object_kept o n ms e is h in
      (k.0, k.1 ∙ ap (λ b. kept_if b (object k.0)) (all (object k.0)), k.2)

  -- the same where what is no object has no members
  pub member_related : (R : Option Data → Option Data → Type 0) (o t : S) (key : List ℕ) → wants o ≡ wanted.Object → ((d : Data) → accepts o d ≡ true) → member_shape o key ≡ Some t
      → R None None → ((n : ℕ) (d e : Data) → KeptAs n t d e → R (Some e) (Some d)) → (n : ℕ) (d e : Data) → KeptAs n o d e → R (get key e) (get key d)
  member_related R o t key is all there none law n null e h = subst (λ x. R (get key x) None) (sym (other_kept o n null e is refl h)) none
  member_related R o t key is all there none law n (boolean b) e h = subst (λ x. R (get key x) None) (sym (other_kept o n (boolean b) e is refl h)) none
  member_related R o t key is all there none law n (number x) e h = subst (λ y. R (get key y) None) (sym (other_kept o n (number x) e is refl h)) none
  member_related R o t key is all there none law n (string s) e h = subst (λ x. R (get key x) None) (sym (other_kept o n (string s) e is refl h)) none
  member_related R o t key is all there none law n (array ds) e h = subst (λ x. R (get key x) None) (sym (other_kept o n (array ds) e is refl h)) none
  member_related R o t key is all there none law zero (object ms) e h = absurd h
  member_related R o t key is all there none law (suc n) (object ms) e h =
      let k = whole_kept o n ms e is all h in
      subst (λ x. R (get key x) (get_member key ms)) (sym k.1) (inner_related R o t key there none law n ms k.0 k.2)

  pub inner_same : {X : Type 0} (o t : S) (key : List ℕ) (reading : Option Data → X) → member_shape o key ≡ Some t → ((n : ℕ) (d e : Data) → KeptAs n t d e → reading (Some e) ≡ reading (Some d))
      → (n : ℕ) (ms some : Members) → KeptMembers (KeptAs n) (member_shape o) ms some → reading (get_member key some) ≡ reading (get_member key ms)
  inner_same o t key reading there law n ms some h = inner_related (λ b a. reading b ≡ reading a) o t key there refl law n ms some h

  pub member_same : {X : Type 0} (o t : S) (key : List ℕ) (reading : Option Data → X) → wants o ≡ wanted.Object → ((d : Data) → accepts o d ≡ true) → member_shape o key ≡ Some t
      → ((n : ℕ) (d e : Data) → KeptAs n t d e → reading (Some e) ≡ reading (Some d)) → (n : ℕ) (d e : Data) → KeptAs n o d e → reading (get key e) ≡ reading (get key d)
  member_same o t key reading is all there law n d e h = member_related (λ b a. reading b ≡ reading a) o t key is all there refl law n d e h

  -- that a value is an object
  pub object_same : {X : Type 0} (o : S) (told : Option Members → X) → wants o ≡ wanted.Object → ((d : Data) → accepts o d ≡ true) → ((a b : Members) → told (Some a) ≡ told (Some b))
      → (n : ℕ) (d e : Data) → KeptAs n o d e → told (as_object e) ≡ told (as_object d)
  object_same o told is all law n null e h = ap (λ x. told (as_object x)) (other_kept o n null e is refl h)
  object_same o told is all law n (boolean b) e h = ap (λ x. told (as_object x)) (other_kept o n (boolean b) e is refl h)
  object_same o told is all law n (number x) e h = ap (λ y. told (as_object y)) (other_kept o n (number x) e is refl h)
  object_same o told is all law n (string s) e h = ap (λ x. told (as_object x)) (other_kept o n (string s) e is refl h)
  object_same o told is all law n (array ds) e h = ap (λ x. told (as_object x)) (other_kept o n (array ds) e is refl h)
  object_same o told is all law zero (object ms) e h = absurd h
  object_same o told is all law (suc n) (object ms) e h =
      let k = whole_kept o n ms e is all h in
      ap (λ x. told (as_object x)) k.1 ∙ law k.0 ms

  -- what is no object, or not accepted, is read as null
  pub value_same : {Y : Type 0} (o : S) (reading : Data → Y) → wants o ≡ wanted.Object → ((d : Data) → as_object d ≡ None → reading d ≡ reading null) → ((d : Data) → accepts o d ≡ false → reading d ≡ reading null)
      → ((n : ℕ) (ms some : Members) → KeptMembers (KeptAs n) (member_shape o) ms some → reading (object some) ≡ reading (object ms)) → (n : ℕ) (d e : Data) → KeptAs n o d e → reading e ≡ reading d
  value_same o reading is other refuses law n null e h = ap reading (other_kept o n null e is refl h)
  value_same o reading is other refuses law n (boolean b) e h = ap reading (other_kept o n (boolean b) e is refl h) ∙ sym (other (boolean b) refl)
  value_same o reading is other refuses law n (number x) e h = ap reading (other_kept o n (number x) e is refl h) ∙ sym (other (number x) refl)
  value_same o reading is other refuses law n (string s) e h = ap reading (other_kept o n (string s) e is refl h) ∙ sym (other (string s) refl)
  value_same o reading is other refuses law n (array ds) e h = ap reading (other_kept o n (array ds) e is refl h) ∙ sym (other (array ds) refl)
  value_same o reading is other refuses law zero (object ms) e h = absurd h
  value_same o reading is other refuses law (suc n) (object ms) e h =
      let k = object_kept o n ms e is h in
      ap reading k.1 ∙ if_not reading (object k.0) (accepts o (object k.0)) (refuses (object k.0)) ∙ law n ms k.0 k.2

  pub item_same : {X : Type 0} (o : S) (form : Data → Option X) → wants o ≡ wanted.Object → ((d : Data) → as_object d ≡ None → form d ≡ None) → ((d : Data) → accepts o d ≡ false → form d ≡ None)
      → ((n : ℕ) (ms some : Members) → KeptMembers (KeptAs n) (member_shape o) ms some → form (object some) ≡ form (object ms)) → (n : ℕ) (d e : Data) → KeptAs n o d e → form e ≡ form d
  item_same o form is other refuses law n d e h = value_same o form is (λ x k. other x k ∙ sym (other null refl)) (λ x k. refuses x k ∙ sym (other null refl)) law n d e h

  -- null was kept, or an object of an object
  abbrev pub IsNullOr : S → Data → Data → Type 0
  IsNullOr o d e = (e ≡ null) ⊎ ((m : ℕ) × (ms : Members) × (some : Members) × (d ≡ object ms) × (e ≡ object some) × KeptMembers (KeptAs m) (member_shape o) ms some)

  by_accepted : (o : S) (n : ℕ) (ms some : Members) (e : Data) (b : Bool) → e ≡ kept_if b (object some) → KeptMembers (KeptAs n) (member_shape o) ms some → IsNullOr o (object ms) e
  by_accepted o n ms some e true is h = inr (n, ms, some, refl, is, h)
  by_accepted o n ms some e false is h = inl is

  pub null_or_object : (o : S) → wants o ≡ wanted.Object → (n : ℕ) (d e : Data) → KeptAs n o d e → IsNullOr o d e
  null_or_object o is n null e h = inl (other_kept o n null e is refl h)
  null_or_object o is n (boolean b) e h = inl (other_kept o n (boolean b) e is refl h)
  null_or_object o is n (number x) e h = inl (other_kept o n (number x) e is refl h)
  null_or_object o is n (string s) e h = inl (other_kept o n (string s) e is refl h)
  null_or_object o is n (array ds) e h = inl (other_kept o n (array ds) e is refl h)
  null_or_object o is zero (object ms) e h = absurd h
  null_or_object o is (suc n) (object ms) e h =
      let k = object_kept o n ms e is h in
      by_accepted o n ms k.0 e (accepts o (object k.0)) k.1 k.2

  -- ---- items of a list

  -- what is said of the items of a list, of those that were kept first
  pub list_related : (R : Option Items → Option Items → Type 0) (l t : S) → wants l ≡ wanted.List → item_shape l ≡ t → R None None
      → ((n : ℕ) (ds es : Items) → KeptItems (KeptAs n t) ds es → R (Some es) (Some ds)) → (n : ℕ) (d e : Data) → KeptAs n l d e → R (as_array e) (as_array d)
  list_related R l t is of_items none law n null e h = subst (λ x. R (as_array x) None) (sym h) none
  list_related R l t is of_items none law n (boolean b) e h = subst (λ x. R (as_array x) None) (sym (h ∙ ap (λ w. kept_truth w b) is)) none
  list_related R l t is of_items none law n (number x) e h = subst (λ y. R (as_array y) None) (sym (h ∙ ap (λ w. kept_number w x) is)) none
  list_related R l t is of_items none law n (string s) e h = subst (λ x. R (as_array x) None) (sym (h ∙ ap (λ w. kept_text w s) is)) none
  list_related R l t is of_items none law zero (array ds) e h = absurd h
  list_related R l t is of_items none law (suc n) (array ds) e h =
      let k = no_list n l wanted.List ds e is h in
      subst (λ x. R (as_array x) (Some ds)) (sym k.1) (law n ds k.0 (subst (λ p. KeptItems (KeptAs n p) ds k.0) of_items k.2))
  list_related R l t is of_items none law zero (object ms) e h = absurd h
  list_related R l t is of_items none law (suc n) (object ms) e h = subst (λ x. R (as_array x) None) (sym (no_object n l wanted.List ms e is h)) none

  pub list_same : {X : Type 0} (l t : S) (form : Data → Option X) → wants l ≡ wanted.List → item_shape l ≡ t → form null ≡ None → ((n : ℕ) (d e : Data) → KeptAs n t d e → form e ≡ form d)
      → (n : ℕ) (d e : Data) → KeptAs n l d e → list_of form e ≡ list_of form d
  list_same l t form is of_items none law n d e h =
      list_related (λ b a. option_and_then (each form) b ≡ option_and_then (each form) a) l t is of_items refl (λ m ds es k. each_same (KeptAs m t) form none (law m) ds es k) n d e h
