-- What is kept of items and members, and of one more.
use Rattle.std.proofs.Common.{Bool, ◌≡◌, ℕ, zero, suc, ◌+◌, ◌-◌, ◌<◌, ◌≤◌, List, [], ◌∷◌, ◌++◌, length, true, false, Option, Some, None, is_some, option_and_then, Result, Ok, Err, refl, sym, ap, ◌∙◌, subst, ⊎_elim, arith}
use Rattle.std.specs.Prelude.{IfOk, OnOk}
use Rattle.std.proofs.lemmas.Bool.Decides.{nat_tests}
use Rattle.json.specs.Token.{Token}
use Rattle.json.specs.Json as json
use Rattle.json.specs.Json.{Parse, parse_map, after_end_array, items_step, items, value}
use Rattle.json.proofs.Grammar.{left, items_fail, skip_value-shorter, value_is}
use Rattle.serde_json.specs.Data.{Data, null, string, array, object, Items, no_items, item, Members, no_members, put}
use Rattle.serde_json.specs.Read.{of_items, converted}
use Rattle.serde_json.specs.View.{view, items_view}
use Rattle.serde_json.specs.declared.value.Value.{Value}
use Rattle.serde_json.specs.Find.{as_null, get_member}
use Rattle.serde_json.proofs.Views.{get_member-put, get_member-put_other}
use Rattle.json_fields.specs.declared.shape.Wanted.{Wanted}
use Rattle.json_fields.specs.declared.tree.Fault.{Fault}
use Rattle.json_fields.specs.Last.{value_at, members_in}
use Rattle.json_fields.specs.Shapes.{Kept, EndsIf, KeptItems, KeptEach, item_count, has_few, KeptFew, KeptList, KeptAt, KeptMembers, KeptObject, KeepsMember, kept_text}
use Rattle.json_fields.proofs.Keeping.{same_or_other}

pub then_ok : {A E : Type 0} (r : Result A E) (P Q : Type 0) → OnOk r P → (P → Q) → OnOk r Q
then_ok (Ok a) P Q h f = f h
then_ok (Err e) P Q h f = tt

-- ---- a bound on the turns that is enough

then_same : (o : Option (json.Json × List Token)) (f g : Parse json.Items) → ((q : json.Json × List Token) → o ≡ Some q → f q.1 ≡ g q.1)
    → option_and_then (λ q. parse_map (json.item q.0) (f q.1)) o ≡ option_and_then (λ q. parse_map (json.item q.0) (g q.1)) o
then_same None f g h = refl
then_same (Some q) f g h = ap (parse_map (json.item q.0)) (h q refl)

step_same : (p : Parse json.Json) (f g : Parse json.Items) (ts : List Token) (o : Option (List Token)) → ((q : json.Json × List Token) → p ts ≡ Some q → f q.1 ≡ g q.1)
    → items_step p f ts o ≡ items_step p g ts o
step_same p f g ts None h = then_same (p ts) f g h
step_same p f g ts (Some r) h = refl

none_at_end : (depth n : ℕ) → items (value depth) n [] ≡ None
none_at_end depth n = items_fail (value depth) n [] refl (value_is depth [])

pub bounds_same : (depth n m : ℕ) (ts : List Token) → length ts ≤ n → length ts ≤ m → items (value depth) n ts ≡ items (value depth) m ts
unfolding items
bounds_same depth zero m [] a b = none_at_end depth zero ∙ sym (none_at_end depth m)
bounds_same depth zero m (t ∷ ts) a b = absurd (omega arith)
bounds_same depth (suc n) zero [] a b = none_at_end depth (suc n) ∙ sym (none_at_end depth zero)
bounds_same depth (suc n) zero (t ∷ ts) a b = absurd (omega arith)
bounds_same depth (suc n) (suc m) ts a b =
    step_same (value depth) (items (value depth) n) (items (value depth) m) ts (after_end_array ts)
    (λ q e. let less : length q.1 < length ts = skip_value-shorter depth ts q.1 (ap left e) in bounds_same depth n m q.1 (omega (arith, less)) (omega (arith, less)))

-- ---- members

none_there : {S : Type 0} (keeps : S → Data → Data → Type 0) (o : Option S) → KeptAt keeps o None None
none_there keeps None = refl
none_there keeps (Some shape) = refl

pub none_kept : {S : Type 0} (keeps : S → Data → Data → Type 0) (shape_at : List ℕ → Option S) → KeptMembers keeps shape_at no_members no_members
none_kept keeps shape_at k = none_there keeps (shape_at k)

module _ {S : Type 0} (keeps : S → Data → Data → Type 0) (shape_at : List ℕ → Option S) (k : List ℕ) (d : Data) where
  kept_at_is : (o : Option S) (a b found kept : Option Data) → a ≡ found → b ≡ kept → KeptAt keeps o found kept → KeptAt keeps o a b
  kept_at_is o a b found kept e f h = subst (λ x. KeptAt keeps o x b) (sym e) (subst (λ y. KeptAt keeps o found y) (sym f) h)

  pub member_kept : (shape : S) (e : Data) (old new : Members) → shape_at k ≡ Some shape → new ≡ put k e old → keeps shape d e → KeepsMember keeps shape_at k d old new
  member_kept shape e old new asked is given ms has q =
      ⊎_elim
      (λ same. subst (λ t. KeptAt keeps (shape_at t) (get_member t (put k d ms)) (get_member t new)) (sym same)
      (subst (λ o. KeptAt keeps o (get_member k (put k d ms)) (get_member k new)) (sym asked)
      (kept_at_is (Some shape) (get_member k (put k d ms)) (get_member k new) (Some d) (Some e) (get_member-put k d ms) (ap (get_member k) is ∙ get_member-put k e old) given)))
      (λ other. kept_at_is (shape_at q) (get_member q (put k d ms)) (get_member q new) (get_member q ms) (get_member q old) (get_member-put_other q k d ms other)
      (ap (get_member q) is ∙ get_member-put_other q k e old other) (has q))
      (same_or_other q k)

  pub member_passed : (old : Members) → shape_at k ≡ None → KeepsMember keeps shape_at k d old old
  member_passed old passed ms has q =
      ⊎_elim
      (λ same. subst (λ t. KeptAt keeps (shape_at t) (get_member t (put k d ms)) (get_member t old)) (sym same)
      (subst (λ o. KeptAt keeps o (get_member k (put k d ms)) (get_member k old)) (sym passed) (subst (λ o. KeptAt keeps o (get_member k ms) (get_member k old)) passed (has k))))
      (λ other. kept_at_is (shape_at q) (get_member q (put k d ms)) (get_member q old) (get_member q ms) (get_member q old) (get_member-put_other q k d ms other) refl (has q))
      (same_or_other q k)

-- ---- items

abbrev pub data_before : List Data → Items → Items
data_before [] rest = rest
data_before (d ∷ ds) rest = item d (data_before ds rest)

data_push : (ds : List Data) (d : Data) (rest : Items) → data_before ds (item d rest) ≡ data_before (ds ++ d ∷ []) rest
data_push [] d rest = refl
data_push (e ∷ ds) d rest = ap (item e) (data_push ds d rest)

pub one_more : (ds : List Data) (d : Data) (r : Option (Items × List Token)) → parse_map (data_before ds) (parse_map (item d) r) ≡ parse_map (data_before (ds ++ d ∷ [])) r
one_more ds d None = refl
one_more ds d (Some p) = ap (λ t. Some (t, p.1)) (data_push ds d p.0)

module _ (keeps : Data → Data → Type 0) where
  -- each is kept, and none has null in its place
  abbrev pub AllKept : List Data → List Value → Type 0
  AllKept [] [] = Unit {0}
  AllKept [] (v ∷ vs) = ⊥
  AllKept (d ∷ ds) [] = ⊥
  AllKept (d ∷ ds) (v ∷ vs) = keeps d (view v) × (is_some (as_null (view v)) ≡ false) × AllKept ds vs

  pub all_more : (ds : List Data) (vs : List Value) (d : Data) (v : Value) → AllKept ds vs → keeps d (view v) → is_some (as_null (view v)) ≡ false → AllKept (ds ++ d ∷ []) (vs ++ v ∷ [])
  all_more [] [] d v h k e = (k, e, tt)
  all_more [] (w ∷ vs) d v h k e = absurd h
  all_more (x ∷ ds) [] d v h k e = absurd h
  all_more (x ∷ ds) (w ∷ vs) d v h k e = (h.0, h.1, all_more ds vs d v h.2 k e)

  goes_on : (b : Bool) (es : Items) (others : Type 0) → b ≡ false → others → EndsIf b es others
  goes_on true es others e h = absurd (cc)
  goes_on false es others e h = h

  ends : (b : Bool) (others : Type 0) → b ≡ true → EndsIf b no_items others
  ends true others e = refl
  ends false others e = absurd (cc)

  pub all_are : (ds : List Data) (vs : List Value) → AllKept ds vs → KeptItems keeps (data_before ds no_items) (items_view vs)
  all_are [] [] h = tt
  all_are [] (v ∷ vs) h = absurd h
  all_are (d ∷ ds) [] h = absurd h
  all_are (d ∷ ds) (v ∷ vs) h =
      (h.0, goes_on (is_some (as_null (view v))) (items_view vs) (KeptItems keeps (data_before ds no_items) (items_view vs)) h.1 (all_are ds vs h.2))

  -- up to one that is not kept
  pub up_to : (ds : List Data) (vs : List Value) (d : Data) (v : Value) (rest : Items) → AllKept ds vs → keeps d (view v) → is_some (as_null (view v)) ≡ true
      → KeptItems keeps (data_before (ds ++ d ∷ []) rest) (items_view (vs ++ v ∷ []))
  up_to [] [] d v rest h k e = (k, ends (is_some (as_null (view v))) (KeptItems keeps rest no_items) e)
  up_to [] (w ∷ vs) d v rest h k e = absurd h
  up_to (x ∷ ds) [] d v rest h k e = absurd h
  up_to (x ∷ ds) (w ∷ vs) d v rest h k e =
      (h.0, goes_on (is_some (as_null (view w))) (items_view (vs ++ v ∷ [])) (KeptItems keeps (data_before (ds ++ d ∷ []) rest) (items_view (vs ++ v ∷ []))) h.1 (up_to ds vs d v rest h.2 k e))

-- ---- a list of few items

counted : (ds : List Data) (rest : Items) → item_count (data_before ds rest) ≡ length ds + item_count rest
counted [] rest = grind arith
counted (d ∷ ds) rest = let behind = counted ds rest in grind (arith, behind)

module _ (keeps : Data → Data → Type 0) where
  -- each is kept
  abbrev pub EachIs : List Data → List Value → Type 0
  EachIs [] [] = Unit {0}
  EachIs [] (v ∷ vs) = ⊥
  EachIs (d ∷ ds) [] = ⊥
  EachIs (d ∷ ds) (v ∷ vs) = keeps d (view v) × EachIs ds vs

  pub each_more : (ds : List Data) (vs : List Value) (d : Data) (v : Value) → EachIs ds vs → keeps d (view v) → EachIs (ds ++ d ∷ []) (vs ++ v ∷ [])
  each_more [] [] d v h k = (k, tt)
  each_more [] (w ∷ vs) d v h k = absurd h
  each_more (x ∷ ds) [] d v h k = absurd h
  each_more (x ∷ ds) (w ∷ vs) d v h k = (h.0, each_more ds vs d v h.1 k)

  each_are : (ds : List Data) (vs : List Value) → EachIs ds vs → KeptEach keeps (data_before ds no_items) (items_view vs)
  each_are [] [] h = tt
  each_are [] (v ∷ vs) h = absurd h
  each_are (d ∷ ds) [] h = absurd h
  each_are (d ∷ ds) (v ∷ vs) h = (h.0, each_are ds vs h.1)

  as_many : (ds : List Data) (vs : List Value) → EachIs ds vs → length ds ≡ length vs
  as_many [] [] h = refl
  as_many [] (v ∷ vs) h = absurd h
  as_many (d ∷ ds) [] h = absurd h
  as_many (d ∷ ds) (v ∷ vs) h = let behind = as_many ds vs h.1 in grind (arith, behind)

  pub few_are : (most : ℕ) (ds : List Data) (vs : List Value) → EachIs ds vs → length vs ≤ most → KeptFew keeps (has_few most (data_before ds no_items)) (data_before ds no_items) (array (items_view vs))
  few_are most ds vs h few =
      let count = counted ds no_items in
      let same = as_many ds vs h in
      let is : has_few most (data_before ds no_items) ≡ true = grind (arith, nat_tests, count, same, few) in
      subst (λ b. KeptFew keeps b (data_before ds no_items) (array (items_view vs))) (sym is) (items_view vs, refl, each_are ds vs h)

  pub more_are : (most : ℕ) (ds : List Data) (vs : List Value) (d : Data) (rest : Items) → EachIs ds vs → length vs ≡ most → KeptFew keeps (has_few most (data_before (ds ++ d ∷ []) rest)) (data_before (ds ++ d ∷ []) rest) null
  more_are most ds vs d rest h full =
      let count = ap item_count (data_push ds d rest) in
      let counts = counted ds (item d rest) in
      let same = as_many ds vs h in
      let is : has_few most (data_before (ds ++ d ∷ []) rest) ≡ false = grind (arith, nat_tests, count, counts, same, full) in
      subst (λ b. KeptFew keeps b (data_before (ds ++ d ∷ []) rest) null) (sym is) refl

-- ---- a value

module _ {S : Type 0} (wants : S → Wanted) (item_shape : S → S) (member_shape : S → List ℕ → Option S) (accepts : S → Data → Bool) (depth : ℕ) (shape : S) (ts rest : List Token) where
  abbrev pub Given : Value → Type 0
  Given v = (d : Data) × (value_at depth ts ≡ Some (d, rest)) × Kept wants item_shape member_shape accepts depth shape d (view v)

  pub text_given : (s : List ℕ) (w : Wanted) (r : Result Value Fault) → w ≡ wants shape → value_at depth ts ≡ Some (string s, rest) → IfOk r (λ v. view v ≡ kept_text w s) → IfOk r Given
  text_given s w (Ok v) is at h = (string s, at, h ∙ ap (λ x. kept_text x s) is)
  text_given s w (Err e) is at h = tt

  pub list_given : (inner : List Token) (r : Result Value Fault) → 0 < depth → value_at depth ts ≡ parse_map array (converted of_items (items (value (depth - 1)) (length inner) inner))
      → IfOk r (λ v. (ds : Items) × (converted of_items (items (value (depth - 1)) (length inner) inner) ≡ Some (ds, rest)) × KeptList (Kept wants item_shape member_shape accepts (depth - 1) (item_shape shape)) (wants shape) ds (view v))
      → IfOk r Given
  list_given inner (Ok v) some opened h =
      let is : suc (depth - 1) ≡ depth = omega arith in
      (array h.0, opened ∙ ap (parse_map array) h.1, subst (λ n. Kept wants item_shape member_shape accepts n shape (array h.0) (view v)) is h.2)
  list_given inner (Err e) some opened h = tt

  pub object_given : (inner : List Token) (r : Result Value Fault) → 0 < depth → value_at depth ts ≡ parse_map object (members_in (depth - 1) inner)
      → IfOk r (λ v. (ms : Members) × (members_in (depth - 1) inner ≡ Some (ms, rest)) × KeptObject (Kept wants item_shape member_shape accepts (depth - 1)) (member_shape shape) (accepts shape) (wants shape) ms (view v))
      → IfOk r Given
  object_given inner (Ok v) some opened h =
      let is : suc (depth - 1) ≡ depth = omega arith in
      (object h.0, opened ∙ ap (parse_map object) h.1, subst (λ n. Kept wants item_shape member_shape accepts n shape (object h.0) (view v)) is h.2)
  object_given inner (Err e) some opened h = tt
