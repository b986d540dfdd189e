-- What is kept of a value of which only what has a form is kept.
use Rattle.std.specs.Prelude.{◌≡◌, ℕ, zero, suc, ◌+◌, nat_le, List, Bool, true, false, Option, Some, None, is_some}
use Rattle.serde_json.specs.Data.{Num, Data, null, boolean, number, string, array, object, Items, no_items, item, Members, put}
use Rattle.serde_json.specs.Find.{as_null, get_member}
use Rattle.json_fields.specs.declared.shape.Wanted.{Wanted}
use Rattle.json_fields.specs.declared.shape.Wanted.TheVariants.{Text, TextOrNull, Truth, Number, List as AList, Few, Object}

-- what stands in the place of a value that is not kept: beside texts or null, a value that is neither
abbrev pub stand_in : Wanted → Data
stand_in TextOrNull = boolean false
stand_in _ = null

abbrev pub kept_text : Wanted → List ℕ → Data
kept_text Text s = string s
kept_text TextOrNull s = string s
kept_text wanted s = stand_in wanted

abbrev pub kept_number : Wanted → Num → Data
kept_number Number n = number n
kept_number wanted n = stand_in wanted

abbrev pub kept_truth : Wanted → Bool → Data
kept_truth Truth b = boolean b
kept_truth wanted b = stand_in wanted

-- nothing stands behind an item in whose place null stands
abbrev pub EndsIf : Bool → Items → Type 0 → Type 0
EndsIf true es others = es ≡ no_items
EndsIf false es others = others

-- of each item something is kept, up to one in whose place null stands
abbrev pub KeptItems : (Data → Data → Type 0) → Items → Items → Type 0
KeptItems keeps no_items no_items = Unit {0}
KeptItems keeps no_items (item e es) = ⊥
KeptItems keeps (item d ds) no_items = ⊥
KeptItems keeps (item d ds) (item e es) = keeps d e × EndsIf (is_some (as_null e)) es (KeptItems keeps ds es)

-- of each item something is kept
abbrev pub KeptEach : (Data → Data → Type 0) → Items → Items → Type 0
KeptEach keeps no_items no_items = Unit {0}
KeptEach keeps no_items (item e es) = ⊥
KeptEach keeps (item d ds) no_items = ⊥
KeptEach keeps (item d ds) (item e es) = keeps d e × KeptEach keeps ds es

abbrev pub item_count : Items → ℕ
item_count no_items = 0
item_count (item d ds) = item_count ds + 1

abbrev pub has_few : ℕ → Items → Bool
has_few most ds = nat_le (item_count ds) most

-- a list of more items than these has null in its place
abbrev pub KeptFew : (Data → Data → Type 0) → Bool → Items → Data → Type 0
KeptFew keeps true ds e = (es : Items) × (e ≡ array es) × KeptEach keeps ds es
KeptFew keeps false ds e = e ≡ null

abbrev pub KeptList : (Data → Data → Type 0) → Wanted → Items → Data → Type 0
KeptList keeps AList ds e = (es : Items) × (e ≡ array es) × KeptItems keeps ds es
KeptList keeps (Few most) ds e = KeptFew keeps (has_few most ds) ds e
KeptList keeps wanted ds e = e ≡ stand_in wanted

-- something is kept of what stands at a key with a form, and nothing stands at another
abbrev pub KeptAt : {S : Type 0} → (S → Data → Data → Type 0) → Option S → Option Data → Option Data → Type 0
KeptAt keeps None found kept = kept ≡ None
KeptAt keeps (Some shape) None kept = kept ≡ None
KeptAt keeps (Some shape) (Some d) None = ⊥
KeptAt keeps (Some shape) (Some d) (Some e) = keeps shape d e

abbrev pub KeptMembers : {S : Type 0} → (S → Data → Data → Type 0) → (List ℕ → Option S) → Members → Members → Type 0
KeptMembers keeps shape_at ms some = (k : List ℕ) → KeptAt keeps (shape_at k) (get_member k ms) (get_member k some)

abbrev pub kept_if : Bool → Data → Data
kept_if true d = d
kept_if false d = null

abbrev pub KeptObject : {S : Type 0} → (S → Data → Data → Type 0) → (List ℕ → Option S) → (Data → Bool) → Wanted → Members → Data → Type 0
KeptObject keeps shape_at accepts Object ms e = (some : Members) × (e ≡ kept_if (accepts (object some)) (object some)) × KeptMembers keeps shape_at ms some
KeptObject keeps shape_at accepts wanted ms e = e ≡ stand_in wanted

-- and so is one member more
abbrev pub KeepsMember : {S : Type 0} → (S → Data → Data → Type 0) → (List ℕ → Option S) → List ℕ → Data → Members → Members → Type 0
KeepsMember keeps shape_at k d old new = (ms : Members) → KeptMembers keeps shape_at ms old → KeptMembers keeps shape_at (put k d ms) new

-- of a value, nested no deeper than so
module _ {S : Type 0} (wants : S → Wanted) (item_shape : S → S) (member_shape : S → List ℕ → Option S) (accepts : S → Data → Bool) where
  abbrev pub Kept : ℕ → S → Data → Data → Type 0
  Kept depth shape null e = e ≡ null
  Kept depth shape (boolean b) e = e ≡ kept_truth (wants shape) b
  Kept depth shape (number n) e = e ≡ kept_number (wants shape) n
  Kept depth shape (string s) e = e ≡ kept_text (wants shape) s
  Kept zero shape (array ds) e = ⊥
  Kept (suc depth) shape (array ds) e = KeptList (Kept depth (item_shape shape)) (wants shape) ds e
  Kept zero shape (object ms) e = ⊥
  Kept (suc depth) shape (object ms) e = KeptObject (Kept depth) (member_shape shape) (accepts shape) (wants shape) ms e
