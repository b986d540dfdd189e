-- What is read of a part of a rule stays, where only what has its form was kept.
use Rattle.std.proofs.Common.{◌≡◌, ℕ, List, true, false, Option, Some, None, refl}
use Rattle.serde_json.specs.Data.{Data, null, object, Members}
use Rattle.serde_json.specs.Find.{get, get_member, as_str, as_bool, as_number, as_object}
use Rattle.json_spec.specs.RuleFields.{list_of}
use Rattle.json_fields.specs.declared.shape.Wanted.TheVariants as wanted
use Rattle.json_fields.specs.Shapes.{Kept, KeptMembers}
use Rattle.json_fields.proofs.Forms as forms
use Rattle.rule_parts.specs.declared.part.RulePart.{RulePart}
use Rattle.rule_parts.specs.declared.part.RulePart.TheVariants as part
use Rattle.rule_parts.specs.Parts.{wanted_at, item_of, member_of, accepts_at, KeptAs}

-- ---- single values

pub text_same : (n : ℕ) (d e : Data) → KeptAs n part.Text d e → as_str e ≡ as_str d
text_same n d e h = forms.text_same wanted_at item_of member_of accepts_at part.Text refl n d e h

pub truth_same : (n : ℕ) (d e : Data) → KeptAs n part.Truth d e → as_bool e ≡ as_bool d
truth_same n d e h = forms.truth_same wanted_at item_of member_of accepts_at part.Truth refl n d e h

pub number_same : (n : ℕ) (d e : Data) → KeptAs n part.Number d e → as_number e ≡ as_number d
number_same n d e h = forms.number_same wanted_at item_of member_of accepts_at part.Number refl n d e h

-- ---- members of an object

pub inner_same : {X : Type 0} (o t : RulePart) (key : List ℕ) (reading : Option Data → X) → member_of o key ≡ Some t
    → ((n : ℕ) (d e : Data) → KeptAs n t d e → reading (Some e) ≡ reading (Some d))
    → (n : ℕ) (ms some : Members) → KeptMembers (Kept wanted_at item_of member_of accepts_at n) (member_of o) ms some → reading (get_member key some) ≡ reading (get_member key ms)
inner_same o t key reading there law n ms some h = forms.inner_same wanted_at item_of member_of accepts_at o t key reading there law n ms some h

pub member_same : {X : Type 0} (o t : RulePart) (key : List ℕ) (reading : Option Data → X) → wanted_at o ≡ wanted.Object → ((d : Data) → accepts_at o d ≡ true) → member_of o key ≡ Some t
    → ((n : ℕ) (d e : Data) → KeptAs n t d e → reading (Some e) ≡ reading (Some d)) → (n : ℕ) (d e : Data) → KeptAs n o d e → reading (get key e) ≡ reading (get key d)
member_same o t key reading is all there law n d e h = forms.member_same wanted_at item_of member_of accepts_at o t key reading is all there law n d e h

-- that a value is an object
pub object_same : {X : Type 0} (o : RulePart) (told : Option Members → X) → wanted_at o ≡ wanted.Object → ((d : Data) → accepts_at o d ≡ true) → ((a b : Members) → told (Some a) ≡ told (Some b))
    → (n : ℕ) (d e : Data) → KeptAs n o d e → told (as_object e) ≡ told (as_object d)
object_same o told is all law n d e h = forms.object_same wanted_at item_of member_of accepts_at o told is all law n d e h

pub item_same : {X : Type 0} (o : RulePart) (form : Data → Option X) → wanted_at o ≡ wanted.Object → ((d : Data) → as_object d ≡ None → form d ≡ None) → ((d : Data) → accepts_at o d ≡ false → form d ≡ None)
    → ((n : ℕ) (ms some : Members) → KeptMembers (Kept wanted_at item_of member_of accepts_at n) (member_of o) ms some → form (object some) ≡ form (object ms))
    → (n : ℕ) (d e : Data) → KeptAs n o d e → form e ≡ form d
item_same o form is other refuses law n d e h = forms.item_same wanted_at item_of member_of accepts_at o form is other refuses law n d e h

-- ---- items of a list

pub list_same : {X : Type 0} (l t : RulePart) (form : Data → Option X) → wanted_at l ≡ wanted.List → item_of l ≡ t → form null ≡ None
    → ((n : ℕ) (d e : Data) → KeptAs n t d e → form e ≡ form d) → (n : ℕ) (d e : Data) → KeptAs n l d e → list_of form e ≡ list_of form d
list_same l t form is of_items none law n d e h = forms.list_same wanted_at item_of member_of accepts_at l t form is of_items none law n d e h
