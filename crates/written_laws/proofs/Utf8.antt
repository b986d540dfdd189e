-- The text of rules is UTF-8 where their texts are.
use Rattle.std.proofs.Common.{◌≡◌, ℕ, negsuc, suc, ◌^◌, ◌<◌, List, [], ◌∷◌, ◌++◌, map, Bool, true, false, Option, Some, None, decimal, Ordering, Less, Equal, Greater, nat_cmp, IsUtf8, refl, arith}
use Rattle.std.specs.Prelude.{IfSome, nat_lt}
use Rattle.std.specs.List.{AllByRecursion}
use Rattle.std.specs.Str.Parse.{AllDigits}
use Rattle.std.specs.Char.{digit_value}
use Rattle.std.specs.Ordering.{match_ordering}
use Rattle.std.specs.Cmp.Lexicographic.{slice_cmp}
use Rattle.std.proofs.lemmas.Fmt.{decimal_is_IsNumeral}
use Rattle.std.proofs.lemmas.Bool.Decides.{nat_tests}
use Rattle.std.proofs.lemmas.Str.{IsUtf8-append, IsUtf8-nil}
use Rattle.json.specs.Print.{quoted}
use Rattle.json.proofs.Printed.Utf8.{are_ascii, IsUtf8-are_ascii, IsUtf8-quoted, IsUtf8-boolean}
use Rattle.serde_json.specs.Data.{Data, number, unsigned, negative, string, Items, no_items, item, Members, no_members, member, put}
use Rattle.serde_json.specs.View.{items_of}
use Rattle.serde_json.specs.Written.{comma_if, compact_text, items_text, members_text}
use Rattle.json_spec.specs.Written.{Field, with_field, with_fields, object_of, written_list, if_true}
use Rattle.written_laws.proofs.Sets.{all_more}

-- ---- parts of the text

byte_utf8 : (b : ℕ) (text : List ℕ) → nat_lt b 128 ≡ true → IsUtf8 text → IsUtf8 (b ∷ text)
byte_utf8 b text small h = IsUtf8-append (b ∷ []) text (IsUtf8-are_ascii (b ∷ []) (all_more (nat_lt b 128) true small refl)) h

comma-utf8 : (later : Bool) → IsUtf8 (comma_if later)
comma-utf8 true = IsUtf8-are_ascii (44 ∷ []) refl
comma-utf8 false = IsUtf8-nil

-- the text of the value is UTF-8
pub record IsText (d : Data) : Type 0 where
  pub utf8 : IsUtf8 (compact_text d)

abbrev AreTexts : Items → Type 0
AreTexts no_items = Unit {0}
AreTexts (item d ds) = IsText d × AreTexts ds

items-utf8 : (later : Bool) (ds : Items) → AreTexts ds → IsUtf8 (items_text later ds)
items-utf8 later no_items h = IsUtf8-are_ascii (93 ∷ []) refl
items-utf8 later (item d ds) h =
    IsUtf8-append (comma_if later) (compact_text d ++ items_text true ds) (comma-utf8 later) (IsUtf8-append (compact_text d) (items_text true ds) h.0.utf8 (items-utf8 true ds h.1))

abbrev AreMembers : Members → Type 0
AreMembers no_members = Unit {0}
AreMembers (member k d ms) = IsUtf8 k × IsText d × AreMembers ms

members-utf8 : (later : Bool) (ms : Members) → AreMembers ms → IsUtf8 (members_text later ms)
members-utf8 later no_members h = IsUtf8-are_ascii (125 ∷ []) refl
members-utf8 later (member k d ms) h =
    IsUtf8-append (comma_if later) (quoted k ++ 58 ∷ (compact_text d ++ members_text true ms)) (comma-utf8 later) (IsUtf8-append (quoted k) (58 ∷ (compact_text d ++ members_text true ms)) (IsUtf8-quoted k h.0)
    (byte_utf8 58 (compact_text d ++ members_text true ms) refl (IsUtf8-append (compact_text d) (members_text true ms) h.1.utf8 (members-utf8 true ms h.2))))

put-texts : (k : List ℕ) (d : Data) (ms : Members) → IsUtf8 k → IsText d → AreMembers ms → AreMembers (put k d ms)
put-texts k d no_members key p h = (key, p, tt)
put-texts k d (member l e ms) key p h = by (slice_cmp nat_cmp k l) (put-texts k d ms key p h.2)
  where
    by : (o : Ordering) → AreMembers (put k d ms) → AreMembers (match_ordering o (member k d (member l e ms)) (member l d ms) (member l e (put k d ms)))
    by Less rest = (key, p, h)
    by Equal rest = (h.0, p, h.2)
    by Greater rest = (h.0, h.1, rest)

-- keys are ASCII, and the fields that are there are texts
abbrev pub AreFields : List Field → Type 0
AreFields [] = Unit {0}
AreFields ((k, o) ∷ fields) = (are_ascii k ≡ true) × IfSome o IsText × AreFields fields

field-text : (ms : Members) (k : List ℕ) (o : Option Data) → are_ascii k ≡ true → AreMembers ms → IfSome o IsText → AreMembers (with_field ms (k, o))
field-text ms k None key h p = h
field-text ms k (Some d) key h p = put-texts k d ms (IsUtf8-are_ascii k key) p h

fields-texts : (fields : List Field) (ms : Members) → AreMembers ms → AreFields fields → AreMembers (with_fields ms fields)
fields-texts [] ms h p = h
fields-texts ((k, o) ∷ fields) ms h p = fields-texts fields (with_field ms (k, o)) (field-text ms k o p.0 h p.1) p.2

pub object_text : (fields : List Field) → AreFields fields → IsText (object_of fields)
object_text fields p = record { utf8 = byte_utf8 123 _ refl (members-utf8 false (with_fields no_members fields) (fields-texts fields no_members tt p)) }

list-texts : {X : Type 0} (form : X → Data) (list : List X) → AllByRecursion (λ x. IsText (form x)) list → AreTexts (items_of (map form list))
list-texts form [] h = tt
list-texts form (x ∷ xs) h = (h.0, list-texts form xs h.1)

pub list_text : {X : Type 0} (form : X → Data) (list : List X) → AllByRecursion (λ x. IsText (form x)) list → IsText (written_list form list)
list_text form list h = record { utf8 = byte_utf8 91 _ refl (items-utf8 false (items_of (map form list)) (list-texts form list h)) }

pub string_text : (text : List ℕ) → IsUtf8 text → IsText (string text)
string_text text h = record { utf8 = IsUtf8-quoted text h }

pub flag_text : (flag : Bool) → IfSome (if_true flag) IsText
flag_text true = record { utf8 = IsUtf8-boolean true }
flag_text false = tt

digits-ascii : (digits : List ℕ) → AllDigits 10 digits → are_ascii digits ≡ true
digits-ascii [] h = refl
digits-ascii (d ∷ digits) h = all_more (nat_lt d 128) (are_ascii digits) (small d h.0) (digits-ascii digits h.1)
  where
    small : (d : ℕ) → digit_value d < 10 → nat_lt d 128 ≡ true
    small d h = grind (arith, nat_tests)

decimal-utf8 : (n : ℕ) → n < 2 ^ 64 → IsUtf8 (decimal n)
decimal-utf8 n h = IsUtf8-are_ascii (decimal n) (digits-ascii (decimal n) (decimal_is_IsNumeral n h).0.1)

pub number_text : (n : ℕ) → n < 2 ^ 64 → IsText (number (unsigned n))
number_text n h = record { utf8 = decimal-utf8 n h }

pub negative_text : (n : ℕ) → n < 2 ^ 63 → IsText (number (negative (negsuc n)))
negative_text n h = record { utf8 = byte_utf8 45 (decimal (suc n)) refl (decimal-utf8 (suc n) (omega arith)) }
