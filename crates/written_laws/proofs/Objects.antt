-- Objects and lists that are written and read again, and what is found in them.
use Rattle.std.proofs.Common.{◌≡◌, ℕ, suc, ◌≤◌, List, [], ◌∷◌, map, Bool, true, false, cond, Option, Some, None, option_map, option_and_then, Ordering, Less, Equal, Greater, nat_cmp, bytes_eq, refl, sym, ap, ◌∙◌, subst, arith, append-nil}
use Rattle.std.specs.Prelude.{IfSome}
use Rattle.std.specs.List.{AllByRecursion}
use Rattle.std.specs.Ordering.{match_ordering, ordering_reverse}
use Rattle.std.specs.Cmp.Lexicographic.{slice_cmp}
use Rattle.std.proofs.lemmas.Cmp.{nat_list_cmp_total}
use Rattle.std.proofs.lemmas.Bool.{false≢true}
use Rattle.std.proofs.lemmas.Slice.Eq.{bytes_eq-Decides}
use Rattle.json.specs.Token.{Token}
use Rattle.json.specs.Json as json
use Rattle.json.specs.Print.{print}
use Rattle.json.specs.Tree.{json_tokens, depth, items_depth, members_depth, HasNumbers, ItemsHaveNumbers, MembersHaveNumbers}
use Rattle.json.proofs.Printed.Tokens.{tokens-print}
use Rattle.json.proofs.Printed.Trees.{value-json_tokens, ArePrintable-json_tokens}
use Rattle.serde_json.specs.Data.{Data, array, object, Items, no_items, item, Members, no_members, member, put}
use Rattle.serde_json.specs.Find.{get, get_member}
use Rattle.serde_json.specs.Read.{of_json, of_items, of_members, read}
use Rattle.serde_json.specs.View.{items_of}
use Rattle.serde_json.specs.Written.{outline, items_outline, members_outline, compact_text}
use Rattle.serde_json.proofs.Texts.{print-outline}
use Rattle.serde_json.proofs.Views.{get_member-put, get_member-put_other}
use Rattle.json_spec.specs.Written.{Field, with_field, with_fields, object_of, written_list}

-- ---- keys that ascend

-- each of these keys is above this one
abbrev Above : List ℕ → Members → Type 0
Above k no_members = Unit {0}
Above k (member l d ms) = (slice_cmp nat_cmp k l ≡ Less) × Above k ms

above_through : (k l : List ℕ) (ms : Members) → slice_cmp nat_cmp k l ≡ Less → Above l ms → Above k ms
above_through k l no_members h a = tt
above_through k l (member m d ms) h a = (nat_list_cmp_total.trans k l m h a.0, above_through k l ms h a.1)

above-put : (l k : List ℕ) (d : Data) (ms : Members) → slice_cmp nat_cmp l k ≡ Less → Above l ms → Above l (put k d ms)
above-put l k d no_members h a = (h, tt)
above-put l k d (member m e ms) h a = by (slice_cmp nat_cmp k m) (above-put l k d ms h a.1)
  where
    by : (o : Ordering) → Above l (put k d ms) → Above l (match_ordering o (member k d (member m e ms)) (member m d ms) (member m e (put k d ms)))
    by Less rest = (h, a)
    by Equal rest = a
    by Greater rest = (a.0, rest)

reversed : (k l : List ℕ) (o : Ordering) → slice_cmp nat_cmp k l ≡ o → slice_cmp nat_cmp l k ≡ ordering_reverse o
reversed k l o is = nat_list_cmp_total.antisymm l k ∙ ap ordering_reverse is

-- ---- values that are read back

-- the value is read back from its text, and nests no deeper than the number
pub record IsBack (n : ℕ) (d : Data) : Type 0 where
  pub value : of_json (outline d) ≡ Some d
  pub numbers : HasNumbers (outline d)
  pub shallow : depth (outline d) ≤ n

abbrev AreBack : ℕ → Members → Type 0
AreBack n no_members = Unit {0}
AreBack n (member k d ms) = IsBack n d × Above k ms × AreBack n ms

back-put : (n : ℕ) (k : List ℕ) (d : Data) (ms : Members) → IsBack n d → AreBack n ms → AreBack n (put k d ms)
back-put n k d no_members p q = (p, tt, tt)
back-put n k d (member m e ms) p q = by (slice_cmp nat_cmp k m) refl (back-put n k d ms p q.2)
  where
    by : (o : Ordering) → slice_cmp nat_cmp k m ≡ o → AreBack n (put k d ms) → AreBack n (match_ordering o (member k d (member m e ms)) (member m d ms) (member m e (put k d ms)))
    by Less is rest = (p, (is, above_through k m ms is q.1), q)
    by Equal is rest = (p, q.1, q.2)
    by Greater is rest = (q.0, above-put m k d ms (reversed k m Greater is) q.1, rest)

abbrev joined : Members → Members → Members
joined no_members ms = ms
joined (member k d found) ms = member k d (joined found ms)

-- each key of the first is below each of the second
abbrev Under : Members → Members → Type 0
Under no_members ms = Unit {0}
Under (member k d found) ms = Above k ms × Under found ms

put-last : (found : Members) (k : List ℕ) (d : Data) (ms : Members) → Under found (member k d ms) → put k d found ≡ joined found (member k d no_members)
put-last no_members k d ms u = refl
put-last (member l e found) k d ms u = rw (reversed l k Less u.0.0) (ap (member l e) (put-last found k d ms u.1))

under-joined : (found : Members) (k : List ℕ) (d : Data) (ms : Members) → Under found (member k d ms) → Above k ms → Under (joined found (member k d no_members)) ms
under-joined no_members k d ms u a = (a, tt)
under-joined (member l e found) k d ms u a = (u.0.1, under-joined found k d ms u.1 a)

joined-joined : (found : Members) (k : List ℕ) (d : Data) (ms : Members) → joined (joined found (member k d no_members)) ms ≡ joined found (member k d ms)
joined-joined no_members k d ms = refl
joined-joined (member l e found) k d ms = ap (member l e) (joined-joined found k d ms)

joined-nothing : (found : Members) → joined found no_members ≡ found
joined-nothing no_members = refl
joined-nothing (member l e found) = ap (member l e) (joined-nothing found)

-- members whose keys ascend go in one behind the other
members-back : (n : ℕ) (ms found : Members) → AreBack n ms → Under found ms → of_members (members_outline ms) found ≡ Some (joined found ms)
members-back n no_members found b u = ap Some (sym (joined-nothing found))
members-back n (member k d ms) found b u =
    ap (option_and_then (λ e. of_members (members_outline ms) (put k e found))) b.0.value
    ∙ ap (of_members (members_outline ms)) (put-last found k d ms u)
    ∙ members-back n ms (joined found (member k d no_members)) b.2 (under-joined found k d ms u b.1)
    ∙ ap Some (joined-joined found k d ms)

members-numbers : (n : ℕ) (ms : Members) → AreBack n ms → MembersHaveNumbers (members_outline ms)
members-numbers n no_members b = tt
members-numbers n (member k d ms) b = (b.0.numbers, members-numbers n ms b.2)

members-shallow : (n : ℕ) (ms : Members) → AreBack n ms → members_depth (members_outline ms) ≤ n
members-shallow n no_members b = omega arith
members-shallow n (member k d ms) b = omega (arith, b.0.shallow, members-shallow n ms b.2)

members_back : (n : ℕ) (ms : Members) → AreBack n ms → IsBack (suc n) (object ms)
members_back n ms b = record {
  value = ap (option_map object) (members-back n ms no_members b tt);
  numbers = members-numbers n ms b;
  shallow = omega (arith, members-shallow n ms b);
}

-- each field that is there is read back
abbrev pub FieldsBack : ℕ → List Field → Type 0
FieldsBack n [] = Unit {0}
FieldsBack n ((k, o) ∷ fields) = IfSome o (IsBack n) × FieldsBack n fields

field-back : (n : ℕ) (ms : Members) (k : List ℕ) (o : Option Data) → AreBack n ms → IfSome o (IsBack n) → AreBack n (with_field ms (k, o))
field-back n ms k None b p = b
field-back n ms k (Some d) b p = back-put n k d ms p b

fields-back : (n : ℕ) (fields : List Field) (ms : Members) → AreBack n ms → FieldsBack n fields → AreBack n (with_fields ms fields)
fields-back n [] ms b p = b
fields-back n ((k, o) ∷ fields) ms b p = fields-back n fields (with_field ms (k, o)) (field-back n ms k o b p.0) p.1

pub object_back : (n : ℕ) (fields : List Field) → FieldsBack n fields → IsBack (suc n) (object_of fields)
object_back n fields p = members_back n (with_fields no_members fields) (fields-back n fields no_members tt p)

-- ---- lists that are read back

abbrev ItemsBack : ℕ → Items → Type 0
ItemsBack n no_items = Unit {0}
ItemsBack n (item d ds) = IsBack n d × ItemsBack n ds

items-back : (n : ℕ) (ds : Items) → ItemsBack n ds → of_items (items_outline ds) ≡ Some ds
items-back n no_items b = refl
items-back n (item d ds) b =
    ap (option_and_then (λ e. option_map (item e) (of_items (items_outline ds)))) b.0.value ∙ ap (option_map (item d)) (items-back n ds b.1)

items-numbers : (n : ℕ) (ds : Items) → ItemsBack n ds → ItemsHaveNumbers (items_outline ds)
items-numbers n no_items b = tt
items-numbers n (item d ds) b = (b.0.numbers, items-numbers n ds b.1)

items-shallow : (n : ℕ) (ds : Items) → ItemsBack n ds → items_depth (items_outline ds) ≤ n
items-shallow n no_items b = omega arith
items-shallow n (item d ds) b = omega (arith, b.0.shallow, items-shallow n ds b.1)

items_back : (n : ℕ) (ds : Items) → ItemsBack n ds → IsBack (suc n) (array ds)
items_back n ds b = record {
  value = ap (option_map array) (items-back n ds b);
  numbers = items-numbers n ds b;
  shallow = omega (arith, items-shallow n ds b);
}

list-items : {X : Type 0} (n : ℕ) (form : X → Data) (list : List X) → AllByRecursion (λ x. IsBack n (form x)) list → ItemsBack n (items_of (map form list))
list-items n form [] p = tt
list-items n form (x ∷ xs) p = (p.0, list-items n form xs p.1)

pub list_back : {X : Type 0} (n : ℕ) (form : X → Data) (list : List X) → AllByRecursion (λ x. IsBack n (form x)) list → IsBack (suc n) (written_list form list)
list_back n form list p = items_back n (items_of (map form list)) (list-items n form list p)

-- ---- the text

whole : Option (json.Json × List Token) → Option Data
whole o = option_and_then of_json (option_and_then (λ p. json.if_last p.0 p.1) o)

read-print : (j : json.Json) → HasNumbers j → depth j ≤ 127 → read (print (json_tokens j)) ≡ of_json j
unfolding whole
read-print j numbers shallow =
    ap (λ ts. whole (json.value 127 ts)) (tokens-print (json_tokens j) (ArePrintable-json_tokens j numbers) ∙ sym (append-nil (json_tokens j)))
    ∙ ap whole (value-json_tokens j 127 [] shallow)

-- the text of such a value reads as it
pub text_back : (d : Data) → IsBack 127 d → read (compact_text d) ≡ Some d
text_back d b = ap read (sym (print-outline d)) ∙ read-print (outline d) b.numbers b.shallow ∙ b.value

-- ---- what is found in an object

-- a later field of the key counts
abbrev over : Option Data → Option Data → Option Data
over None before = before
over (Some d) before = Some d

-- what stands at the key behind these fields
abbrev look : List ℕ → Option Data → List Field → Option Data
look k before [] = before
look k before ((l, o) ∷ fields) = look k (cond (bytes_eq k l) (over o before) before) fields

over-none : (o : Option Data) → over o None ≡ o
over-none None = refl
over-none (Some d) = refl

same_over : (b : Bool) (before : Option Data) → before ≡ cond b before before
same_over true before = refl
same_over false before = refl

put-found : (k l : List ℕ) (d : Data) (ms : Members) (b : Bool) → bytes_eq k l ≡ b → get_member k (put l d ms) ≡ cond b (Some d) (get_member k ms)
put-found k l d ms true e = let same : k ≡ l = (bytes_eq-Decides k l).0 e in subst (λ m. get_member k (put m d ms) ≡ Some d) same (get_member-put k d ms)
put-found k l d ms false e = get_member-put_other k l d ms (λ same. false≢true (sym e ∙ (bytes_eq-Decides k l).1 same))

field-found : (k l : List ℕ) (o : Option Data) (ms : Members) → get_member k (with_field ms (l, o)) ≡ cond (bytes_eq k l) (over o (get_member k ms)) (get_member k ms)
field-found k l None ms = same_over (bytes_eq k l) (get_member k ms)
field-found k l (Some d) ms = put-found k l d ms (bytes_eq k l) refl

fields-found : (k : List ℕ) (fields : List Field) (ms : Members) → get_member k (with_fields ms fields) ≡ look k (get_member k ms) fields
fields-found k [] ms = refl
fields-found k ((l, o) ∷ fields) ms = fields-found k fields (with_field ms (l, o)) ∙ ap (λ before. look k before fields) (field-found k l o ms)

-- a field that has its key alone
pub found : (k : List ℕ) (fields : List Field) (o : Option Data) → look k None fields ≡ over o None → get k (object_of fields) ≡ o
found k fields o is = fields-found k fields no_members ∙ is ∙ over-none o

-- a key that no field has
pub missing : (k : List ℕ) (fields : List Field) → look k None fields ≡ None → get k (object_of fields) ≡ None
missing k fields is = fields-found k fields no_members ∙ is
