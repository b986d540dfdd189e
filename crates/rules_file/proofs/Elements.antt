-- The values of a text one after another: how a list goes on behind each.
use Rattle.std.proofs.Common.{◌≡◌, ℕ, zero, suc, ◌-◌, ◌<◌, ◌≤◌, List, [], ◌∷◌, length, Option, Some, None, option_map, option_and_then, refl, ap, ◌∙◌, arith}
use Rattle.json.specs.Token.{Token}
use Rattle.json.specs.Json as json
use Rattle.json.specs.Json.{parse_map, after_end_array, items_step, items, value, if_last}
use Rattle.json.proofs.Grammar.{items_end, items_more, value-begin_array}
use Rattle.serde_json.specs.Data.{Data, array, Items, item, no_items}
use Rattle.serde_json.specs.Read.{of_json, of_items, converted}
use Rattle.rules_file.specs.Reading.{value_in, items_in, HasValue, HasItems, HasNoItems}

-- the tree of the tokens of a whole text
abbrev pub tree_in : Option (json.Json × List Token) → Option Data
tree_in o = option_and_then of_json (option_and_then (λ p. if_last p.0 p.1) o)

-- ---- what was converted

abbrev or_else : {A : Type 0} → A → Option A → A
or_else a None = a
or_else a (Some b) = b

same_pair : {B : Type 0} (r s : List Token) (x : Option B) (b : B) → option_map {U = B × List Token} (λ y. (y, r)) x ≡ Some (b, s) → (r ≡ s) × (x ≡ Some b)
same_pair r s None b e = absurd (cc)
same_pair r s (Some y) b e = let same = ap (or_else (y, r)) e in (ap (λ p. p.1) same, ap (λ p. Some p.0) same)

pub converted_some : {A B : Type 0} (f : A → Option B) (o : Option (A × List Token)) (b : B) (r : List Token) → converted f o ≡ Some (b, r) → (a : A) × (o ≡ Some (a, r)) × (f a ≡ Some b)
converted_some f None b r e = absurd (cc)
converted_some f (Some p) b r e = let both = same_pair p.1 r (f p.0) b e in (p.0, ap (λ s. Some (p.0, s)) both.0, both.1)

pub no_pair : {B : Type 0} (r : List Token) (x : Option B) → option_map {U = B × List Token} (λ y. (y, r)) x ≡ None → x ≡ None
no_pair r None e = refl
no_pair r (Some y) e = absurd (cc)

-- ---- a turn along a list

one_item : (d : Data) (x : Option Items) (r : List Token) → option_map {U = Items × List Token} (λ b. (b, r)) (option_map (item d) x) ≡ parse_map (item d) (option_map (λ b. (b, r)) x)
one_item d None r = refl
one_item d (Some ds) r = refl

good_item : (j : json.Json) (d : Data) → of_json j ≡ Some d → (o : Option (json.Items × List Token)) → converted of_items (parse_map (json.item j) o) ≡ parse_map (item d) (converted of_items o)
good_item j d e None = refl
good_item j d e (Some p) = rw e (one_item d (of_items p.0) p.1)

bad_item : (j : json.Json) → of_json j ≡ None → (o : Option (json.Items × List Token)) → converted of_items (parse_map (json.item j) o) ≡ None
bad_item j e None = refl
bad_item j e (Some p) = rw e

pub item_read : (depth n : ℕ) (ts r : List Token) (d : Data) → 0 < n → after_end_array ts ≡ None → HasValue depth ts d r → items_in depth n ts ≡ parse_map (item d) (items_in depth (n - 1) r)
item_read depth n ts r d some going e =
    let j = converted_some of_json (value depth ts) d r e in
    ap (converted of_items) (items_more (value depth) n ts r j.0 some going j.1) ∙ good_item j.0 d j.2 _

none_next : (more : json.Parse json.Items) (o : Option (json.Json × List Token)) → converted of_json o ≡ None → converted of_items (option_and_then (λ q. parse_map (json.item q.0) (more q.1)) o) ≡ None
none_next more None e = refl
none_next more (Some q) e = bad_item q.0 (no_pair q.1 (of_json q.0) e) (more q.1)

pub item_missing : (depth n : ℕ) (ts : List Token) → after_end_array ts ≡ None → value_in depth ts ≡ None → items_in depth n ts ≡ None
unfolding items
item_missing depth zero ts going e = refl
item_missing depth (suc n) ts going e =
    ap (λ o. converted of_items (items_step (value depth) (items (value depth) n) ts o)) going ∙ none_next (items (value depth) n) (value depth ts) e

pub list_over : (depth n : ℕ) (ts r : List Token) → length ts ≤ n → after_end_array ts ≡ Some r → items_in depth n ts ≡ Some (no_items, r)
list_over depth n ts r enough e = ap (converted of_items) (items_end (value depth) n ts r enough e)

-- ---- the list that a text is

list_is : (ts : List Token) → value 127 (Token.begin_array ∷ ts) ≡ parse_map json.array (items (value 126) (length ts) ts)
list_is ts = value-begin_array 127 ts (omega arith)

pub list_read : (ts : List Token) (ds : Items) → HasItems 126 ts ds [] → tree_in (value 127 (Token.begin_array ∷ ts)) ≡ Some (array ds)
list_read ts ds h =
    let js = converted_some of_items (items (value 126) (length ts) ts) ds [] (h (length ts) (omega arith)) in
    ap tree_in (list_is ts) ∙ ap (λ o. tree_in (parse_map json.array o)) js.1 ∙ ap (option_map array) js.2

pub list_and_more : (ts : List Token) (ds : Items) (t : Token) (r : List Token) → HasItems 126 ts ds (t ∷ r) → tree_in (value 127 (Token.begin_array ∷ ts)) ≡ None
list_and_more ts ds t r h =
    let js = converted_some of_items (items (value 126) (length ts) ts) ds (t ∷ r) (h (length ts) (omega arith)) in
    ap tree_in (list_is ts) ∙ ap (λ o. tree_in (parse_map json.array o)) js.1

broken : (o : Option (json.Items × List Token)) → converted of_items o ≡ None → tree_in (parse_map json.array o) ≡ None
broken None e = refl
broken (Some (js, [])) e = ap (option_map array) (no_pair [] (of_items js) e)
broken (Some (js, t ∷ r)) e = refl

pub list_broken : (ts : List Token) → HasNoItems 126 ts → tree_in (value 127 (Token.begin_array ∷ ts)) ≡ None
list_broken ts h = ap tree_in (list_is ts) ∙ broken (items (value 126) (length ts) ts) (h (length ts) (omega arith))
