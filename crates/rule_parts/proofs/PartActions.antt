-- An action is the same, where only what has its form was kept.
use Rattle.std.proofs.Common.{◌≡◌, ℕ, zero, suc, List, Option, Some, None, Bool, true, false, ◌&&◌, codes, option_map, refl, ap, ◌∙◌, ◌⊎◌, inl, inr}
use Rattle.std.specs.Prelude.{is_some, is_none, option_and_then}
use Rattle.serde_json.specs.Data.{Data, null, boolean, number, string, array, object, Items, no_items, item, Members}
use Rattle.serde_json.specs.Find.{get, as_str, as_object}
use Rattle.json_spec.specs.Json.{text_at}
use Rattle.json_spec.specs.RuleAction.{tested_text, short_text, as_new_scheme, list_from, flag_from, pair_from, as_pair, as_changes, given_part, part_from, part_in, transform_in, extension_in, url_in, substitution_in, transformed_by, redirect_from, redirect_of, redirect_at, redirect_in, operation_named, value_from, change_from, as_change, changes_at, is_no_item, is_empty_list, modify_in, action_in}
use Rattle.rule_spec.specs.Redirects.{is_new_host, is_new_port, is_new_path, is_new_query, is_new_fragment}
use Rattle.json_fields.specs.Shapes.{Kept, KeptItems, KeptMembers}
use Rattle.rule_parts.specs.declared.part.RulePart.{RulePart}
use Rattle.rule_parts.specs.declared.part.RulePart.TheVariants as part
use Rattle.rule_parts.specs.Parts.{wanted_at, item_of, member_of, has_text, accepts_at, KeptAs}
use Rattle.json_fields.proofs.Forms.{none_if, get_none}
use Rattle.rule_parts.proofs.PartForms.{text_same, truth_same, inner_same, item_same, member_same, object_same, list_same}

-- ---- transforms

tested_same : (test : List ℕ → Bool) (n : ℕ) (d e : Data) → KeptAs n part.Text d e → tested_text test e ≡ tested_text test d
tested_same test n d e h = rw (text_same n d e h)

short_same : (n : ℕ) (d e : Data) → KeptAs n part.Text d e → short_text e ≡ short_text d
short_same n d e h = rw (text_same n d e h)

scheme_same : (n : ℕ) (d e : Data) → KeptAs n part.Text d e → as_new_scheme e ≡ as_new_scheme d
scheme_same n d e h = rw (text_same n d e h)

no_pair : (d : Data) → as_object d ≡ None → as_pair d ≡ None
no_pair d h = rw (get_none (codes "key") d h)

short_none : (o : Option Data) → is_some (option_and_then as_str o) ≡ false → option_and_then short_text o ≡ None
short_none None h = refl
short_none (Some d) h = rw (none_if (as_str d) h)

no_value : (key : Option (List ℕ)) (flag : Option Bool) → pair_from key None flag ≡ None
no_value None flag = refl
no_value (Some x) flag = refl

either_false : (x y : Bool) → (x && y) ≡ false → (x ≡ false) ⊎ (y ≡ false)
either_false false y h = inl refl
either_false true y h = inr h

pair_from_none : (a b : Option Data) (flag : Option Bool) → (is_some (option_and_then as_str a) ≡ false) ⊎ (is_some (option_and_then as_str b) ≡ false)
    → pair_from (option_and_then short_text a) (option_and_then short_text b) flag ≡ None
pair_from_none a b flag (inl e) = rw (short_none a e)
pair_from_none a b flag (inr e) = rw (short_none b e) (no_value (option_and_then short_text a) flag)

pair_refused : (d : Data) → accepts_at part.QueryPair d ≡ false → as_pair d ≡ None
pair_refused d h =
    pair_from_none (get (codes "key") d) (get (codes "value") d) (flag_from (get (codes "replaceOnly") d))
    (either_false (has_text (codes "key") d) (has_text (codes "value") d) h)

pair_inside : (n : ℕ) (ms some : Members) → KeptMembers (Kept wanted_at item_of member_of accepts_at n) (member_of part.QueryPair) ms some → as_pair (object some) ≡ as_pair (object ms)
pair_inside n ms some h =
    let key = inner_same part.QueryPair part.Text (codes "key") (option_and_then short_text) refl short_same n ms some h in
    let new = inner_same part.QueryPair part.Text (codes "value") (option_and_then short_text) refl short_same n ms some h in
    let flag = inner_same part.QueryPair part.Truth (codes "replaceOnly") flag_from refl truth_same n ms some h in
    rw (key, new, flag)

pair_same : (n : ℕ) (d e : Data) → KeptAs n part.QueryPair d e → as_pair e ≡ as_pair d
pair_same n d e h = item_same part.QueryPair as_pair refl no_pair pair_refused pair_inside n d e h

query_same : (n : ℕ) (d e : Data) → KeptAs n part.QueryTransform d e → as_changes e ≡ as_changes d
query_same n d e h =
    let object = object_same part.QueryTransform is_some refl (λ _. refl) (λ a b. refl) n d e h in
    let remove = member_same part.QueryTransform part.Texts (codes "removeParams") (list_from short_text) refl (λ _. refl) refl (λ m x y k. list_same part.Texts part.Text short_text refl refl refl short_same m x y k) n d e h in
    let add = member_same part.QueryTransform part.QueryPairs (codes "addOrReplaceParams") (list_from as_pair) refl (λ _. refl) refl (λ m x y k. list_same part.QueryPairs part.QueryPair as_pair refl refl refl pair_same m x y k) n d e h in
    rw (object, remove, add)

part_same : {X : Type 0} (form : Data → Option X) (t : RulePart) (key : List ℕ) → member_of part.Transform key ≡ Some t
    → ((n : ℕ) (d e : Data) → KeptAs n t d e → form e ≡ form d) → (n : ℕ) (d e : Data) → KeptAs n part.Transform d e → part_in form key e ≡ part_in form key d
unfolding part_in
part_same form t key there law n d e h = member_same part.Transform t key (part_from form) refl (λ _. refl) there (λ m x y k. ap given_part (law m x y k)) n d e h

transform_same : (n : ℕ) (d e : Data) → KeptAs n part.Transform d e → transform_in e ≡ transform_in d
unfolding transform_in
transform_same n d e h =
    let a = object_same part.Transform is_none refl (λ _. refl) (λ x y. refl) n d e h in
    let b = part_same as_new_scheme part.Text (codes "scheme") refl scheme_same n d e h in
    let c = part_same (tested_text is_new_host) part.Text (codes "host") refl (tested_same is_new_host) n d e h in
    let f = part_same (tested_text is_new_port) part.Text (codes "port") refl (tested_same is_new_port) n d e h in
    let g = part_same (tested_text is_new_path) part.Text (codes "path") refl (tested_same is_new_path) n d e h in
    let i = part_same (tested_text is_new_query) part.Text (codes "query") refl (tested_same is_new_query) n d e h in
    let j = part_same as_changes part.QueryTransform (codes "queryTransform") refl query_same n d e h in
    let k = member_same part.Transform part.Text (codes "query") is_some refl (λ _. refl) refl (λ m x y z. refl) n d e h in
    let l = member_same part.Transform part.QueryTransform (codes "queryTransform") is_some refl (λ _. refl) refl (λ m x y z. refl) n d e h in
    let o = part_same (tested_text is_new_fragment) part.Text (codes "fragment") refl (tested_same is_new_fragment) n d e h in
    let p = part_same short_text part.Text (codes "username") refl short_same n d e h in
    let q = part_same short_text part.Text (codes "password") refl short_same n d e h in
    rw (a, b, c, f, g, i, j, k, l, o, p, q)

-- ---- redirects

extension_same : (n : ℕ) (d e : Data) → KeptAs n part.Text d e → extension_in e ≡ extension_in d
unfolding extension_in
extension_same n d e h = rw (text_same n d e h)

url_same : (n : ℕ) (d e : Data) → KeptAs n part.Text d e → url_in e ≡ url_in d
unfolding url_in
url_same n d e h = rw (text_same n d e h)

substitution_same : (groups : Option ℕ) (n : ℕ) (d e : Data) → KeptAs n part.Text d e → substitution_in groups e ≡ substitution_in groups d
unfolding substitution_in
substitution_same groups n d e h = rw (text_same n d e h)

module _ (groups : Option ℕ) where
  by_path : (b c f : Option Data) (d e : Data) → extension_in e ≡ extension_in d → redirect_from groups (Some e) b c f ≡ redirect_from groups (Some d) b c f
  by_path None None None d e h = h
  by_path None None (Some z) d e h = refl
  by_path None (Some y) None d e h = refl
  by_path None (Some y) (Some z) d e h = refl
  by_path (Some x) None None d e h = refl
  by_path (Some x) None (Some z) d e h = refl
  by_path (Some x) (Some y) None d e h = refl
  by_path (Some x) (Some y) (Some z) d e h = refl

  by_transform : (a c f : Option Data) (d e : Data) → transform_in e ≡ transform_in d → redirect_from groups a (Some e) c f ≡ redirect_from groups a (Some d) c f
  by_transform None None None d e h = ap transformed_by h
  by_transform None None (Some z) d e h = refl
  by_transform None (Some y) None d e h = refl
  by_transform None (Some y) (Some z) d e h = refl
  by_transform (Some x) None None d e h = refl
  by_transform (Some x) None (Some z) d e h = refl
  by_transform (Some x) (Some y) None d e h = refl
  by_transform (Some x) (Some y) (Some z) d e h = refl

  by_url : (a b f : Option Data) (d e : Data) → url_in e ≡ url_in d → redirect_from groups a b (Some e) f ≡ redirect_from groups a b (Some d) f
  by_url None None None d e h = h
  by_url None None (Some z) d e h = refl
  by_url None (Some y) None d e h = refl
  by_url None (Some y) (Some z) d e h = refl
  by_url (Some x) None None d e h = refl
  by_url (Some x) None (Some z) d e h = refl
  by_url (Some x) (Some y) None d e h = refl
  by_url (Some x) (Some y) (Some z) d e h = refl

  by_substitution : (a b c : Option Data) (d e : Data) → substitution_in groups e ≡ substitution_in groups d → redirect_from groups a b c (Some e) ≡ redirect_from groups a b c (Some d)
  by_substitution None None None d e h = h
  by_substitution None None (Some z) d e h = refl
  by_substitution None (Some y) None d e h = refl
  by_substitution None (Some y) (Some z) d e h = refl
  by_substitution (Some x) None None d e h = refl
  by_substitution (Some x) None (Some z) d e h = refl
  by_substitution (Some x) (Some y) None d e h = refl
  by_substitution (Some x) (Some y) (Some z) d e h = refl

  target_same : (n : ℕ) (d e : Data) → KeptAs n part.Redirect d e → redirect_of groups e ≡ redirect_of groups d
  target_same n d e h =
      let path = codes "extensionPath" in
      let transform = codes "transform" in
      let url = codes "url" in
      let text = codes "regexSubstitution" in
      member_same part.Redirect part.Text path (λ x. redirect_from groups x (get transform e) (get url e) (get text e)) refl (λ _. refl) refl
      (λ m x y k. by_path (get transform e) (get url e) (get text e) x y (extension_same m x y k)) n d e h
      ∙ member_same part.Redirect part.Transform transform (λ x. redirect_from groups (get path d) x (get url e) (get text e)) refl (λ _. refl) refl
      (λ m x y k. by_transform (get path d) (get url e) (get text e) x y (transform_same m x y k)) n d e h
      ∙ member_same part.Redirect part.Text url (λ x. redirect_from groups (get path d) (get transform d) x (get text e)) refl (λ _. refl) refl
      (λ m x y k. by_url (get path d) (get transform d) (get text e) x y (url_same m x y k)) n d e h
      ∙ member_same part.Redirect part.Text text (λ x. redirect_from groups (get path d) (get transform d) (get url d) x) refl (λ _. refl) refl
      (λ m x y k. by_substitution (get path d) (get transform d) (get url d) x y (substitution_same groups m x y k)) n d e h

  redirect_same : (n : ℕ) (d e : Data) → KeptAs n part.Action d e → redirect_in groups e ≡ redirect_in groups d
  unfolding redirect_in
  redirect_same n d e h = member_same part.Action part.Redirect (codes "redirect") (redirect_at groups) refl (λ _. refl) refl target_same n d e h

-- ---- header changes

no_change : (d : Data) → as_object d ≡ None → as_change d ≡ None
no_change d h = rw (get_none (codes "header") d h)

change_from_none : (header operation : Option (List ℕ)) (value : Option (Option (List ℕ))) → (is_some header && is_some operation) ≡ false
    → change_from header (option_and_then operation_named operation) value ≡ None
change_from_none None operation value h = refl
change_from_none (Some x) None value h = refl
change_from_none (Some x) (Some y) value h = absurd (cc)

change_refused : (d : Data) → accepts_at part.HeaderChange d ≡ false → as_change d ≡ None
change_refused d h = change_from_none (text_at (codes "header") d) (text_at (codes "operation") d) (value_from (get (codes "value") d)) h

change_inside : (n : ℕ) (ms some : Members) → KeptMembers (Kept wanted_at item_of member_of accepts_at n) (member_of part.HeaderChange) ms some → as_change (object some) ≡ as_change (object ms)
change_inside n ms some h =
    let header = inner_same part.HeaderChange part.Text (codes "header") (option_and_then as_str) refl text_same n ms some h in
    let operation = inner_same part.HeaderChange part.Text (codes "operation") (option_and_then as_str) refl text_same n ms some h in
    let new = inner_same part.HeaderChange part.Text (codes "value") value_from refl (λ m x y k. ap (option_map Some) (text_same m x y k)) n ms some h in
    rw (header, operation, new)

change_same : (n : ℕ) (d e : Data) → KeptAs n part.HeaderChange d e → as_change e ≡ as_change d
change_same n d e h = item_same part.HeaderChange as_change refl no_change change_refused change_inside n d e h

changes_same : (key : List ℕ) → member_of part.Action key ≡ Some part.HeaderChanges → (n : ℕ) (d e : Data) → KeptAs n part.Action d e → changes_at (get key e) ≡ changes_at (get key d)
unfolding changes_at
changes_same key there n d e h =
    member_same part.Action part.HeaderChanges key (list_from as_change) refl (λ _. refl) there (λ m x y k. list_same part.HeaderChanges part.HeaderChange as_change refl refl refl change_same m x y k) n d e h

no_item_same : (keeps : Data → Data → Type 0) (ds es : Items) → KeptItems keeps ds es → is_no_item es ≡ is_no_item ds
no_item_same keeps no_items no_items h = refl
no_item_same keeps no_items (item e es) h = absurd h
no_item_same keeps (item d ds) no_items h = absurd h
no_item_same keeps (item d ds) (item e es) h = refl

empty_list_same : (n : ℕ) (d e : Data) → KeptAs n part.HeaderChanges d e → is_empty_list (Some e) ≡ is_empty_list (Some d)
empty_list_same n null e h = ap (λ x. is_empty_list (Some x)) h
empty_list_same n (boolean b) e h = ap (λ x. is_empty_list (Some x)) h
empty_list_same n (number x) e h = ap (λ y. is_empty_list (Some y)) h
empty_list_same n (string s) e h = ap (λ x. is_empty_list (Some x)) h
empty_list_same zero (array ds) e h = absurd h
empty_list_same (suc n) (array ds) e h = ap (λ x. is_empty_list (Some x)) h.1 ∙ no_item_same (Kept wanted_at item_of member_of accepts_at n part.HeaderChange) ds h.0 h.2
empty_list_same zero (object ms) e h = absurd h
empty_list_same (suc n) (object ms) e h = ap (λ x. is_empty_list (Some x)) h

modify_same : (n : ℕ) (d e : Data) → KeptAs n part.Action d e → modify_in e ≡ modify_in d
unfolding modify_in
modify_same n d e h =
    let a = member_same part.Action part.HeaderChanges (codes "requestHeaders") is_empty_list refl (λ _. refl) refl empty_list_same n d e h in
    let b = member_same part.Action part.HeaderChanges (codes "responseHeaders") is_empty_list refl (λ _. refl) refl empty_list_same n d e h in
    let c = changes_same (codes "requestHeaders") refl n d e h in
    let f = changes_same (codes "responseHeaders") refl n d e h in
    rw (a, b, c, f)

-- ---- the action

pub named_same : (n : ℕ) (d e : Data) → KeptAs n part.Action d e → text_at (codes "type") e ≡ text_at (codes "type") d
named_same n d e h = member_same part.Action part.Text (codes "type") (option_and_then as_str) refl (λ _. refl) refl text_same n d e h

pub action_same : (groups : Option ℕ) (n : ℕ) (d e : Data) → KeptAs n part.Action d e → action_in groups (Some e) ≡ action_in groups (Some d)
unfolding action_in
action_same groups n d e h = rw (named_same n d e h, redirect_same groups n d e h, modify_same n d e h)
