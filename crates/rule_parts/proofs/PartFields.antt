-- The fields of a condition are the same, where only what has their form was kept.
use Rattle.std.proofs.Common.{false, ◌≡◌, ℕ, List, Option, Some, None, Result, Ok, Err, codes, option_map, refl, ap, ◌∙◌}
use Rattle.std.specs.Prelude.{option_and_then}
use Rattle.serde_json.specs.Data.{Data, object, Members}
use Rattle.serde_json.specs.Find.{as_object, get, as_str, as_bool, as_i64}
use Rattle.rule_spec.specs.declared.rule_path.RulePath.{RulePath}
use Rattle.rule_spec.specs.declared.rule_path.RulePath.TheVariants as path
use Rattle.rule_spec.specs.declared.rule_refusal.RuleRefusal.{RuleRefusal}
use Rattle.rule_spec.specs.RulePath.{key_of}
use Rattle.json_spec.specs.RuleFields.{as_texts, as_party, as_kind, as_kinds, kind_set, as_method, as_methods, method_set, as_tab, as_tabs, tab_set, tab_in_range, texts_given, as_header_test, as_header_tests, given_field, field_from, field_in, unless_given, absent_in, unless_beside, old_list_in, fields_in}
use Rattle.rule_parts.specs.declared.part.RulePart.{RulePart}
use Rattle.rule_parts.specs.declared.part.RulePart.TheVariants as part
use Rattle.rule_parts.specs.Parts.{wanted_at, item_of, member_of, accepts_at, KeptAs}
use Rattle.json_fields.specs.Shapes.{Kept, KeptMembers}
use Rattle.json_fields.proofs.Forms.{none_if, get_none}
use Rattle.rule_parts.proofs.PartForms.{inner_same, item_same, text_same, truth_same, number_same, member_same, list_same}

-- ---- forms

pub texts_same : (n : ℕ) (d e : Data) → KeptAs n part.Texts d e → as_texts e ≡ as_texts d
texts_same n d e h = list_same part.Texts part.Text as_str refl refl refl text_same n d e h

party_same : (n : ℕ) (d e : Data) → KeptAs n part.Text d e → as_party e ≡ as_party d
party_same n d e h = rw (text_same n d e h)

kind_same : (n : ℕ) (d e : Data) → KeptAs n part.Text d e → as_kind e ≡ as_kind d
kind_same n d e h = rw (text_same n d e h)

kinds_same : (n : ℕ) (d e : Data) → KeptAs n part.Texts d e → as_kinds e ≡ as_kinds d
kinds_same n d e h = ap (option_map kind_set) (list_same part.Texts part.Text as_kind refl refl refl kind_same n d e h)

method_same : (n : ℕ) (d e : Data) → KeptAs n part.Text d e → as_method e ≡ as_method d
method_same n d e h = rw (text_same n d e h)

methods_same : (n : ℕ) (d e : Data) → KeptAs n part.Texts d e → as_methods e ≡ as_methods d
methods_same n d e h = ap (option_map method_set) (list_same part.Texts part.Text as_method refl refl refl method_same n d e h)

tab_same : (n : ℕ) (d e : Data) → KeptAs n part.Number d e → as_tab e ≡ as_tab d
tab_same n d e h = ap (λ x. option_and_then tab_in_range (option_and_then as_i64 x)) (number_same n d e h)

tabs_same : (n : ℕ) (d e : Data) → KeptAs n part.Numbers d e → as_tabs e ≡ as_tabs d
tabs_same n d e h = ap (option_map tab_set) (list_same part.Numbers part.Number as_tab refl refl refl tab_same n d e h)

no_test : (d : Data) → as_object d ≡ None → as_header_test d ≡ None
no_test d h = rw (get_none (codes "header") d h)

test_refused : (d : Data) → accepts_at part.HeaderTest d ≡ false → as_header_test d ≡ None
test_refused d h = rw (none_if (option_and_then as_str (get (codes "header") d)) h)

test_inside : (n : ℕ) (ms some : Members) → KeptMembers (Kept wanted_at item_of member_of accepts_at n) (member_of part.HeaderTest) ms some → as_header_test (object some) ≡ as_header_test (object ms)
test_inside n ms some h =
    let name = inner_same part.HeaderTest part.Text (codes "header") (option_and_then as_str) refl text_same n ms some h in
    let values = inner_same part.HeaderTest part.Texts (codes "values") texts_given refl (λ m x y k. ap (option_map Some) (texts_same m x y k)) n ms some h in
    let excluded = inner_same part.HeaderTest part.Texts (codes "excludedValues") texts_given refl (λ m x y k. ap (option_map Some) (texts_same m x y k)) n ms some h in
    rw (name, values, excluded)

header_test_same : (n : ℕ) (d e : Data) → KeptAs n part.HeaderTest d e → as_header_test e ≡ as_header_test d
header_test_same n d e h = item_same part.HeaderTest as_header_test refl no_test test_refused test_inside n d e h

header_tests_same : (n : ℕ) (d e : Data) → KeptAs n part.HeaderTests d e → as_header_tests e ≡ as_header_tests d
header_tests_same n d e h = list_same part.HeaderTests part.HeaderTest as_header_test refl refl refl header_test_same n d e h

-- ---- fields

field_same : {X : Type 0} (form : Data → Option X) (t : RulePart) (field : RulePath) → member_of part.Condition (key_of field) ≡ Some t
    → ((n : ℕ) (d e : Data) → KeptAs n t d e → form e ≡ form d) → (n : ℕ) (d e : Data) → KeptAs n part.Condition d e → field_in form field e ≡ field_in form field d
unfolding field_in
field_same form t field there law n d e h =
    member_same part.Condition t (key_of field) (field_from form field) refl (λ _. refl) there (λ m x y k. ap (given_field field) (law m x y k)) n d e h

absent_same : (field : RulePath) → member_of part.Condition (key_of field) ≡ Some part.Presence → (n : ℕ) (d e : Data) → KeptAs n part.Condition d e → absent_in field e ≡ absent_in field d
unfolding absent_in
absent_same field there n d e h = member_same part.Condition part.Presence (key_of field) (unless_given field) refl (λ _. refl) there (λ m x y k. refl) n d e h

beside_same : (field : RulePath) (list : Result (Option (List (List ℕ))) RuleRefusal) (x y : Data) → unless_beside (Some y) field list ≡ unless_beside (Some x) field list
beside_same field (Ok None) x y = refl
beside_same field (Ok (Some texts)) x y = refl
beside_same field (Err refusal) x y = refl

old_list_same : (new old : RulePath) → member_of part.Condition (key_of new) ≡ Some part.Texts → member_of part.Condition (key_of old) ≡ Some part.Texts
    → (n : ℕ) (d e : Data) → KeptAs n part.Condition d e → old_list_in new old e ≡ old_list_in new old d
unfolding old_list_in
old_list_same new old is was n d e h =
    member_same part.Condition part.Texts (key_of new) (λ found. unless_beside found old (field_in as_texts old e)) refl (λ _. refl) is (λ m x y k. beside_same old (field_in as_texts old e) x y) n d e h
    ∙ ap (unless_beside (get (key_of new) d) old) (field_same as_texts part.Texts old was texts_same n d e h)

pub fields_same : (n : ℕ) (d e : Data) → KeptAs n part.Condition d e → fields_in e ≡ fields_in d
unfolding fields_in
fields_same n d e h =
    let a = absent_same path.TopDomains refl n d e h in
    let b = absent_same path.ExcludedTopDomains refl n d e h in
    let c = field_same as_str part.Text path.UrlFilter refl text_same n d e h in
    let f = field_same as_str part.Text path.RegexFilter refl text_same n d e h in
    let g = field_same as_bool part.Truth path.IsUrlFilterCaseSensitive refl truth_same n d e h in
    let i = field_same as_texts part.Texts path.InitiatorDomains refl texts_same n d e h in
    let j = field_same as_texts part.Texts path.ExcludedInitiatorDomains refl texts_same n d e h in
    let k = old_list_same path.InitiatorDomains path.Domains refl refl n d e h in
    let l = old_list_same path.ExcludedInitiatorDomains path.ExcludedDomains refl refl n d e h in
    let o = field_same as_texts part.Texts path.RequestDomains refl texts_same n d e h in
    let p = field_same as_texts part.Texts path.ExcludedRequestDomains refl texts_same n d e h in
    let q = field_same as_party part.Text path.DomainType refl party_same n d e h in
    let r = field_same as_kinds part.Texts path.ResourceTypes refl kinds_same n d e h in
    let s = field_same as_kinds part.Texts path.ExcludedResourceTypes refl kinds_same n d e h in
    let t = field_same as_methods part.Texts path.RequestMethods refl methods_same n d e h in
    let u = field_same as_methods part.Texts path.ExcludedRequestMethods refl methods_same n d e h in
    let v = field_same as_tabs part.Numbers path.TabIds refl tabs_same n d e h in
    let w = field_same as_tabs part.Numbers path.ExcludedTabIds refl tabs_same n d e h in
    let x = field_same as_header_tests part.HeaderTests path.ResponseHeaders refl header_tests_same n d e h in
    let y = field_same as_header_tests part.HeaderTests path.ExcludedResponseHeaders refl header_tests_same n d e h in
    rw (a, b, c, f, g, i, j, k, l, o, p, q, r, s, t, u, v, w, x, y)
