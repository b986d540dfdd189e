-- What is written of a rule has no float.
use Rattle.std.proofs.Common.{◌≡◌, ℕ, ℤ, pos, negsuc, List, [], ◌∷◌, map, Bool, true, false, cond, ◌||◌, Option, Some, None, option_map, Ordering, Less, Equal, Greater, refl, nat_cmp}
use Rattle.std.specs.Prelude.{IfSome, codes}
use Rattle.std.specs.Ordering.{match_ordering}
use Rattle.std.specs.Cmp.Lexicographic.{slice_cmp}
use Rattle.serde_json.specs.Data.{Data, number, unsigned, string, Members, no_members, member, put}
use Rattle.serde_json.specs.View.{items_of}
use Rattle.serde_json.specs.Written.{has_float, items_have_float, members_have_float}
use Rattle.dnr_base.specs.Kind.{all_kinds}
use Rattle.dnr_base.specs.declared.kind.Kind.{Kind}
use Rattle.dnr_base.specs.declared.redirect.Redirect.{Redirect}
use Rattle.dnr_base.specs.declared.redirect.Redirect.TheVariants.{ExtensionPath, Transform, Url, RegexSubstitution}
use Rattle.dnr_base.specs.declared.transform.Transform as changed
use Rattle.dnr_base.specs.declared.query_transform.QueryTransform.{QueryTransform}
use Rattle.dnr_base.specs.declared.query_pair.QueryPair.{QueryPair}
use Rattle.dnr_spec.specs.Headers.{HeaderOp}
use Rattle.dnr_spec.specs.HeaderTests.{HeaderTest}
use Rattle.rule_spec.specs.Rule.{Condition, Action, block, redirect, allow, upgrade_scheme, modify_headers, allow_all_requests, Rule}
use Rattle.json_spec.specs.RuleFields.{kind_set, method_set}
use Rattle.json_spec.specs.Written.{Field, with_field, with_fields, unless_empty, if_true, ascending_domains, ascending_tabs, tab_written, domains_written, tabs_written, kind_written, are_default, kinds_written, exclusion_of, exclusion_written, method_written, methods_written, party_written, filter_fields, domain_fields, kind_fields, method_fields, tab_fields, written_list, test_written, test_fields, condition_written, pair_written, changes_written, scheme_written, place_fields, query_fields, end_fields, transform_written, redirect_written, operation_name, op_written, type_name, target_fields, action_written, rule_written}

-- ---- objects and lists

abbrev IsPlain : Data → Type 0
IsPlain d = has_float d ≡ false

neither : (a b : Bool) → a ≡ false → b ≡ false → (a || b) ≡ false
neither false b p q = q
neither true b p q = cc

left : (a b : Bool) → (a || b) ≡ false → a ≡ false
left false b h = refl
left true b h = cc

right : (a b : Bool) → (a || b) ≡ false → b ≡ false
right false b h = h
right true b h = cc

placed : (o : Ordering) (a b c : Members) → members_have_float a ≡ false → members_have_float b ≡ false → members_have_float c ≡ false → members_have_float (match_ordering o a b c) ≡ false
placed Less a b c p q r = p
placed Equal a b c p q r = q
placed Greater a b c p q r = r

put-plain : (key : List ℕ) (d : Data) (members : Members) → IsPlain d → members_have_float members ≡ false → members_have_float (put key d members) ≡ false
put-plain key d no_members p q = neither (has_float d) false p refl
put-plain key d (member other e members) p q =
    let rest = right (has_float e) (members_have_float members) q in
    placed (slice_cmp nat_cmp key other) _ _ _ (neither (has_float d) _ p q) (neither (has_float d) _ p rest)
    (neither (has_float e) _ (left (has_float e) (members_have_float members) q) (put-plain key d members p rest))

field-plain : (members : Members) (key : List ℕ) (o : Option Data) → members_have_float members ≡ false → IfSome o IsPlain → members_have_float (with_field members (key, o)) ≡ false
field-plain members key None p q = p
field-plain members key (Some d) p q = put-plain key d members q p

abbrev ArePlain : List Field → Type 0
ArePlain [] = Unit {0}
ArePlain ((key, o) ∷ fields) = IfSome o IsPlain × ArePlain fields

fields-plain : (fields : List Field) (members : Members) → members_have_float members ≡ false → ArePlain fields → members_have_float (with_fields members fields) ≡ false
fields-plain [] members p q = p
fields-plain ((key, o) ∷ fields) members p q = fields-plain fields (with_field members (key, o)) (field-plain members key o p q.0) q.1

list-plain : {X : Type 0} (form : X → Data) → ((x : X) → IsPlain (form x)) → (list : List X) → items_have_float (items_of (map form list)) ≡ false
list-plain form p [] = refl
list-plain form p (x ∷ xs) = neither (has_float (form x)) (items_have_float (items_of (map form xs))) (p x) (list-plain form p xs)

given-plain : {X : Type 0} (form : X → Data) → ((x : X) → IsPlain (form x)) → (o : Option X) → IfSome (option_map form o) IsPlain
given-plain form p None = tt
given-plain form p (Some x) = p x

some-plain : (list : List Data) → items_have_float (items_of list) ≡ false → IfSome (unless_empty list) IsPlain
some-plain [] p = tt
some-plain (d ∷ ds) p = p

text-plain : (o : Option (List ℕ)) → IfSome (option_map string o) IsPlain
text-plain o = given-plain string (λ text. refl) o

texts-plain : (list : List (List ℕ)) → IfSome (unless_empty (map string list)) IsPlain
texts-plain list = some-plain (map string list) (list-plain string (λ text. refl) list)

flag-plain : (flag : Bool) → IfSome (if_true flag) IsPlain
flag-plain true = refl
flag-plain false = tt

-- ---- the condition

tab-plain : (tab : ℤ) → IsPlain (tab_written tab)
tab-plain (pos n) = refl
tab-plain (negsuc n) = refl

party-plain : (third : Bool) → IsPlain (party_written third)
party-plain true = refl
party-plain false = refl

or_none-plain : (b : Bool) (o : Option Data) → IfSome o IsPlain → IfSome (cond b None o) IsPlain
or_none-plain true o p = tt
or_none-plain false o p = p

exclusion-plain : (kinds : List Kind) → IfSome (exclusion_of kinds) IsPlain
exclusion-plain [] = list-plain kind_written (λ kind. refl) all_kinds
exclusion-plain (kind ∷ kinds) = tt

kinds-plain : (kinds : List Kind) → IfSome (kinds_written kinds) IsPlain
unfolding kinds_written
kinds-plain kinds = or_none-plain (are_default kinds) _ (some-plain (map kind_written (kind_set kinds)) (list-plain kind_written (λ kind. refl) (kind_set kinds)))

excluded-plain : (kinds : List Kind) → IfSome (exclusion_written kinds) IsPlain
unfolding exclusion_written
excluded-plain kinds = exclusion-plain (kind_set kinds)

test-plain : (test : HeaderTest) → IsPlain (test_written test)
test-plain test =
    fields-plain
    ((codes "header", Some (string test.name))
    ∷ (codes "values", option_map (written_list string) test.values)
    ∷ (codes "excludedValues", unless_empty (map string test.excluded))
    ∷ []) no_members refl
    (refl, (given-plain (written_list string) (λ list. list-plain string (λ text. refl) list) test.values, (texts-plain test.excluded, tt)))

condition-plain : (c : Condition) → IsPlain (condition_written c)
unfolding condition_written
condition-plain c =
    let filters = fields-plain (filter_fields c) no_members refl
    (text-plain c.url_filter, (text-plain c.regex_filter, (flag-plain c.case_sensitive, (given-plain party_written party-plain c.third_party, tt)))) in
    let domains_plain = λ (list : List (List ℕ)). list-plain string (λ text. refl) (ascending_domains list) in
    let domains = fields-plain (domain_fields c) _ filters (
      given-plain domains_written domains_plain c.initiators,
      (
        texts-plain (ascending_domains c.not_initiators),
        (given-plain domains_written domains_plain c.hosts, (texts-plain (ascending_domains c.not_hosts), tt)),
      ),
    ) in
    let kinds = fields-plain (kind_fields c) _ domains (kinds-plain c.kinds, (excluded-plain c.kinds, tt)) in
    let methods = fields-plain (method_fields c) _ kinds (
      given-plain methods_written (λ list. list-plain method_written (λ method. refl) (method_set list)) c.methods,
      (some-plain (map method_written (method_set c.not_methods)) (list-plain method_written (λ method. refl) (method_set c.not_methods)), tt),
    ) in
    let tabs = fields-plain (tab_fields c) _ methods (
      given-plain tabs_written (λ list. list-plain tab_written tab-plain (ascending_tabs list)) c.tabs,
      (some-plain (map tab_written (ascending_tabs c.not_tabs)) (list-plain tab_written tab-plain (ascending_tabs c.not_tabs)), tt),
    ) in
    fields-plain (test_fields c) _ tabs (
      given-plain (written_list test_written) (λ list. list-plain test_written test-plain list) c.header_tests,
      (some-plain (map test_written c.not_header_tests) (list-plain test_written test-plain c.not_header_tests), tt),
    )

-- ---- the action

pair-plain : (pair : QueryPair) → IsPlain (pair_written pair)
pair-plain pair =
    fields-plain ((codes "key", Some (string pair.key)) ∷ (codes "value", Some (string pair.value)) ∷ (codes "replaceOnly", if_true pair.replace_only) ∷ []) no_members refl
    (refl, (refl, (flag-plain pair.replace_only, tt)))

changes-plain : (changes : QueryTransform) → IsPlain (changes_written changes)
changes-plain changes =
    fields-plain ((codes "removeParams", unless_empty (map string changes.remove)) ∷ (codes "addOrReplaceParams", unless_empty (map pair_written changes.add)) ∷ []) no_members refl
    (texts-plain changes.remove, (some-plain (map pair_written changes.add) (list-plain pair_written pair-plain changes.add), tt))

transform-plain : (t : changed.Transform) → IsPlain (transform_written t)
unfolding transform_written
transform-plain t =
    let place = fields-plain (place_fields t) no_members refl
    (given-plain scheme_written (λ scheme. refl) t.scheme, (text-plain t.host, (text-plain t.port, (text-plain t.path, tt)))) in
    let query = fields-plain (query_fields t) _ place (text-plain t.query, (given-plain changes_written changes-plain t.query_transform, tt)) in
    fields-plain (end_fields t) _ query (text-plain t.fragment, (text-plain t.username, (text-plain t.password, tt)))

redirect-plain : (target : Redirect) → IsPlain (redirect_written target)
redirect-plain (ExtensionPath path) = refl
redirect-plain (Transform t) = fields-plain ((codes "transform", Some (transform_written t)) ∷ []) no_members refl (transform-plain t, tt)
redirect-plain (Url url) = refl
redirect-plain (RegexSubstitution text) = refl

op-plain : (op : HeaderOp) → IsPlain (op_written op)
op-plain op =
    fields-plain ((codes "header", Some (string op.name)) ∷ (codes "operation", Some (string (operation_name op.operation))) ∷ (codes "value", option_map string op.value) ∷ []) no_members refl
    (refl, (refl, (text-plain op.value, tt)))

ops-plain : (ops : List HeaderOp) → IfSome (unless_empty (map op_written ops)) IsPlain
ops-plain ops = some-plain (map op_written ops) (list-plain op_written op-plain ops)

target-plain : (action : Action) → ArePlain (target_fields action)
target-plain block = tt
target-plain (redirect target) = (redirect-plain target, tt)
target-plain allow = tt
target-plain upgrade_scheme = tt
target-plain (modify_headers request response) = (ops-plain request, (ops-plain response, tt))
target-plain allow_all_requests = tt

action-plain : (action : Action) → IsPlain (action_written action)
unfolding action_written
action-plain action = fields-plain ((codes "type", Some (string (type_name action))) ∷ target_fields action) no_members refl (refl, target-plain action)

-- ---- the rule

pub rule_plain : (rule : Rule) → has_float (rule_written rule) ≡ false
unfolding rule_written
rule_plain rule =
    fields-plain (
    (codes "id", Some (number (unsigned rule.id)))
    ∷ (codes "priority", Some (number (unsigned rule.priority)))
    ∷ (codes "condition", Some (condition_written rule.condition))
    ∷ (codes "action", Some (action_written rule.action))
    ∷ []
    ) no_members refl
    (refl, (refl, (condition-plain rule.condition, (action-plain rule.action, tt))))
