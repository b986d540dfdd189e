-- What is written of a rule is read back from its text.
use Rattle.std.proofs.Common.{◌≡◌, ℕ, ℤ, pos, negsuc, suc, ◌^◌, ◌<◌, ◌≤◌, List, [], ◌∷◌, ◌++◌, map, Bool, true, false, cond, Option, Some, None, option_map, refl, ap, arith}
use Rattle.std.specs.Prelude.{IfSome, codes, nat_le}
use Rattle.std.specs.List.{AllByRecursion, list_all}
use Rattle.std.proofs.lemmas.Bool.Decides.{nat_tests}
use Rattle.json.proofs.Printed.Decimals.{IsNumber-decimal, IsNumber-signed_decimal}
use Rattle.serde_json.specs.Data.{Data, number, unsigned, string}
use Rattle.serde_json.proofs.Numbers.{number_of-decimal, number_of-negative}
use Rattle.dnr_base.specs.Kind.{all_kinds}
use Rattle.dnr_base.specs.declared.kind.Kind.{Kind}
use Rattle.dnr_base.specs.declared.method.Method.{Method}
use Rattle.dnr_base.specs.declared.redirect.Redirect.{Redirect}
use Rattle.dnr_base.specs.declared.redirect.Redirect.TheVariants.{ExtensionPath, Transform, Url, RegexSubstitution}
use Rattle.dnr_base.specs.declared.transform.Transform as changed
use Rattle.dnr_base.specs.declared.query_transform.QueryTransform.{QueryTransform}
use Rattle.dnr_base.specs.declared.query_pair.QueryPair.{QueryPair}
use Rattle.dnr_spec.specs.Headers.{HeaderOp}
use Rattle.dnr_spec.specs.HeaderTests.{HeaderTest}
use Rattle.rule_spec.specs.Rule.{Condition, Action, block, redirect, allow, upgrade_scheme, modify_headers, allow_all_requests, Rule}
use Rattle.rule_spec.specs.IsRule.{is_number, is_tab, AreTabs, IsCondition, IsRule}
use Rattle.json_spec.specs.RuleFields.{kind_set, method_set}
use Rattle.json_spec.specs.Written.{Field, written_list, unless_empty, if_true, ascending_domains, ascending_tabs, domains_written, tab_written, tabs_written, kind_written, are_default, kinds_written, exclusion_of, exclusion_written, method_written, methods_written, party_written, filter_fields, domain_fields, kind_fields, method_fields, tab_fields, test_written, test_fields, condition_written, pair_written, changes_written, scheme_written, place_fields, query_fields, end_fields, transform_written, redirect_written, operation_name, op_written, type_name, target_fields, action_written, rule_written, rules_written}
use Rattle.written_laws.proofs.Objects.{IsBack, FieldsBack, object_back, list_back}
use Rattle.written_laws.proofs.Sets.{both, tabs_all}

-- ---- the fields of objects

abbrev pub condition_fields : Condition → List Field
condition_fields c =
    filter_fields c ++ (domain_fields c ++ (kind_fields c ++ (method_fields c ++ (tab_fields c ++ test_fields c))))

abbrev pub header_test_fields : HeaderTest → List Field
header_test_fields test =
    (codes "header", Some (string test.name))
    ∷ (codes "values", option_map (written_list string) test.values)
    ∷ (codes "excludedValues", unless_empty (map string test.excluded))
    ∷ []

abbrev pub transform_fields : changed.Transform → List Field
transform_fields t = place_fields t ++ (query_fields t ++ end_fields t)

abbrev pub pair_fields : QueryPair → List Field
pair_fields pair = (codes "key", Some (string pair.key)) ∷ (codes "value", Some (string pair.value)) ∷ (codes "replaceOnly", if_true pair.replace_only) ∷ []

abbrev pub changes_fields : QueryTransform → List Field
changes_fields changes = (codes "removeParams", unless_empty (map string changes.remove)) ∷ (codes "addOrReplaceParams", unless_empty (map pair_written changes.add)) ∷ []

abbrev pub op_fields : HeaderOp → List Field
op_fields op = (codes "header", Some (string op.name)) ∷ (codes "operation", Some (string (operation_name op.operation))) ∷ (codes "value", option_map string op.value) ∷ []

abbrev pub action_fields : Action → List Field
action_fields action = (codes "type", Some (string (type_name action))) ∷ target_fields action

abbrev pub rule_fields : Rule → List Field
rule_fields rule =
    (codes "id", Some (number (unsigned rule.id)))
    ∷ (codes "priority", Some (number (unsigned rule.priority)))
    ∷ (codes "condition", Some (condition_written rule.condition))
    ∷ (codes "action", Some (action_written rule.action))
    ∷ []

-- ---- texts, numbers and lists

pub text_back : (n : ℕ) (text : List ℕ) → IsBack n (string text)
text_back n text = record { value = refl; numbers = tt; shallow = omega arith }

flag_back : (n : ℕ) (flag : Bool) → IfSome (if_true flag) (IsBack n)
flag_back n true = record { value = refl; numbers = tt; shallow = omega arith }
flag_back n false = tt

pub number_back : (n m : ℕ) → m < 2 ^ 64 → IsBack n (number (unsigned m))
number_back n m small = record { value = ap (option_map number) (number_of-decimal m small); numbers = IsNumber-decimal m small; shallow = omega arith }

tab_back : (n : ℕ) (tab : ℤ) → is_tab tab ≡ true → IsBack n (tab_written tab)
tab_back n (pos m) is = number_back n m (grind (arith, nat_tests))
tab_back n (negsuc m) is =
    let small : m < 2 ^ 63 = grind (arith, nat_tests) in
    record { value = ap (option_map number) (number_of-negative m small); numbers = IsNumber-signed_decimal (negsuc m) small; shallow = omega arith }

pub deeper : (m n : ℕ) (d : Data) → m ≤ n → IsBack m d → IsBack n d
deeper m n d near b = record { value = b.value; numbers = b.numbers; shallow = omega (arith, b.shallow) }

everywhere : {X : Type 0} (P : X → Type 0) → ((x : X) → P x) → (list : List X) → AllByRecursion P list
everywhere P p [] = tt
everywhere P p (x ∷ xs) = (p x, everywhere P p xs)

each_back : {X : Type 0} (n : ℕ) (form : X → Data) → ((x : X) → IsBack n (form x)) → (list : List X) → IsBack (suc n) (written_list form list)
each_back n form p list = list_back n form list (everywhere (λ x. IsBack n (form x)) p list)

given_back : {X : Type 0} (n : ℕ) (form : X → Data) → ((x : X) → IsBack n (form x)) → (o : Option X) → IfSome (option_map form o) (IsBack n)
given_back n form p None = tt
given_back n form p (Some x) = p x

some_back : {X : Type 0} (n : ℕ) (form : X → Data) (list : List X) → IsBack (suc n) (written_list form list) → IfSome (unless_empty (map form list)) (IsBack (suc n))
some_back n form [] p = tt
some_back n form (x ∷ xs) p = p

given_text_back : (n : ℕ) (o : Option (List ℕ)) → IfSome (option_map string o) (IsBack n)
given_text_back n o = given_back n string (text_back n) o

texts_back : (n : ℕ) (list : List (List ℕ)) → IfSome (unless_empty (map string list)) (IsBack (suc n))
texts_back n list = some_back n string list (each_back n string (text_back n) list)

-- ---- the condition

domains_back : (n : ℕ) (o : Option (List (List ℕ))) → IfSome (option_map domains_written o) (IsBack (suc n))
domains_back n o = given_back (suc n) domains_written (λ list. each_back n string (text_back n) (ascending_domains list)) o

party_back : (n : ℕ) (third : Bool) → IsBack n (party_written third)
party_back n true = text_back n (codes "thirdParty")
party_back n false = text_back n (codes "firstParty")

or_none_back : (n : ℕ) (b : Bool) (o : Option Data) → IfSome o (IsBack n) → IfSome (cond b None o) (IsBack n)
or_none_back n true o p = tt
or_none_back n false o p = p

kind_list_back : (n : ℕ) (list : List Kind) → IsBack (suc n) (written_list kind_written list)
kind_list_back n list = each_back n kind_written (λ kind. text_back n _) list

kinds_back : (n : ℕ) (kinds : List Kind) → IfSome (kinds_written kinds) (IsBack (suc n))
unfolding kinds_written
kinds_back n kinds = or_none_back (suc n) (are_default kinds) _ (some_back n kind_written (kind_set kinds) (kind_list_back n (kind_set kinds)))

exclusion_back : (n : ℕ) (kinds : List Kind) → IfSome (exclusion_of kinds) (IsBack (suc n))
exclusion_back n [] = kind_list_back n all_kinds
exclusion_back n (kind ∷ kinds) = tt

excluded_back : (n : ℕ) (kinds : List Kind) → IfSome (exclusion_written kinds) (IsBack (suc n))
unfolding exclusion_written
excluded_back n kinds = exclusion_back n (kind_set kinds)

tabs-each : (n : ℕ) (tabs : List ℤ) → list_all is_tab tabs ≡ true → AllByRecursion (λ tab. IsBack n (tab_written tab)) tabs
tabs-each n [] h = tt
tabs-each n (tab ∷ tabs) h = let p = both (is_tab tab) (list_all is_tab tabs) h in (tab_back n tab p.0, tabs-each n tabs p.1)

tab_list_back : (n : ℕ) (tabs : List ℤ) → AreTabs tabs → IsBack (suc n) (tabs_written tabs)
tab_list_back n tabs h = list_back n tab_written (ascending_tabs tabs) (tabs-each n (ascending_tabs tabs) (tabs_all is_tab tabs h))

tabs_back : (n : ℕ) (o : Option (List ℤ)) → IfSome o AreTabs → IfSome (option_map tabs_written o) (IsBack (suc n))
tabs_back n None h = tt
tabs_back n (Some tabs) h = tab_list_back n tabs h

test_back : (test : HeaderTest) → IsBack 2 (test_written test)
test_back test =
    object_back 1 (header_test_fields test) (
      text_back 1 test.name,
      (given_back 1 (written_list string) (λ list. each_back 0 string (text_back 0) list) test.values, (texts_back 0 test.excluded, tt)),
    )

condition_back : (c : Condition) → IsCondition c → IsBack 4 (condition_written c)
unfolding condition_written
condition_back c is =
    let method_list_back = λ (list : List Method). each_back 2 method_written (λ method. text_back 2 _) list in
    let test_list_back = λ (list : List HeaderTest). each_back 2 test_written test_back list in
    object_back 3 (condition_fields c) (
      given_text_back 3 c.url_filter,
      (
        given_text_back 3 c.regex_filter,
        (
          flag_back 3 c.case_sensitive,
          (
            given_back 3 party_written (party_back 3) c.third_party,
            (
              domains_back 2 c.initiators,
              (
                texts_back 2 (ascending_domains c.not_initiators),
                (
                  domains_back 2 c.hosts,
                  (
                    texts_back 2 (ascending_domains c.not_hosts),
                    (
                      kinds_back 2 c.kinds,
                      (
                        excluded_back 2 c.kinds,
                        (
                          given_back 3 methods_written (λ list. method_list_back (method_set list)) c.methods,
                          (
                            some_back 2 method_written (method_set c.not_methods) (method_list_back (method_set c.not_methods)),
                            (
                              tabs_back 2 c.tabs is.tabs.1,
                              (
                                some_back 2 tab_written (ascending_tabs c.not_tabs) (tab_list_back 2 c.not_tabs is.not_tabs),
                                (
                                  given_back 3 (written_list test_written) test_list_back c.header_tests,
                                  (some_back 2 test_written c.not_header_tests (test_list_back c.not_header_tests), tt),
                                ),
                              ),
                            ),
                          ),
                        ),
                      ),
                    ),
                  ),
                ),
              ),
            ),
          ),
        ),
      ),
    )

-- ---- the action

pair_back : (pair : QueryPair) → IsBack 1 (pair_written pair)
pair_back pair = object_back 0 (pair_fields pair) (text_back 0 pair.key, (text_back 0 pair.value, (flag_back 0 pair.replace_only, tt)))

changes_back : (changes : QueryTransform) → IsBack 3 (changes_written changes)
changes_back changes =
    object_back 2 (changes_fields changes)
    (texts_back 1 changes.remove, (some_back 1 pair_written changes.add (each_back 1 pair_written pair_back changes.add), tt))

transform_back : (t : changed.Transform) → IsBack 4 (transform_written t)
unfolding transform_written
transform_back t =
    object_back 3 (transform_fields t) (
      given_back 3 scheme_written (λ scheme. text_back 3 _) t.scheme,
      (
        given_text_back 3 t.host,
        (
          given_text_back 3 t.port,
          (
            given_text_back 3 t.path,
            (
              given_text_back 3 t.query,
              (
                given_back 3 changes_written changes_back t.query_transform,
                (
                  given_text_back 3 t.fragment,
                  (
                    given_text_back 3 t.username,
                    (given_text_back 3 t.password, tt),
                  ),
                ),
              ),
            ),
          ),
        ),
      ),
    )

redirect_back : (target : Redirect) → IsBack 5 (redirect_written target)
redirect_back (ExtensionPath path) = object_back 4 ((codes "extensionPath", Some (string path)) ∷ []) (text_back 4 path, tt)
redirect_back (Transform t) = object_back 4 ((codes "transform", Some (transform_written t)) ∷ []) (transform_back t, tt)
redirect_back (Url url) = object_back 4 ((codes "url", Some (string url)) ∷ []) (text_back 4 url, tt)
redirect_back (RegexSubstitution text) = object_back 4 ((codes "regexSubstitution", Some (string text)) ∷ []) (text_back 4 text, tt)

op_back : (n : ℕ) (op : HeaderOp) → IsBack (suc n) (op_written op)
op_back n op =
    object_back n (op_fields op)
    (text_back n op.name, (text_back n _, (given_text_back n op.value, tt)))

ops_back : (ops : List HeaderOp) → IfSome (unless_empty (map op_written ops)) (IsBack 5)
ops_back ops = some_back 4 op_written ops (each_back 4 op_written (op_back 3) ops)

target_back : (action : Action) → FieldsBack 5 (target_fields action)
target_back block = tt
target_back (redirect target) = (redirect_back target, tt)
target_back allow = tt
target_back upgrade_scheme = tt
target_back (modify_headers request response) = (ops_back request, (ops_back response, tt))
target_back allow_all_requests = tt

action_back : (action : Action) → IsBack 6 (action_written action)
unfolding action_written
action_back action = object_back 5 (action_fields action) (text_back 5 _, target_back action)

-- ---- rules

pub rule_back : (rule : Rule) → IsRule rule → IsBack 7 (rule_written rule)
unfolding rule_written
rule_back rule is =
    object_back 6 (rule_fields rule) (
      number_back 6 rule.id (small rule.id is.id),
      (
        number_back 6 rule.priority (small rule.priority is.priority),
        (
          deeper 4 6 (condition_written rule.condition) (omega arith) (condition_back rule.condition is.condition),
          (action_back rule.action, tt),
        ),
      ),
    )
  where
    small : (m : ℕ) → is_number m ≡ true → m < 2 ^ 64
    small m h = let p = both (nat_le 1 m) _ h in let q : nat_le m 2147483647 ≡ true = p.1 in grind (arith, nat_tests)

pub rules_back : (rules : List Rule) → AllByRecursion IsRule rules → IsBack 127 (rules_written rules)
rules_back rules are = deeper 8 127 (rules_written rules) (omega arith) (list_back 7 rule_written rules (each rules are))
  where
    each : (rules : List Rule) → AllByRecursion IsRule rules → AllByRecursion (λ rule. IsBack 7 (rule_written rule)) rules
    each [] are = tt
    each (rule ∷ rules) are = (rule_back rule are.0, each rules are.1)
