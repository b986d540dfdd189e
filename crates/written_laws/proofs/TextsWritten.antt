-- What is written of a rule is UTF-8 where the rule's texts are.
use Rattle.std.proofs.Common.{◌≡◌, ℕ, ℤ, pos, negsuc, ◌^◌, ◌<◌, List, [], ◌∷◌, ◌++◌, map, flat_map, Bool, true, false, cond, ◌&&◌, Option, Some, None, nat_cmp, IsUtf8, refl, sym, ◌∙◌, arith}
use Rattle.std.specs.Prelude.{IfSome, All, codes, nat_le, unwrap_or, option_map, option_to_list}
use Rattle.std.specs.List.{AllByRecursion, list_all}
use Rattle.std.specs.Str.{is_utf8}
use Rattle.std.specs.Cmp.Lexicographic.{slice_cmp}
use Rattle.std.proofs.lemmas.Bool.Decides.{nat_tests}
use Rattle.std.proofs.lemmas.List.Elements.{All-head, All-tail}
use Rattle.std.proofs.lemmas.List.Folds.{list_all-append}
use Rattle.std.proofs.lemmas.Str.{IsUtf8-from_is_utf8, is_utf8-from_IsUtf8}
use Rattle.json.proofs.Printed.Utf8.{are_ascii, IsUtf8-are_ascii}
use Rattle.serde_json.specs.Data.{Data, string}
use Rattle.dnr_base.specs.declared.kind.Kind.{Kind}
use Rattle.dnr_base.specs.declared.kind.Kind.TheVariants as kind
use Rattle.dnr_base.specs.Kind.{all_kinds}
use Rattle.dnr_base.specs.Kind as kinds
use Rattle.dnr_base.specs.declared.method.Method.{Method}
use Rattle.dnr_base.specs.declared.method.Method.TheVariants as method
use Rattle.dnr_base.specs.Method as methods
use Rattle.dnr_base.specs.declared.operation.Operation.{Operation}
use Rattle.dnr_base.specs.declared.operation.Operation.TheVariants.{Append, Set, Remove}
use Rattle.dnr_base.specs.declared.scheme.Scheme.{Scheme}
use Rattle.dnr_base.specs.declared.scheme.Scheme.TheVariants as scheme
use Rattle.dnr_base.specs.Scheme.{scheme_text}
use Rattle.dnr_base.specs.declared.redirect.Redirect.{Redirect}
use Rattle.dnr_base.specs.declared.redirect.Redirect.TheVariants.{ExtensionPath, Transform, Url, RegexSubstitution}
use Rattle.dnr_base.specs.declared.transform.Transform as changed
use Rattle.dnr_base.specs.declared.query_transform.QueryTransform.{QueryTransform}
use Rattle.dnr_base.specs.declared.query_pair.QueryPair.{QueryPair}
use Rattle.dnr_spec.specs.Headers.{HeaderOp}
use Rattle.dnr_spec.specs.HeaderTests.{HeaderTest}
use Rattle.rule_spec.specs.Rule.{Condition, Action, block, redirect, allow, upgrade_scheme, modify_headers, allow_all_requests, Rule}
use Rattle.rule_spec.specs.IsRule.{is_number, is_tab, AreTabs, IsCondition, IsRule}
use Rattle.json_spec.specs.RuleFields.{kind_set, method_set}
use Rattle.json_spec.specs.Written.{written_list, unless_empty, ascending_domains, ascending_tabs, domains_written, tab_written, tabs_written, kind_written, are_default, kinds_written, exclusion_of, exclusion_written, method_written, methods_written, party_written, condition_written, pair_written, changes_written, scheme_written, transform_written, redirect_written, operation_name, op_written, type_name, target_fields, action_written, rule_written, test_written}
use Rattle.written_laws.specs.Texts.{condition_texts, pair_texts, changes_texts, transform_texts, redirect_texts, op_texts, action_texts, texts_of, test_texts}
use Rattle.written_laws.specs.Read.{WrittenTextsAreUtf8}
use Rattle.written_laws.proofs.Sets.{both, set_all, tabs_all}
use Rattle.written_laws.proofs.Values.{condition_fields, transform_fields, pair_fields, changes_fields, op_fields, action_fields, rule_fields, header_test_fields}
use Rattle.written_laws.proofs.Utf8.{IsText, AreFields, object_text, list_text, string_text, flag_text, number_text, negative_text}

-- ---- texts

abbrev Are : List (List ℕ) → Type 0
Are texts = list_all is_utf8 texts ≡ true

two : (one other : List (List ℕ)) → Are (one ++ other) → Are one × Are other
two one other h = both (list_all is_utf8 one) (list_all is_utf8 other) (sym (list_all-append is_utf8 one other) ∙ h)

all-tested : (texts : List (List ℕ)) → All IsUtf8 texts → Are texts
all-tested [] h = refl
all-tested (text ∷ texts) h =
    (λ i. is_utf8-from_IsUtf8 text (All-head IsUtf8 text texts h) i && list_all is_utf8 texts) ∙ all-tested texts (All-tail IsUtf8 text texts h)

text-is : (text : List ℕ) → is_utf8 text ≡ true → IsText (string text)
text-is text h = string_text text (IsUtf8-from_is_utf8 text h)

word-is : (text : List ℕ) → are_ascii text ≡ true → IsText (string text)
word-is text h = string_text text (IsUtf8-are_ascii text h)

option-is : (o : Option (List ℕ)) → Are (option_to_list o) → IfSome (option_map string o) IsText
option-is None h = tt
option-is (Some text) h = text-is text (both (is_utf8 text) true h).0

each-is : (texts : List (List ℕ)) → Are texts → AllByRecursion (λ text. IsText (string text)) texts
each-is [] h = tt
each-is (text ∷ texts) h = let p = both (is_utf8 text) (list_all is_utf8 texts) h in (text-is text p.0, each-is texts p.1)

some-is : {X : Type 0} (form : X → Data) (list : List X) → IsText (written_list form list) → IfSome (unless_empty (map form list)) IsText
some-is form [] h = tt
some-is form (x ∷ xs) h = h

texts-is : (texts : List (List ℕ)) → Are texts → IfSome (unless_empty (map string texts)) IsText
texts-is texts h = some-is string texts (list_text string texts (each-is texts h))

everywhere : {X : Type 0} (P : X → Type 0) → ((x : X) → P x) → (list : List X) → AllByRecursion P list
everywhere P p [] = tt
everywhere P p (x ∷ xs) = (p x, everywhere P p xs)

words-is : {X : Type 0} (form : X → Data) → ((x : X) → IsText (form x)) → (list : List X) → IsText (written_list form list)
words-is form p list = list_text form list (everywhere (λ x. IsText (form x)) p list)

given-is : {X : Type 0} (form : X → Data) → ((x : X) → IsText (form x)) → (o : Option X) → IfSome (option_map form o) IsText
given-is form p None = tt
given-is form p (Some x) = p x

-- the texts of a list are those of its items
each-part : {X : Type 0} (form : X → Data) (texts : X → List (List ℕ)) → ((x : X) → Are (texts x) → IsText (form x)) → (list : List X) → Are (flat_map texts list)
    → AllByRecursion (λ x. IsText (form x)) list
each-part form texts p [] h = tt
each-part form texts p (x ∷ xs) h = let q = two (texts x) (flat_map texts xs) h in (p x q.0, each-part form texts p xs q.1)

parts-is : {X : Type 0} (form : X → Data) (texts : X → List (List ℕ)) → ((x : X) → Are (texts x) → IsText (form x)) → (list : List X) → Are (flat_map texts list)
    → IfSome (unless_empty (map form list)) IsText
parts-is form texts p list h = some-is form list (list_text form list (each-part form texts p list h))

-- ---- the condition

ordered : (domains : List (List ℕ)) → Are domains → Are (ascending_domains domains)
ordered domains h = set_all (slice_cmp nat_cmp) is_utf8 domains [] refl h

domains-is : (o : Option (List (List ℕ))) → Are (unwrap_or o []) → IfSome (option_map domains_written o) IsText
domains-is None h = tt
domains-is (Some domains) h = list_text string (ascending_domains domains) (each-is (ascending_domains domains) (ordered domains h))

party-is : (third : Bool) → IsText (party_written third)
party-is true = word-is (codes "thirdParty") refl
party-is false = word-is (codes "firstParty") refl

kind-word : (k : Kind) → are_ascii (kinds.name_of k) ≡ true
kind-word kind.MainFrame = refl
kind-word kind.SubFrame = refl
kind-word kind.Stylesheet = refl
kind-word kind.Script = refl
kind-word kind.Image = refl
kind-word kind.Font = refl
kind-word kind.Object = refl
kind-word kind.XmlHttpRequest = refl
kind-word kind.Ping = refl
kind-word kind.CspReport = refl
kind-word kind.Media = refl
kind-word kind.WebSocket = refl
kind-word kind.WebTransport = refl
kind-word kind.WebBundle = refl
kind-word kind.Other = refl

kind_list-is : (list : List Kind) → IsText (written_list kind_written list)
kind_list-is list = words-is kind_written (λ k. word-is (kinds.name_of k) (kind-word k)) list

or_none-is : (b : Bool) (o : Option Data) → IfSome o IsText → IfSome (cond b None o) IsText
or_none-is true o h = tt
or_none-is false o h = h

kinds-is : (list : List Kind) → IfSome (kinds_written list) IsText
unfolding kinds_written
kinds-is list = or_none-is (are_default list) (unless_empty (map kind_written (kind_set list))) (some-is kind_written (kind_set list) (kind_list-is (kind_set list)))

exclusion-is : (list : List Kind) → IfSome (exclusion_of list) IsText
exclusion-is [] = kind_list-is all_kinds
exclusion-is (k ∷ list) = tt

excluded-is : (list : List Kind) → IfSome (exclusion_written list) IsText
unfolding exclusion_written
excluded-is list = exclusion-is (kind_set list)

method-word : (m : Method) → are_ascii (methods.name_of m) ≡ true
method-word method.Connect = refl
method-word method.Delete = refl
method-word method.Get = refl
method-word method.Head = refl
method-word method.Options = refl
method-word method.Patch = refl
method-word method.Post = refl
method-word method.Put = refl
method-word method.Other = refl

method_list-is : (list : List Method) → IsText (written_list method_written list)
method_list-is list = words-is method_written (λ m. word-is (methods.name_of m) (method-word m)) list

tab-is : (tab : ℤ) → is_tab tab ≡ true → IsText (tab_written tab)
tab-is (pos n) h = number_text n (grind (arith, nat_tests))
tab-is (negsuc n) h = negative_text n (grind (arith, nat_tests))

each-tab : (tabs : List ℤ) → list_all is_tab tabs ≡ true → AllByRecursion (λ tab. IsText (tab_written tab)) tabs
each-tab [] h = tt
each-tab (tab ∷ tabs) h = let p = both (is_tab tab) (list_all is_tab tabs) h in (tab-is tab p.0, each-tab tabs p.1)

tab_list-is : (tabs : List ℤ) → AreTabs tabs → IsText (tabs_written tabs)
tab_list-is tabs h = list_text tab_written (ascending_tabs tabs) (each-tab (ascending_tabs tabs) (tabs_all is_tab tabs h))

tabs-is : (o : Option (List ℤ)) → IfSome o AreTabs → IfSome (option_map tabs_written o) IsText
tabs-is None h = tt
tabs-is (Some tabs) h = tab_list-is tabs h

values-is : (o : Option (List (List ℕ))) → Are (unwrap_or o []) → IfSome (option_map (written_list string) o) IsText
values-is None h = tt
values-is (Some list) h = list_text string list (each-is list h)

test-is : (test : HeaderTest) → Are (test_texts test) → IsText (test_written test)
test-is test h =
    let name = both (is_utf8 test.name) (list_all is_utf8 (unwrap_or test.values [] ++ test.excluded)) h in
    let values = two (unwrap_or test.values []) test.excluded name.1 in
    object_text (header_test_fields test)
    (refl, text-is test.name name.0, (refl, values-is test.values values.0, (refl, texts-is test.excluded values.1, tt)))

tests-is : (o : Option (List HeaderTest)) → Are (flat_map test_texts (unwrap_or o [])) → IfSome (option_map (written_list test_written) o) IsText
tests-is None h = tt
tests-is (Some list) h = list_text test_written list (each-part test_written test_texts test-is list h)

condition-is : (c : Condition) → IsCondition c → Are (condition_texts c) → IsText (condition_written c)
unfolding condition_written
condition-is c is h =
    let url = two (option_to_list c.url_filter) _ h in
    let regex = two (option_to_list c.regex_filter) _ url.1 in
    let initiators = two (unwrap_or c.initiators []) _ regex.1 in
    let not_initiators = two c.not_initiators _ initiators.1 in
    let hosts = two (unwrap_or c.hosts []) _ not_initiators.1 in
    let not_hosts = two c.not_hosts _ hosts.1 in
    let tests = two (flat_map test_texts (unwrap_or c.header_tests [])) _ not_hosts.1 in
    object_text (condition_fields c) (
      refl,
      option-is c.url_filter url.0,
      (
        refl,
        option-is c.regex_filter regex.0,
        (
          refl,
          flag_text c.case_sensitive,
          (
            refl,
            given-is party_written party-is c.third_party,
            (
              refl,
              domains-is c.initiators initiators.0,
              (
                refl,
                texts-is (ascending_domains c.not_initiators) (ordered c.not_initiators not_initiators.0),
                (
                  refl,
                  domains-is c.hosts hosts.0,
                  (
                    refl,
                    texts-is (ascending_domains c.not_hosts) (ordered c.not_hosts not_hosts.0),
                    (
                      refl,
                      kinds-is c.kinds,
                      (
                        refl,
                        excluded-is c.kinds,
                        (
                          refl,
                          given-is methods_written (λ list. method_list-is (method_set list)) c.methods,
                          (
                            refl,
                            some-is method_written (method_set c.not_methods) (method_list-is (method_set c.not_methods)),
                            (
                              refl,
                              tabs-is c.tabs is.tabs.1,
                              (
                                refl,
                                some-is tab_written (ascending_tabs c.not_tabs) (tab_list-is c.not_tabs is.not_tabs),
                                (
                                  refl,
                                  tests-is c.header_tests tests.0,
                                  (refl, parts-is test_written test_texts test-is c.not_header_tests tests.1, tt),
                                ),
                              ),
                            ),
                          ),
                        ),
                      ),
                    ),
                  ),
                ),
              ),
            ),
          ),
        ),
      ),
    )

-- ---- the action

pair-is : (pair : QueryPair) → Are (pair_texts pair) → IsText (pair_written pair)
pair-is pair h =
    let key = both (is_utf8 pair.key) (list_all is_utf8 (pair.value ∷ [])) h in
    let value = both (is_utf8 pair.value) true key.1 in
    object_text (pair_fields pair) (refl, text-is pair.key key.0, (refl, text-is pair.value value.0, (refl, flag_text pair.replace_only, tt)))

changes-is : (o : Option QueryTransform) → Are (changes_texts o) → IfSome (option_map changes_written o) IsText
changes-is None h = tt
changes-is (Some changes) h =
    let p = two changes.remove (flat_map pair_texts changes.add) h in
    object_text (changes_fields changes) (refl, texts-is changes.remove p.0, (refl, parts-is pair_written pair_texts pair-is changes.add p.1, tt))

scheme-word : (s : Scheme) → are_ascii (scheme_text s) ≡ true
scheme-word scheme.Http = refl
scheme-word scheme.Https = refl
scheme-word scheme.Ws = refl
scheme-word scheme.Wss = refl
scheme-word scheme.Ftp = refl
scheme-word scheme.ChromeExtension = refl

transform-is : (t : changed.Transform) → Are (transform_texts t) → IsText (transform_written t)
unfolding transform_written
transform-is t h =
    let host = two (option_to_list t.host) _ h in
    let port = two (option_to_list t.port) _ host.1 in
    let path = two (option_to_list t.path) _ port.1 in
    let query = two (option_to_list t.query) _ path.1 in
    let changes = two (changes_texts t.query_transform) _ query.1 in
    let fragment = two (option_to_list t.fragment) _ changes.1 in
    let username = two (option_to_list t.username) _ fragment.1 in
    object_text (transform_fields t) (
      refl,
      given-is scheme_written (λ s. word-is (scheme_text s) (scheme-word s)) t.scheme,
      (
        refl,
        option-is t.host host.0,
        (
          refl,
          option-is t.port port.0,
          (
            refl,
            option-is t.path path.0,
            (
              refl,
              option-is t.query query.0,
              (
                refl,
                changes-is t.query_transform changes.0,
                (
                  refl,
                  option-is t.fragment fragment.0,
                  (
                    refl,
                    option-is t.username username.0,
                    (refl, option-is t.password username.1, tt),
                  ),
                ),
              ),
            ),
          ),
        ),
      ),
    )

one-is : (text : List ℕ) → Are (text ∷ []) → IsText (string text)
one-is text h = text-is text (both (is_utf8 text) true h).0

redirect-is : (target : Redirect) → Are (redirect_texts target) → IsText (redirect_written target)
redirect-is (ExtensionPath path) h = object_text ((codes "extensionPath", Some (string path)) ∷ []) (refl, one-is path h, tt)
redirect-is (Transform t) h = object_text ((codes "transform", Some (transform_written t)) ∷ []) (refl, transform-is t h, tt)
redirect-is (Url url) h = object_text ((codes "url", Some (string url)) ∷ []) (refl, one-is url h, tt)
redirect-is (RegexSubstitution text) h = object_text ((codes "regexSubstitution", Some (string text)) ∷ []) (refl, one-is text h, tt)

operation-word : (operation : Operation) → are_ascii (operation_name operation) ≡ true
operation-word Append = refl
operation-word Set = refl
operation-word Remove = refl

op-is : (op : HeaderOp) → Are (op_texts op) → IsText (op_written op)
op-is op h =
    let p = both (is_utf8 op.name) (list_all is_utf8 (option_to_list op.value)) h in
    object_text (op_fields op) (refl, text-is op.name p.0, (refl, word-is (operation_name op.operation) (operation-word op.operation), (refl, option-is op.value p.1, tt)))

target-is : (action : Action) → Are (action_texts action) → AreFields (target_fields action)
target-is block h = tt
target-is (redirect target) h = (refl, redirect-is target h, tt)
target-is allow h = tt
target-is upgrade_scheme h = tt
target-is (modify_headers request response) h =
    let p = two (flat_map op_texts request) (flat_map op_texts response) h in
    (refl, parts-is op_written op_texts op-is request p.0, (refl, parts-is op_written op_texts op-is response p.1, tt))
target-is allow_all_requests h = tt

type-word : (action : Action) → are_ascii (type_name action) ≡ true
type-word block = refl
type-word (redirect target) = refl
type-word allow = refl
type-word upgrade_scheme = refl
type-word (modify_headers request response) = refl
type-word allow_all_requests = refl

action-is : (action : Action) → Are (action_texts action) → IsText (action_written action)
unfolding action_written
action-is action h = object_text (action_fields action) (refl, word-is (type_name action) (type-word action), target-is action h)

-- ---- rules

id-is : (n : ℕ) → is_number n ≡ true → n < 2 ^ 64
id-is n h = let q : nat_le n 2147483647 ≡ true = (both (nat_le 1 n) (nat_le n 2147483647) h).1 in grind (arith, nat_tests)

rule-is : (rule : Rule) → IsRule rule → Are (texts_of rule) → IsText (rule_written rule)
unfolding rule_written
rule-is rule is h =
    let p = two (condition_texts rule.condition) (action_texts rule.action) h in
    object_text (rule_fields rule) (
      refl,
      number_text rule.id (id-is rule.id is.id),
      (
        refl,
        number_text rule.priority (id-is rule.priority is.priority),
        (
          refl,
          condition-is rule.condition is.condition p.0,
          (refl, action-is rule.action p.1, tt),
        ),
      ),
    )

each-rule : (rules : List Rule) → All IsRule rules → All (λ rule. All IsUtf8 (texts_of rule)) rules → AllByRecursion (λ rule. IsText (rule_written rule)) rules
each-rule [] are texts = tt
each-rule (rule ∷ rules) are texts = (
  rule-is rule (All-head IsRule rule rules are) (all-tested (texts_of rule) (All-head (λ r. All IsUtf8 (texts_of r)) rule rules texts)),
  each-rule rules (All-tail IsRule rule rules are) (All-tail (λ r. All IsUtf8 (texts_of r)) rule rules texts),
)

pub written_texts_are_utf8 : WrittenTextsAreUtf8
written_texts_are_utf8 rules are texts = (list_text rule_written rules (each-rule rules are texts)).utf8
