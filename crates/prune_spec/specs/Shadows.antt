-- When a rule makes another needless: both do the same, it is no weaker, and it holds wherever the
-- other holds. `k` is the rule that is kept, `s` the one in its shadow. Each line of `asks_less` is
-- one field of a condition. The test is of the texts of rules: where it fails, `k` may still hold
-- wherever `s` does.
use Rattle.std.specs.Prelude.{ℕ, ℤ, List, [], ◌∷◌, Bool, true, false, not, ◌==◌, ◌&&◌, ◌||◌, nat_le, nat_eq, Option, Some, None, is_none, option_and_then, if◌then◌else◌}
use Rattle.std.specs.Cmp.Lexicographic.{pointwise}
use Rattle.std.specs.List.{list_all, ends_with}
use Rattle.std.specs.Option.{option_eq}
use Rattle.std.specs.Str.{bytes_eq}
use Rattle.dnr_base.specs.declared.kind.Kind.{Kind}
use Rattle.dnr_base.specs.declared.method.Method.{Method}
use Rattle.dnr_base.specs.declared.verb.Verb.{Verb}
use Rattle.dnr_base.specs.Kind.{has_kind}
use Rattle.dnr_base.specs.Method.{has_method}
use Rattle.dnr_spec.specs.Domains.{covers_some}
use Rattle.dnr_spec.specs.HeaderTests.{HeaderTest}
use Rattle.dnr_spec.specs.Order.{place_of}
use Rattle.rule_spec.specs.Rule.{Condition, Action, Rule, verb_of, is_unsafe}
use Rattle.rule_spec.specs.Holds.{has_tab}
use Rattle.plain_domains.specs.PlainDomains.{plain_domain}

abbrev pub same_answer : Bool → Bool → Bool
same_answer one other = if one then other else not other

-- ---- filters

-- both texts are given, and they are equal
abbrev pub same_text : Option (List ℕ) → Option (List ℕ) → Bool
same_text None other = false
same_text (Some text) None = false
same_text (Some text) (Some other) = bytes_eq text other

abbrev pub has_no_filter : Condition → Bool
has_no_filter k = is_none k.url_filter && is_none k.regex_filter

-- the urlFilters are equal texts, and k minds the case of letters only where s does
abbrev pub has_same_url_filter : Condition → Condition → Bool
has_same_url_filter k s =
    same_text k.url_filter s.url_filter && (not k.case_sensitive || s.case_sensitive)

-- the domain of a urlFilter that is `||`, a plain domain and `^`
abbrev pub filter_domain : Condition → Option (List ℕ)
filter_domain condition = option_and_then plain_domain condition.url_filter

-- both are given, and the second is the first or ends with a dot and the first
abbrev pub lies_under : Option (List ℕ) → Option (List ℕ) → Bool
lies_under None under = false
lies_under (Some domain) None = false
lies_under (Some domain) (Some under) =
    bytes_eq domain under || ends_with nat_eq under (46 ∷ domain)

-- both urlFilters are plain domains, and that of s is that of k or lies under it; hosts are in
-- lower case, so the case of letters counts in neither
abbrev pub has_wider_domain : Condition → Condition → Bool
has_wider_domain k s = lies_under (filter_domain k) (filter_domain s)

-- the regexFilters are equal texts, and both mind the case of letters or neither does
abbrev pub has_same_regex_filter : Condition → Condition → Bool
has_same_regex_filter k s =
    same_text k.regex_filter s.regex_filter && same_answer k.case_sensitive s.case_sensitive

abbrev pub has_weaker_filter : Condition → Condition → Bool
has_weaker_filter k s =
    has_no_filter k || has_same_url_filter k s || has_wider_domain k s || has_same_regex_filter k s

-- ---- domains and the party

-- k lists no domains; or s lists some too, each of which an entry of k's covers
abbrev pub includes_domains : Option (List (List ℕ)) → Option (List (List ℕ)) → Bool
includes_domains None s = true
includes_domains (Some k) None = false
includes_domains (Some k) (Some s) = list_all (covers_some k) s

-- each domain that k excludes is covered by one that s excludes
abbrev pub excludes_less_domains : List (List ℕ) → List (List ℕ) → Bool
excludes_less_domains k s = list_all (covers_some s) k

-- k asks for no party, or for that of s
abbrev pub asks_no_other_party : Option Bool → Option Bool → Bool
asks_no_other_party None s = true
asks_no_other_party (Some k) None = false
asks_no_other_party (Some k) (Some s) = same_answer k s

-- ---- types, methods and tabs

-- each type of s is one of k
abbrev pub includes_kinds : List Kind → List Kind → Bool
includes_kinds k s = list_all (has_kind k) s

-- k lists no methods; or s lists some too, each of which is one of k's
abbrev pub includes_methods : Option (List Method) → Option (List Method) → Bool
includes_methods None s = true
includes_methods (Some k) None = false
includes_methods (Some k) (Some s) = list_all (has_method k) s

-- each method that k excludes is one that s excludes
abbrev pub excludes_less_methods : List Method → List Method → Bool
excludes_less_methods k s = list_all (has_method s) k

-- k lists no tabs; or s lists some too, each of which is one of k's
abbrev pub includes_tabs : Option (List ℤ) → Option (List ℤ) → Bool
includes_tabs None s = true
includes_tabs (Some k) None = false
includes_tabs (Some k) (Some s) = list_all (has_tab k) s

-- each tab that k excludes is one that s excludes
abbrev pub excludes_less_tabs : List ℤ → List ℤ → Bool
excludes_less_tabs k s = list_all (has_tab s) k

-- ---- response headers

-- the same name, and the same patterns in the same order
abbrev pub same_test : HeaderTest → HeaderTest → Bool
same_test one other =
    bytes_eq one.name other.name
    && option_eq (pointwise bytes_eq) one.values other.values
    && pointwise bytes_eq one.excluded other.excluded

abbrev pub has_no_tests : Option (List HeaderTest) → List HeaderTest → Bool
has_no_tests None [] = true
has_no_tests None (test ∷ tests) = false
has_no_tests (Some tests) others = false

-- the same tests in the same order, of both lists
abbrev pub has_same_tests : Condition → Condition → Bool
has_same_tests k s =
    option_eq (pointwise same_test) k.header_tests s.header_tests
    && pointwise same_test k.not_header_tests s.not_header_tests

-- k tests no response headers, or tests them as s does
abbrev pub tests_no_others : Condition → Condition → Bool
tests_no_others k s = has_no_tests k.header_tests k.not_header_tests || has_same_tests k s

-- ---- the whole

-- each field of k is weaker than that of s
abbrev pub asks_less : Condition → Condition → Bool
asks_less k s =
    has_weaker_filter k s
    && includes_domains k.initiators s.initiators
    && excludes_less_domains k.not_initiators s.not_initiators
    && includes_domains k.hosts s.hosts
    && excludes_less_domains k.not_hosts s.not_hosts
    && asks_no_other_party k.third_party s.third_party
    && includes_kinds k.kinds s.kinds
    && includes_methods k.methods s.methods
    && excludes_less_methods k.not_methods s.not_methods
    && includes_tabs k.tabs s.tabs
    && excludes_less_tabs k.not_tabs s.not_tabs
    && tests_no_others k s

abbrev pub same_verb : Verb → Verb → Bool
same_verb one other = place_of one == place_of other

-- both do the same, and neither redirects nor changes headers
abbrev pub same_safe_action : Action → Action → Bool
same_safe_action k s =
    not (is_unsafe k) && not (is_unsafe s) && option_eq same_verb (verb_of k) (verb_of s)

-- two rules of different ids, of which k makes s needless
abbrev pub shadows : Rule → Rule → Bool
shadows k s =
    not (k.id == s.id)
    && same_safe_action k.action s.action
    && nat_le s.priority k.priority
    && asks_less k.condition s.condition
