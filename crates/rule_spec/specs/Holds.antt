-- Whether a rule's condition holds on a part: Chrome's reference, `RuleCondition`. Each line of `holds` is one
-- field, and a field that is absent holds.
use Rattle.std.specs.Prelude.{ℕ, ℤ, List, [], ◌∷◌, Bool, true, false, not, ◌&&◌, ◌||◌, Option, Some, None, is_some}
use Rattle.std.specs.List.{list_any}
use Rattle.std.specs.Ordering.{int_eq}
use Rattle.dnr_base.specs.declared.scheme.Scheme.{Scheme}
use Rattle.dnr_base.specs.declared.scheme.Scheme.TheVariants.{Http, Https, Ws, Wss, Ftp, ChromeExtension}
use Rattle.dnr_base.specs.declared.header.Header.{Header}
use Rattle.dnr_base.specs.declared.method.Method.{Method}
use Rattle.dnr_base.specs.Kind.{has_kind}
use Rattle.dnr_base.specs.Method.{has_method}
use Rattle.dnr_base.specs.View.{View, text_of, host_of}
use Rattle.dnr_base.specs.Request.{Part}
use Rattle.dnr_spec.specs.Suffixes.{SuffixRule}
use Rattle.dnr_spec.specs.UrlFilter.{fits}
use Rattle.dnr_spec.specs.Patterns.{found}
use Rattle.dnr_spec.specs.Domains.{covers_some}
use Rattle.dnr_spec.specs.Party.{is_third_party}
use Rattle.dnr_spec.specs.HeaderTests.{HeaderTest, some_test_holds}
use Rattle.rule_spec.specs.Rule.{Condition, Rule}

-- ---- the URL

-- the urlFilter fits the URL without its fragment; `fold` where the case of letters does not matter
abbrev pub fits_url : Option (List ℕ) → Bool → View → Bool
fits_url None fold view = true
fits_url (Some pattern) fold view = fits pattern (text_of view) view.host fold

-- the regexFilter has a match in it
abbrev pub has_match : Option (List ℕ) → Bool → View → Bool
has_match None fold view = true
has_match (Some pattern) fold view = is_some (found pattern fold (text_of view))

-- ---- domains

-- the list is not given, or covers the host
abbrev pub is_among : Option (List (List ℕ)) → List ℕ → Bool
is_among None host = true
is_among (Some domains) host = covers_some domains host

-- the list is not given, or the host is there and covered
abbrev pub is_from : Option (List (List ℕ)) → Option (List ℕ) → Bool
is_from None initiator = true
is_from (Some domains) None = false
is_from (Some domains) (Some host) = covers_some domains host

-- the host is absent or not covered
abbrev pub is_not_from : List (List ℕ) → Option (List ℕ) → Bool
is_not_from domains None = true
is_not_from domains (Some host) = not (covers_some domains host)

-- the party is not asked for, or is the one that is asked for
abbrev pub is_party : Option Bool → Bool → Bool
is_party None third = true
is_party (Some true) third = third
is_party (Some false) third = not third

-- ---- methods and tabs

-- `http` and `https`, whose requests have methods
abbrev pub has_methods : Scheme → Bool
has_methods Http = true
has_methods Https = true
has_methods Ws = false
has_methods Wss = false
has_methods Ftp = false
has_methods ChromeExtension = false

-- a list that is given holds on requests with methods alone
abbrev pub is_by : Option (List Method) → Scheme → Method → Bool
is_by None scheme method = true
is_by (Some methods) scheme method = has_methods scheme && has_method methods method

-- a list of excluded methods says nothing of a request without methods
abbrev pub is_not_by : List Method → Scheme → Method → Bool
is_not_by methods scheme method = not (has_methods scheme) || not (has_method methods method)

abbrev pub has_tab : List ℤ → ℤ → Bool
has_tab tabs tab = list_any (λ other. int_eq tab other) tabs

abbrev pub is_in : Option (List ℤ) → ℤ → Bool
is_in None tab = true
is_in (Some tabs) tab = has_tab tabs tab

-- ---- response headers

-- the tests are not given, or the part carries response headers and some test holds on them
abbrev pub has_response : Option (List HeaderTest) → Option (List Header) → Bool
has_response None headers = true
has_response (Some tests) None = false
has_response (Some tests) (Some headers) = some_test_holds tests headers

-- there are no tests, or the part carries response headers and no test holds on them
abbrev pub has_no_response : List HeaderTest → Option (List Header) → Bool
has_no_response [] headers = true
has_no_response (test ∷ tests) None = false
has_no_response (test ∷ tests) (Some headers) = not (some_test_holds (test ∷ tests) headers)

-- ---- the whole

-- the condition holds on the part, where these are the suffix rules
abbrev pub holds_on : List SuffixRule → Condition → Part → Bool
holds_on suffixes condition part =
    has_kind condition.kinds part.kind
    && is_by condition.methods part.view.scheme part.method
    && is_not_by condition.not_methods part.view.scheme part.method
    && is_in condition.tabs part.tab
    && not (has_tab condition.not_tabs part.tab)
    && is_among condition.hosts (host_of part.view)
    && not (covers_some condition.not_hosts (host_of part.view))
    && fits_url condition.url_filter (not condition.case_sensitive) part.view
    && is_from condition.initiators part.initiator
    && is_not_from condition.not_initiators part.initiator
    && is_party condition.third_party (is_third_party suffixes (host_of part.view) part.initiator)
    && has_response condition.header_tests part.response_headers
    && has_no_response condition.not_header_tests part.response_headers
    && has_match condition.regex_filter (not condition.case_sensitive) part.view

abbrev pub holds : List SuffixRule → Rule → Part → Bool
holds suffixes rule part = holds_on suffixes rule.condition part
