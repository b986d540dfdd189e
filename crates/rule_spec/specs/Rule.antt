-- A rule: Chrome's reference of declarativeNetRequest, `Rule`, `RuleCondition` and `RuleAction`.
use Rattle.std.specs.Prelude.{ℕ, ℤ, List, [], Bool, true, false, Option, Some, None}
use Rattle.dnr_base.specs.declared.kind.Kind.{Kind}
use Rattle.dnr_base.specs.declared.method.Method.{Method}
use Rattle.dnr_base.specs.declared.redirect.Redirect.{Redirect}
use Rattle.dnr_base.specs.declared.verb.Verb.{Verb}
use Rattle.dnr_base.specs.declared.verb.Verb.TheVariants as verb
use Rattle.dnr_spec.specs.Headers.{HeaderOp}
use Rattle.dnr_spec.specs.HeaderTests.{HeaderTest}

-- When a rule holds. `url_filter` and `regex_filter` are texts of patterns, `kinds` the types on which the rule
-- holds, and the lists of domains, methods and tabs are taken as sets. Tests are made on the headers of the response. A list that is not given is `None`, or
-- empty where its name begins with `not_`.
pub record Condition : Type 0 where
  pub url_filter : Option (List ℕ)
  pub regex_filter : Option (List ℕ)
  pub case_sensitive : Bool
  pub initiators : Option (List (List ℕ))
  pub not_initiators : List (List ℕ)
  pub hosts : Option (List (List ℕ))
  pub not_hosts : List (List ℕ)
  pub third_party : Option Bool
  pub kinds : List Kind
  pub methods : Option (List Method)
  pub not_methods : List Method
  pub tabs : Option (List ℤ)
  pub not_tabs : List ℤ
  pub header_tests : Option (List HeaderTest)
  pub not_header_tests : List HeaderTest

-- it gives its types alone
abbrev pub plain_condition : List Kind → Condition
plain_condition kinds = record {
  url_filter = None;
  regex_filter = None;
  case_sensitive = false;
  initiators = None;
  not_initiators = [];
  hosts = None;
  not_hosts = [];
  third_party = None;
  kinds = kinds;
  methods = None;
  not_methods = [];
  tabs = None;
  not_tabs = [];
  header_tests = None;
  not_header_tests = [];
}

-- what a rule does; `modify_headers` has the operations on request headers, then those on response headers
pub data Action : Type 0 where
  block : Action
  redirect : Redirect → Action
  allow : Action
  upgrade_scheme : Action
  modify_headers : List HeaderOp → List HeaderOp → Action
  allow_all_requests : Action

pub record Rule : Type 0 where
  pub id : ℕ
  pub priority : ℕ
  pub condition : Condition
  pub action : Action

-- the verdict that a rule may give, if it gives one
abbrev pub verb_of : Action → Option Verb
verb_of block = Some verb.Block
verb_of (redirect target) = Some verb.Redirect
verb_of allow = Some verb.Allow
verb_of upgrade_scheme = Some verb.UpgradeScheme
verb_of (modify_headers request response) = None
verb_of allow_all_requests = Some verb.AllowAllRequests

-- a rule of this action is unsafe: it may send a request elsewhere or change its headers
abbrev pub is_unsafe : Action → Bool
is_unsafe block = false
is_unsafe (redirect target) = true
is_unsafe allow = false
is_unsafe upgrade_scheme = false
is_unsafe (modify_headers request response) = true
is_unsafe allow_all_requests = false
