-- What every rule keeps, whatever file or list it comes from: Chrome's reference, `Rule`, `RuleCondition` and
-- `RuleAction`, and the limits of this engine. It speaks of one rule alone.
use Rattle.std.specs.Prelude.{◌≡◌, ℕ, ℤ, pos, negsuc, ◌+◌, ◌<◌, List, [], ◌∷◌, length, Bool, ◌&&◌, ◌||◌, IsTrue, IfSome, nat_le, Option, None, is_some, is_none, Ok}
use Rattle.std.specs.List.{list_all}
use Rattle.std.specs.Char.{is_ascii}
use Rattle.std.specs.Option.{option_map_or}
use Rattle.dnr_base.specs.declared.kind.Kind.{Kind}
use Rattle.dnr_base.specs.declared.kind.Kind.TheVariants.{MainFrame, SubFrame}
use Rattle.dnr_base.specs.declared.direction.Direction.{Direction}
use Rattle.dnr_base.specs.declared.direction.Direction.TheVariants.{Request, Response}
use Rattle.dnr_base.specs.Kind.{same_kind}
use Rattle.dnr_spec.specs.UrlFilter.{pattern_of}
use Rattle.dnr_spec.specs.Patterns.{groups_of}
use Rattle.dnr_spec.specs.Domains.{domains_of}
use Rattle.dnr_spec.specs.Headers.{HeaderOp, header_op_of}
use Rattle.dnr_spec.specs.HeaderTests.{HeaderTest, is_kept_test}
use Rattle.rule_spec.specs.Redirects.{IsRedirect}
use Rattle.rule_spec.specs.Rule.{Condition, Action, block, redirect, allow, upgrade_scheme, modify_headers, allow_all_requests, Rule}

-- ids and priorities are whole numbers from 1 to 2,147,483,647
abbrev pub max_number : ℕ
max_number = 2147483647

-- the most bytes of a regexFilter
abbrev pub max_regex : ℕ
max_regex = 4096

-- ASCII, not empty and not too long
abbrev pub is_regex_text : List ℕ → Bool
is_regex_text text = nat_le 1 (length text) && nat_le (length text) max_regex && list_all is_ascii text

-- the grammar reads a pattern in such a text
abbrev pub is_regex_filter : List ℕ → Bool
is_regex_filter text = is_regex_text text && is_some (groups_of text)

abbrev pub is_number : ℕ → Bool
is_number n = nat_le 1 n && nat_le n max_number

-- domains as they are kept: those that some list is read as
abbrev pub AreDomains : List (List ℕ) → Type 0
AreDomains domains = (list : List (List ℕ)) × (domains_of list ≡ Ok domains)

-- a tab, or -1 where there is none
abbrev pub is_tab : ℤ → Bool
is_tab (pos n) = nat_le n max_number
is_tab (negsuc n) = nat_le n 0

abbrev pub AreTabs : List ℤ → Type 0
AreTabs tabs = IsTrue (list_all is_tab tabs)

abbrev pub AreTests : List HeaderTest → Type 0
AreTests tests = IsTrue (list_all is_kept_test tests)

-- a list that is given is not empty
abbrev pub IsGivenWhole : {X : Type 0} → Option (List X) → Type 0
IsGivenWhole given = IfSome given (λ list. 0 < length list)

pub record IsCondition (condition : Condition) : Type 0 where
  pub one_filter : IsTrue (is_none condition.url_filter || is_none condition.regex_filter)
  pub url_filter : IfSome condition.url_filter (λ text. pattern_of text ≡ Ok text)
  pub regex_filter : IfSome condition.regex_filter (λ text. IsTrue (is_regex_filter text))
  pub initiators : IsGivenWhole condition.initiators × IfSome condition.initiators AreDomains
  pub not_initiators : AreDomains condition.not_initiators
  pub hosts : IsGivenWhole condition.hosts × IfSome condition.hosts AreDomains
  pub not_hosts : AreDomains condition.not_hosts
  pub methods : IsGivenWhole condition.methods
  pub tabs : IsGivenWhole condition.tabs × IfSome condition.tabs AreTabs
  pub not_tabs : AreTabs condition.not_tabs
  pub header_tests : IsGivenWhole condition.header_tests × IfSome condition.header_tests AreTests
  pub not_header_tests : AreTests condition.not_header_tests

-- `main_frame` or `sub_frame`
abbrev pub is_frame_kind : Kind → Bool
is_frame_kind kind = same_kind kind MainFrame || same_kind kind SubFrame

-- some types, and none but `main_frame` and `sub_frame`
abbrev pub are_frame_kinds : List Kind → Bool
are_frame_kinds kinds = nat_le 1 (length kinds) && list_all is_frame_kind kinds

-- an operation as it is kept: one that is read with some name
abbrev pub IsOperation : Direction → HeaderOp → Type 0
IsOperation direction op = (name : List ℕ) × (header_op_of direction name op.operation op.value ≡ Ok op)

abbrev pub AreOperations : Direction → List HeaderOp → Type 0
AreOperations direction [] = Unit {0}
AreOperations direction (op ∷ ops) = IsOperation direction op × AreOperations direction ops

-- the count of groups of the regexFilter, if there is one
abbrev pub filter_groups : Condition → Option ℕ
filter_groups condition = option_map_or groups_of condition.regex_filter None

abbrev pub IsAction : Condition → Action → Type 0
IsAction condition block = Unit {0}
IsAction condition (redirect target) = IsRedirect (filter_groups condition) target
IsAction condition allow = Unit {0}
IsAction condition upgrade_scheme = Unit {0}
IsAction condition (modify_headers request response) =
    (0 < length request + length response) × AreOperations Request request × AreOperations Response response
IsAction condition allow_all_requests = IsTrue (are_frame_kinds condition.kinds)

pub record IsRule (rule : Rule) : Type 0 where
  pub id : IsTrue (is_number rule.id)
  pub priority : IsTrue (is_number rule.priority)
  pub condition : IsCondition rule.condition
  pub action : IsAction rule.condition rule.action
