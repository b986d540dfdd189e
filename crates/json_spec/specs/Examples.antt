-- Examples of rules from JSON, each computed from the definitions alone.
use Rattle.std.specs.Prelude.{◌≡◌, ℕ, pos, negsuc, List, [], ◌∷◌, ◌++◌, codes, false, Option, Some, None, Result, Ok, Err, option_map}
use Rattle.dnr_base.specs.declared.kind.Kind.TheVariants.{MainFrame, SubFrame, Script}
use Rattle.dnr_base.specs.Kind.{default_kinds}
use Rattle.dnr_spec.specs.declared.pattern_refusal.PatternRefusal.TheVariants as pattern
use Rattle.dnr_spec.specs.declared.header_refusal.HeaderRefusal.TheVariants.{AppendNotAllowed}
use Rattle.rule_spec.specs.declared.rule_kind.RuleKind.{RuleKind}
use Rattle.rule_spec.specs.declared.rule_kind.RuleKind.TheVariants.{Static, Dynamic, Session}
use Rattle.rule_spec.specs.declared.rule_path.RulePath.TheVariants as path
use Rattle.rule_spec.specs.declared.rule_refusal.RuleRefusal.{RuleRefusal}
use Rattle.rule_spec.specs.declared.rule_refusal.RuleRefusal.TheVariants as refusal
use Rattle.rule_spec.specs.declared.rule_refusal.HeaderCause.TheVariants as cause
use Rattle.rule_spec.specs.declared.placed_refusal.PlacedRefusal.{PlacedRefusal}
use Rattle.rule_spec.specs.Rule.{Condition, plain_condition, block, allow_all_requests, Rule}
use Rattle.json_spec.specs.Json.{tree_of}
use Rattle.json_spec.specs.ReadRule.{read_rule, read_rules}

-- ---- what is read

-- the rule of a JSON text
abbrev pub rule_in_text : RuleKind → List ℕ → Option (Result Rule RuleRefusal)
rule_in_text kind text = option_map (read_rule kind) (tree_of text)

-- the rules of a JSON text
abbrev pub rules_in_text : RuleKind → List ℕ → Option (Result (List Rule) PlacedRefusal)
rules_in_text kind text = option_map (read_rules kind) (tree_of text)

-- a rule that blocks, with these fields of its condition
abbrev pub blocking : List ℕ → List ℕ
blocking fields = codes "{\"id\":1,\"condition\":{" ++ fields ++ codes "},\"action\":{\"type\":\"block\"}}"

-- a rule with these fields of its condition and these of its action
abbrev pub acting : List ℕ → List ℕ → List ℕ
acting fields action = codes "{\"id\":1,\"condition\":{" ++ fields ++ codes "},\"action\":{" ++ action ++ codes "}}"

abbrev pub refused_as : RuleRefusal → Option (Result Rule RuleRefusal)
refused_as refusal = Some (Err refusal)

-- a condition that names nothing
abbrev pub plain : Condition
plain = plain_condition default_kinds

-- Domains are read in lower case, in their order and with their repeats; types count once, in the reference's order.
abbrev pub FieldsAreRead : Type 0
FieldsAreRead =
    rule_in_text Static (blocking (codes "\"requestDomains\":[\"Example.COM\",\"b.org\",\"b.org\"],\"resourceTypes\":[\"script\",\"main_frame\",\"script\"]"))
    ≡ Some (Ok (record {
      id = 1;
      priority = 1;
      condition = record plain { hosts = Some (codes "example.com" ∷ codes "b.org" ∷ codes "b.org" ∷ []); kinds = MainFrame ∷ Script ∷ [] };
      action = block;
    }))

-- The old name of a list is read as the new one, and not beside it.
abbrev pub OldNamesStandAlone : Type 0
OldNamesStandAlone =
    (rule_in_text Static (blocking (codes "\"domains\":[\"a.com\"]"))
    ≡ Some (Ok (record { id = 1; priority = 1; condition = record plain { initiators = Some (codes "a.com" ∷ []) }; action = block })))
    × (rule_in_text Static (blocking (codes "\"domains\":[\"a.com\"],\"initiatorDomains\":[\"a.com\"]")) ≡ refused_as (refusal.BadField path.Domains))

-- ---- the first refusal is named

-- The tests of the rule come in order: object, id, priority, condition.
abbrev pub HeadComesInOrder : Type 0
HeadComesInOrder =
    (rule_in_text Static (codes "[]") ≡ refused_as refusal.NotObject)
    × (rule_in_text Static (codes "{\"id\":0,\"priority\":0}") ≡ refused_as refusal.BadId)
    × (rule_in_text Static (codes "{\"id\":1,\"priority\":null}") ≡ refused_as refusal.BadPriority)
    × (rule_in_text Static (codes "{\"id\":1,\"condition\":[]}") ≡ refused_as (refusal.BadField path.Condition))

-- A field that no rule may have is refused before one of a bad form, and this one before two filters.
abbrev pub FieldsComeBeforeFilters : Type 0
FieldsComeBeforeFilters =
    (rule_in_text Static (blocking (codes "\"urlFilter\":1,\"topDomains\":[\"a.com\"]")) ≡ refused_as (refusal.BadField path.TopDomains))
    × (rule_in_text Static (blocking (codes "\"urlFilter\":\"\",\"regexFilter\":\"(\",\"tabIds\":[-2]")) ≡ refused_as (refusal.BadField path.TabIds))
    × (rule_in_text Static (blocking (codes "\"urlFilter\":\"\",\"regexFilter\":\"(\"")) ≡ refused_as refusal.BothFilters)
    × (rule_in_text Static (blocking (codes "\"urlFilter\":\"||*x\"")) ≡ refused_as (refusal.BadUrlFilter pattern.AnchorStar))

-- Domains at fault come before empty lists, these before both type lists, and these before tabs.
abbrev pub ListsComeInOrder : Type 0
ListsComeInOrder =
    (rule_in_text Dynamic (blocking (codes "\"requestDomains\":[\"a b\"],\"initiatorDomains\":[]")) ≡ refused_as (refusal.BadDomain path.RequestDomains))
    × (rule_in_text Dynamic (blocking (codes "\"tabIds\":[],\"resourceTypes\":[],\"excludedResourceTypes\":[]")) ≡ refused_as (refusal.EmptyList path.ResourceTypes))
    × (rule_in_text Dynamic (blocking (codes "\"tabIds\":[1],\"resourceTypes\":[\"script\"],\"excludedResourceTypes\":[]")) ≡ refused_as refusal.BothTypeLists)
    × (rule_in_text Dynamic (blocking (codes "\"tabIds\":[1]")) ≡ refused_as refusal.TabsNotSession)

-- Session rules alone name tabs, each once.
abbrev pub SessionRulesNameTabs : Type 0
SessionRulesNameTabs =
    rule_in_text Session (blocking (codes "\"tabIds\":[1,-1,1]"))
    ≡ Some (Ok (record { id = 1; priority = 1; condition = record plain { tabs = Some (pos 1 ∷ negsuc 0 ∷ []) }; action = block }))

-- `allowAllRequests` lists frames, and a rule that does not is refused before its tabs.
abbrev pub AllowAllListsFrames : Type 0
AllowAllListsFrames =
    (rule_in_text Static (acting (codes "\"resourceTypes\":[\"sub_frame\"]") (codes "\"type\":\"allowAllRequests\""))
    ≡ Some (Ok (record { id = 1; priority = 1; condition = record plain { kinds = SubFrame ∷ [] }; action = allow_all_requests })))
    × (rule_in_text Static (acting (codes "\"tabIds\":[1]") (codes "\"type\":\"allowAllRequests\"")) ≡ refused_as refusal.AllowAllTypes)
    × (rule_in_text Static (acting (codes "\"resourceTypes\":[\"script\",\"sub_frame\"]") (codes "\"type\":\"allowAllRequests\"")) ≡ refused_as refusal.AllowAllTypes)

-- ---- actions

-- A redirect has one field; a transform's fields have forms; a script is no target; a substitution needs a pattern.
abbrev pub RedirectsHaveForms : Type 0
RedirectsHaveForms =
    (rule_in_text Static (acting [] (codes "\"type\":\"follow\"")) ≡ refused_as refusal.BadAction)
    × (rule_in_text Static (acting [] (codes "\"type\":\"redirect\",\"redirect\":{\"url\":\"http://a.com/\",\"extensionPath\":\"/x\"}")) ≡ refused_as refusal.BadRedirect)
    × (rule_in_text Static (acting [] (codes "\"type\":\"redirect\",\"redirect\":{\"url\":\"javascript:x\"}")) ≡ refused_as refusal.BadRedirect)
    × (rule_in_text Static (acting [] (codes "\"type\":\"redirect\",\"redirect\":{\"regexSubstitution\":\"x\"}")) ≡ refused_as refusal.BadRedirect)
    × (rule_in_text Static (acting [] (codes "\"type\":\"redirect\",\"redirect\":{\"transform\":{\"port\":\"65536\"}}")) ≡ refused_as refusal.BadTransform)

-- A rule changes some header; shapes come before operations; what may be appended to a request is listed.
abbrev pub HeaderChangesHaveForms : Type 0
HeaderChangesHaveForms =
    (rule_in_text Static (acting [] (codes "\"type\":\"modifyHeaders\",\"requestHeaders\":[]")) ≡ refused_as (refusal.BadHeader cause.NoHeaders))
    × (rule_in_text Static (acting [] (codes "\"type\":\"modifyHeaders\",\"requestHeaders\":[{\"header\":\"x-y\",\"operation\":\"append\",\"value\":\"1\"}],\"responseHeaders\":[1]"))
    ≡ refused_as (refusal.BadHeader cause.BadShape))
    × (rule_in_text Static (acting [] (codes "\"type\":\"modifyHeaders\",\"requestHeaders\":[{\"header\":\"x-y\",\"operation\":\"append\",\"value\":\"1\"}]"))
    ≡ refused_as (refusal.BadHeader (cause.Op AppendNotAllowed)))

-- ---- lists

-- The second rule of an id is named, with its place and its id; an id that is none is not named.
abbrev pub SecondOfAnIdIsNamed : Type 0
SecondOfAnIdIsNamed =
    (rules_in_text Static (codes "[" ++ blocking [] ++ codes "," ++ blocking (codes "\"urlFilter\":1") ++ codes "]")
    ≡ Some (Err (record { place = 1; id = Some 1; cause = refusal.DuplicateId; set = None })))
    × (rules_in_text Static (codes "[" ++ blocking [] ++ codes ",{\"id\":1.0}]")
    ≡ Some (Err (record { place = 1; id = None; cause = refusal.BadId; set = None })))
    × (rules_in_text Static (codes "{}") ≡ Some (Err (record { place = 0; id = None; cause = refusal.NotObject; set = None })))

-- ---- tests of response headers

-- a rule that tests response headers by these objects
abbrev pub testing : List ℕ → List ℕ
testing tests = blocking (codes "\"responseHeaders\":[" ++ tests ++ codes "]")

-- A test keeps its name in lower case and its patterns in their order; a list that is empty is as one that is absent.
abbrev pub TestsAreRead : Type 0
TestsAreRead =
    rule_in_text Static (testing (codes "{\"header\":\"X-A\",\"values\":[\"b\",\"a\",\"b\"],\"excludedValues\":[]}"))
    ≡ Some (Ok (record {
      id = 1;
      priority = 1;
      condition = record plain {
        header_tests = Some (record { name = codes "x-a"; values = Some (codes "b" ∷ codes "a" ∷ codes "b" ∷ []); excluded = [] } ∷ []);
      };
      action = block;
    }))

-- The form of both lists comes before an empty list, and that before a name or a pattern that is none.
abbrev pub TestsComeInOrder : Type 0
TestsComeInOrder =
    (rule_in_text Static (testing (codes "{\"values\":[]}")) ≡ refused_as (refusal.BadField path.ResponseHeaders))
    × (rule_in_text Static (testing (codes "{\"header\":\"x y\",\"values\":[]}")) ≡ refused_as (refusal.EmptyList path.ResponseHeaderValues))
    × (rule_in_text Static (testing (codes "{\"header\":\"a\",\"values\":[\"a\\\\b\"]}")) ≡ refused_as (refusal.BadHeaderTest path.ResponseHeaders))
    × (rule_in_text Static (blocking (codes "\"excludedResponseHeaders\":[{\"header\":\"x y\"}]"))
    ≡ refused_as (refusal.BadHeaderTest path.ExcludedResponseHeaders))
