-- Examples, each computed from the definitions alone.
use Rattle.std.specs.Prelude.{◌≡◌, ℕ, List, [], ◌∷◌, ◌++◌, codes, true, Option, Some, None}
use Rattle.dnr_base.specs.declared.kind.Kind.TheVariants.{MainFrame, SubFrame, Script, Image}
use Rattle.dnr_base.specs.Kind.{default_kinds}
use Rattle.rule_spec.specs.Examples.{rule_on}
use Rattle.rule_spec.specs.Rule.{block, allow, allow_all_requests, Rule}
use Rattle.list_spec.specs.declared.reason.Reason.TheVariants.{ElementHiding, UnknownOption}
use Rattle.list_spec.specs.LineKind.{lines_of}
use Rattle.compile_spec.specs.Compiled.{CompiledRule, compiled}
use Rattle.compile_spec.specs.Report.{report}

-- ---- rules

abbrev from_line : ℕ → Rule → CompiledRule
from_line number rule = record { rule = rule; lines = number ∷ [] }

-- a rule that several lines give, for requests to these hosts
abbrev for_hosts : List ℕ → List (List ℕ) → Rule → CompiledRule
for_hosts lines hosts rule = record { rule = record rule { condition = record rule.condition { hosts = Some hosts } }; lines = lines }

-- the rule, for these initiators but not for those
abbrev for_initiators : Option (List (List ℕ)) → List (List ℕ) → Rule → Rule
for_initiators among not_among rule = record rule { condition = record rule.condition { initiators = among; not_initiators = not_among } }

abbrev for_third_parties : Rule → Rule
for_third_parties rule = record rule { condition = record rule.condition { third_party = Some true } }

abbrev on_match : List ℕ → Rule → Rule
on_match pattern rule = record rule { condition = record rule.condition { regex_filter = Some pattern } }

-- the rules of a list with this one line
abbrev rules_of_line : List ℕ → List CompiledRule
rules_of_line line = compiled (lines_of line)

-- the rules of a list with these lines
abbrev rules_of_lines : List (List ℕ) → List CompiledRule
rules_of_lines lines = compiled lines

-- ---- a list

-- a list with each kind of line
abbrev pub small_list : List ℕ
small_list =
    codes "[Adblock Plus 2.0]\n! Title: t\na.com##.ad\n@@||a.com^$document\n"
    ++ codes "||ads.com^$third-party,domain=b.com|~c.b.com|d.c.b.com\n||pop.com^$popup\n/banner[0-9]+\\.gif/\n"

-- Its rules, of which two come from one line.
abbrev pub RulesOfAList : Type 0
RulesOfAList =
    compiled (lines_of small_list)
    ≡ from_line 4 (rule_on 1 3 (Some (codes "||a.com^")) (MainFrame ∷ SubFrame ∷ []) allow_all_requests)
    ∷ from_line 5 (for_third_parties (for_initiators (Some (codes "b.com" ∷ [])) (codes "c.b.com" ∷ []) (rule_on 2 1 (Some (codes "||ads.com^")) default_kinds block)))
    ∷ from_line 5 (for_third_parties (for_initiators (Some (codes "d.c.b.com" ∷ [])) [] (rule_on 3 1 (Some (codes "||ads.com^")) default_kinds block)))
    ∷ from_line 7 (on_match (codes "banner[0-9]+\\.gif") (rule_on 4 1 None default_kinds block)) ∷ []

-- The lines of it that are reported.
abbrev pub ReportOfAList : Type 0
ReportOfAList =
    report (lines_of small_list)
    ≡ record { line = 3; reason = ElementHiding } ∷ record { line = 6; reason = UnknownOption (codes "popup") } ∷ []

-- ---- filters

-- A filter whose types were all taken back gives no rule.
abbrev pub NoTypeGivesNoRule : Type 0
NoTypeGivesNoRule = rules_of_line (codes "||a.com^$image,~image") ≡ []

-- An exception for a page gives no `allow` unless it names types too, and its `allow` comes first.
abbrev pub PageAloneGivesNoAllow : Type 0
PageAloneGivesNoAllow =
    (rules_of_line (codes "@@||a.com^$document") ≡ from_line 1 (rule_on 1 3 (Some (codes "||a.com^")) (MainFrame ∷ SubFrame ∷ []) allow_all_requests) ∷ [])
    × (rules_of_line (codes "@@||a.com^$document,script")
    ≡ from_line 1 (rule_on 1 2 (Some (codes "||a.com^")) (Script ∷ []) allow)
    ∷ from_line 1 (rule_on 2 3 (Some (codes "||a.com^")) (MainFrame ∷ SubFrame ∷ []) allow_all_requests) ∷ [])

-- Without a listed domain under an excluded one there is one rule, whichever domain is repeated.
abbrev pub OneRuleWhereNothingIsNested : Type 0
OneRuleWhereNothingIsNested =
    (rules_of_line (codes "x$domain=~a.com|~b.a.com|~a.com")
    ≡ from_line 1 (for_initiators None (codes "a.com" ∷ codes "b.a.com" ∷ []) (rule_on 1 1 (Some (codes "x")) default_kinds block)) ∷ [])
    × (rules_of_line (codes "x$domain=b.com|~c.b.com|a.com|B.com|xc.b.com")
    ≡ from_line 1 (for_initiators (Some (codes "b.com" ∷ codes "a.com" ∷ codes "xc.b.com" ∷ [])) (codes "c.b.com" ∷ []) (rule_on 1 1 (Some (codes "x")) default_kinds block)) ∷ [])

-- Each nested domain has a rule of its own, and the others share one, unless there are none.
abbrev pub NestedDomainsStandAlone : Type 0
NestedDomainsStandAlone =
    (rules_of_line (codes "x$domain=d.c.b.com|~c.b.com|~e.d.c.b.com|f.e.d.c.b.com")
    ≡ from_line 1 (for_initiators (Some (codes "d.c.b.com" ∷ [])) (codes "e.d.c.b.com" ∷ []) (rule_on 1 1 (Some (codes "x")) default_kinds block))
    ∷ from_line 1 (for_initiators (Some (codes "f.e.d.c.b.com" ∷ [])) [] (rule_on 2 1 (Some (codes "x")) default_kinds block)) ∷ [])
    × (rules_of_line (codes "@@x$script,document,domain=~b.com|a.b.com|z.com|a.b.com")
    ≡ from_line 1 (for_initiators (Some (codes "z.com" ∷ [])) (codes "b.com" ∷ []) (rule_on 1 2 (Some (codes "x")) (Script ∷ []) allow))
    ∷ from_line 1 (for_initiators (Some (codes "a.b.com" ∷ [])) [] (rule_on 2 2 (Some (codes "x")) (Script ∷ []) allow))
    ∷ from_line 1 (for_initiators (Some (codes "z.com" ∷ [])) (codes "b.com" ∷ []) (rule_on 3 3 (Some (codes "x")) (MainFrame ∷ SubFrame ∷ []) allow_all_requests))
    ∷ from_line 1 (for_initiators (Some (codes "a.b.com" ∷ [])) [] (rule_on 4 3 (Some (codes "x")) (MainFrame ∷ SubFrame ∷ []) allow_all_requests)) ∷ [])

-- ---- filters that stand as one

abbrev blocking : ℕ → Option (List ℕ) → Rule
blocking id pattern = rule_on id 1 pattern default_kinds block

-- Filters of plain domains that agree give one rule, whatever they say of case; a filter of other types and one of an
-- address have rules of their own.
abbrev pub AlikeFiltersStandAsOne : Type 0
AlikeFiltersStandAsOne =
    rules_of_lines (codes "||a.com^" ∷ codes "||b.org^$match-case" ∷ codes "||a.com^$image" ∷ codes "||1.2^" ∷ [])
    ≡ for_hosts (1 ∷ 2 ∷ []) (codes "a.com" ∷ codes "b.org" ∷ []) (blocking 1 None)
    ∷ from_line 3 (rule_on 2 1 (Some (codes "||a.com^")) (Image ∷ []) block)
    ∷ from_line 4 (blocking 3 (Some (codes "||1.2^"))) ∷ []

-- Hosts ascend and are listed once. Ids count in the order of first lines, between which other lines may stand.
abbrev pub HostsAscendAndStandOnce : Type 0
HostsAscendAndStandOnce =
    rules_of_lines (codes "||b.a^" ∷ codes "x" ∷ codes "||c.a^$third-party" ∷ codes "||a.a^" ∷ codes "! y" ∷ codes "||b.a^" ∷ codes "||a^$third-party" ∷ [])
    ≡ for_hosts (1 ∷ 4 ∷ 6 ∷ []) (codes "a.a" ∷ codes "b.a" ∷ []) (blocking 1 None)
    ∷ from_line 2 (blocking 2 (Some (codes "x")))
    ∷ for_hosts (3 ∷ 7 ∷ []) (codes "a" ∷ codes "c.a" ∷ []) (for_third_parties (blocking 3 None)) ∷ []

-- The domains of initiators are compared as a set, and the rules name them as the first line does.
abbrev pub InitiatorsAreASet : Type 0
InitiatorsAreASet =
    rules_of_lines (codes "||a.b^$domain=y.z|~x.y.z|w.x.y.z" ∷ codes "||c.d^$domain=w.x.y.z|y.z|~x.y.z|y.z" ∷ codes "||c.d^$domain=y.z|x.y.z|w.x.y.z" ∷ [])
    ≡ for_hosts (1 ∷ 2 ∷ []) (codes "a.b" ∷ codes "c.d" ∷ []) (for_initiators (Some (codes "y.z" ∷ [])) (codes "x.y.z" ∷ []) (blocking 1 None))
    ∷ for_hosts (1 ∷ 2 ∷ []) (codes "a.b" ∷ codes "c.d" ∷ []) (for_initiators (Some (codes "w.x.y.z" ∷ [])) [] (blocking 2 None))
    ∷ from_line 3 (for_initiators (Some (codes "y.z" ∷ codes "x.y.z" ∷ codes "w.x.y.z" ∷ [])) [] (blocking 3 (Some (codes "||c.d^")))) ∷ []

-- An exception is not alike to a filter that blocks, and two exceptions for one page are.
abbrev pub ExceptionsStandWithExceptions : Type 0
ExceptionsStandWithExceptions =
    rules_of_lines (codes "@@||a.com^$document" ∷ codes "||a.com^$~document" ∷ codes "@@||a.com^$document" ∷ [])
    ≡ for_hosts (1 ∷ 3 ∷ []) (codes "a.com" ∷ []) (rule_on 1 3 None (MainFrame ∷ SubFrame ∷ []) allow_all_requests)
    ∷ from_line 2 (blocking 2 (Some (codes "||a.com^"))) ∷ []

-- Capital letters, empty labels, an end without `^` and a last label without a letter keep a pattern apart.
abbrev pub OtherPatternsStandAlone : Type 0
OtherPatternsStandAlone =
    (rules_of_lines (codes "||a.com^" ∷ codes "||A.com^" ∷ codes "||a.com.^" ∷ codes "||.a.com^" ∷ codes "||a..com^" ∷ [])
    ≡ from_line 1 (blocking 1 (Some (codes "||a.com^"))) ∷ from_line 2 (blocking 2 (Some (codes "||A.com^"))) ∷ from_line 3 (blocking 3 (Some (codes "||a.com.^")))
    ∷ from_line 4 (blocking 4 (Some (codes "||.a.com^"))) ∷ from_line 5 (blocking 5 (Some (codes "||a..com^"))) ∷ [])
    × (rules_of_lines (codes "||a.1^" ∷ codes "||a.-^" ∷ codes "||^" ∷ codes "||a.com" ∷ codes "|a.com^" ∷ [])
    ≡ from_line 1 (blocking 1 (Some (codes "||a.1^"))) ∷ from_line 2 (blocking 2 (Some (codes "||a.-^"))) ∷ from_line 3 (blocking 3 (Some (codes "||^")))
    ∷ from_line 4 (blocking 4 (Some (codes "||a.com"))) ∷ from_line 5 (blocking 5 (Some (codes "|a.com^"))) ∷ [])
    × (rules_of_lines (codes "||a_b.c-d^" ∷ codes "||a.0x1^" ∷ []) ≡ for_hosts (1 ∷ 2 ∷ []) (codes "a.0x1" ∷ codes "a_b.c-d" ∷ []) (blocking 1 None) ∷ [])
