-- Rules that are written and read again.
use Rattle.std.specs.Prelude.{◌≡◌, List, [], ◌∷◌, map, false, IsTrue, IsUtf8, All, Bool, not, ◌||◌, Some, Ok}
use Rattle.std.specs.List.{list_all}
use Rattle.serde_json.specs.Read.{read}
use Rattle.rule_spec.specs.declared.rule_kind.RuleKind.{RuleKind}
use Rattle.rule_spec.specs.declared.rule_kind.RuleKind.TheVariants.{Session}
use Rattle.rule_spec.specs.Rule.{Rule}
use Rattle.rule_spec.specs.IsRule.{IsRule}
use Rattle.json_spec.specs.ReadRule.{may_name_tabs, has_id, read_rules}
use Rattle.json_spec.specs.RulesFile.{rules_of}
use Rattle.json_spec.specs.Written.{rules_written, written}
use Rattle.written_laws.specs.Normal.{normal, names_tabs}
use Rattle.written_laws.specs.Texts.{texts_of}

-- no two of the rules have one id
abbrev pub IdsDiffer : List Rule → Type 0
IdsDiffer [] = Unit {0}
IdsDiffer (rule ∷ rules) = (has_id rules rule.id ≡ false) × IdsDiffer rules

-- rules of this kind may name tabs, or none of these does
abbrev pub may_be : RuleKind → List Rule → Bool
may_be kind rules = may_name_tabs kind || list_all (λ rule. not (names_tabs rule)) rules

-- ---- laws

-- the text of rules is read as the tree that it was made of
abbrev pub WrittenTextsAreTrees : Type 0
WrittenTextsAreTrees = (rules : List Rule) → All IsRule rules → read (written rules) ≡ Some (rules_written rules)

-- the tree of rules of different ids is read as the same rules in their normal form
abbrev pub WrittenTreesAreRead : Type 0
WrittenTreesAreRead = (kind : RuleKind) (rules : List Rule) → All IsRule rules → IdsDiffer rules → IsTrue (may_be kind rules) → read_rules kind (rules_written rules) ≡ Ok (map normal rules)

-- so is the text as session rules, where it is UTF-8
abbrev pub WrittenRulesAreRead : Type 0
WrittenRulesAreRead = (rules : List Rule) → All IsRule rules → IdsDiffer rules → IsUtf8 (written rules) → rules_of Session (written rules) ≡ Ok (map normal rules)

-- and as rules of any kind where none of them names tabs
abbrev pub TablessRulesAreRead : Type 0
TablessRulesAreRead =
    (kind : RuleKind) (rules : List Rule) → All IsRule rules → IdsDiffer rules → IsTrue (list_all (λ rule. not (names_tabs rule)) rules)
    → IsUtf8 (written rules) → rules_of kind (written rules) ≡ Ok (map normal rules)

-- the text is UTF-8 where each text of the rules is
abbrev pub WrittenTextsAreUtf8 : Type 0
WrittenTextsAreUtf8 = (rules : List Rule) → All IsRule rules → All (λ rule. All IsUtf8 (texts_of rule)) rules → IsUtf8 (written rules)

-- rules of one text are the same rules
abbrev pub TextsTellRulesApart : Type 0
TextsTellRulesApart =
    (rules others : List Rule) → All IsRule rules → All IsRule others → IdsDiffer rules → IdsDiffer others → written rules ≡ written others
    → map normal rules ≡ map normal others
