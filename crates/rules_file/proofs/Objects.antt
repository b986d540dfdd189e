-- The object that a text is.
use Rattle.std.proofs.Common.{◌≡◌, ℕ, ◌<◌, List, [], ◌∷◌, Bool, true, false, Option, Some, None, Result, Ok, Err, length, option_map, drop, refl, sym, ap, ◌∙◌, subst, arith}
use Rattle.std.specs.Prelude.{IfOk, IsSome}
use Rattle.std.specs.Str.{IsUtf8}
use Rattle.json.specs.Token.{Token}
use Rattle.json.specs.Lex.{tokens}
use Rattle.json.specs.Json as json
use Rattle.json.specs.Json.{Parse, parse_map, value, value_with, members}
use Rattle.json.proofs.Grammar.{value_is, value-begin_object}
use Rattle.serde_json.specs.Data.{Num, Data, number, string, boolean, null, array, object, Members, no_members}
use Rattle.serde_json.specs.Find.{as_object, get, get_member}
use Rattle.serde_json.specs.Read.{number_of, of_json, of_items, of_members, converted, read}
use Rattle.json_spec.specs.Json.{tree_of}
use Rattle.json_spec.proofs.Trees.{tree_of_read, tree_of_none}
use Rattle.rule_spec.specs.declared.rule_kind.RuleKind.{RuleKind}
use Rattle.json_fields.specs.Last.{value_at, members_in, HasTimes}
use Rattle.json_fields.proofs.Times.{mapped, same_first, none_is}
use Rattle.json_fields.proofs.Turns.{converted-array, converted-object, converted_some, whole, whole_read, whole_and_more, whole_refused}
use Rattle.json_fields.specs.declared.tree.Fault.{Fault}
use Rattle.rules_file.specs.declared.listed.Listed.{Listed}
use Rattle.rules_file.specs.Listed.{IsObject, IsNoObject, IsListed, HasTimesIn, is_brace}

-- ---- what begins otherwise

plain : (ts r : List Token) (e d : Data) → ◌≡◌ {A = Option (Data × List Token)} (Some (e, ts)) (Some (d, r)) → as_object e ≡ None → as_object d ≡ None
plain ts r e d same none = ap as_object (sym (same_first e d ts r same)) ∙ none

number_plain : (ts r : List Token) (d : Data) (n : Option Num) → option_map {U = Data × List Token} (λ b. (b, ts)) (option_map number n) ≡ Some (d, r) → as_object d ≡ None
number_plain ts r d None v = absurd (cc)
number_plain ts r d (Some n) v = plain ts r (number n) d v refl

no_object : (a : Parse json.Items) (o : Parse json.Members) (ts r : List Token) (d : Data) → is_brace ts ≡ false → converted of_json (value_with a o ts) ≡ Some (d, r) → as_object d ≡ None
no_object a o [] r d e v = absurd (cc)
no_object a o (Token.begin_object ∷ ts) r d e v = absurd (cc)
no_object a o (Token.end_object ∷ ts) r d e v = absurd (cc)
no_object a o (Token.begin_array ∷ ts) r d e v =
    let list = mapped array (converted of_items (a ts)) d r (sym (converted-array (a ts)) ∙ v) in
    ap as_object list.2
no_object a o (Token.end_array ∷ ts) r d e v = absurd (cc)
no_object a o (Token.key s ∷ ts) r d e v = absurd (cc)
no_object a o (Token.string s ∷ ts) r d e v = plain ts r (string s) d v refl
no_object a o (Token.number s ∷ ts) r d e v = number_plain ts r d (number_of s) v
no_object a o (Token.boolean b ∷ ts) r d e v = plain ts r (boolean b) d v refl
no_object a o (Token.null ∷ ts) r d e v = plain ts r null d v refl
no_object a o (Token.bad ∷ ts) r d e v = absurd (cc)

-- ---- the tree of a text

abbrev or_this : {A : Type 0} → A → Option A → A
or_this a None = a
or_this a (Some b) = b

some_is : (a b : Data) → Some a ≡ Some b → a ≡ b
some_is a b e = ap {A = Option Data} (or_this {A = Data} a) e

-- what a text with a tree is, by its first value
by_rest : (bytes : List ℕ) (d e : Data) (rest : List Token) → IsUtf8 bytes → tree_of bytes ≡ Some d → converted of_json (value 127 (tokens bytes)) ≡ Some (e, rest) → d ≡ e
by_rest bytes d e [] utf8 tree v = some_is d e (sym tree ∙ sym (tree_of_read bytes e utf8 (whole_read (value 127 (tokens bytes)) e v)))
by_rest bytes d e (t ∷ r) utf8 tree v =
    let never : Some d ≡ None = sym tree ∙ sym (tree_of_none bytes (λ _. whole_and_more (value 127 (tokens bytes)) e t r v)) in
    absurd (cc)

opened : (bytes : List ℕ) (ts : List Token) → tokens bytes ≡ Token.begin_object ∷ ts → converted of_json (value 127 (tokens bytes)) ≡ parse_map object (members_in 126 ts)
opened bytes ts opens =
    ap (λ k. converted of_json (value 127 k)) opens ∙ ap (converted of_json) (value-begin_object 127 ts (omega arith)) ∙ converted-object (members (value 126) (length ts) ts)

-- the members behind its brace are those of its tree
pub object_is : (bytes : List ℕ) (ts rest : List Token) (ms : Members) (d : Data) → IsUtf8 bytes → tokens bytes ≡ Token.begin_object ∷ ts → members_in 126 ts ≡ Some (ms, rest) → tree_of bytes ≡ Some d → d ≡ object ms
object_is bytes ts rest ms d utf8 opens are tree = by_rest bytes d (object ms) rest utf8 tree (opened bytes ts opens ∙ ap (parse_map object) are)

pub no_members_none : (bytes : List ℕ) (ts : List Token) → tokens bytes ≡ Token.begin_object ∷ ts → members_in 126 ts ≡ None → IsNoObject bytes
no_members_none bytes ts opens none = λ d is.
    let refused = whole_refused (value 127 (tokens bytes)) (opened bytes ts opens ∙ ap (parse_map object) none) in
    let never : Some d ≡ None = sym is.0 ∙ sym (tree_of_none bytes (λ _. refused)) in
    absurd (cc)

-- a text that begins otherwise is no object
some_or_not : (o : Option Members) → IsSome o → o ≡ None → ⊥
some_or_not None is e = absurd (cc)
some_or_not (Some m) is e = absurd (cc)

first_value : (bytes : List ℕ) (d : Data) (o : Option (Data × List Token)) → converted of_json (value 127 (tokens bytes)) ≡ o → IsUtf8 bytes → tree_of bytes ≡ Some d → (rest : List Token) × (o ≡ Some (d, rest))
first_value bytes d None is utf8 tree =
    let never : Some d ≡ None = sym tree ∙ sym (tree_of_none bytes (λ _. whole_refused (value 127 (tokens bytes)) is)) in
    absurd (cc)
first_value bytes d (Some p) is utf8 tree = (p.1, ap (λ e. Some (e, p.1)) (sym (by_rest bytes d p.0 p.1 utf8 tree is)))

pub no_brace : (bytes : List ℕ) → IsUtf8 bytes → is_brace (tokens bytes) ≡ false → IsNoObject bytes
no_brace bytes utf8 other = λ d is.
    let v = first_value bytes d (converted of_json (value 127 (tokens bytes))) refl utf8 is.0 in
    let none = no_object _ _ (tokens bytes) v.0 d other (sym (ap (converted of_json) (value_is 127 (tokens bytes))) ∙ v.1) in
    some_or_not (as_object d) is.1 none

pub not_utf8 : (bytes : List ℕ) → (IsUtf8 bytes → ⊥) → IsNoObject bytes
not_utf8 bytes bad = λ d is.
    let never : Some d ≡ None = sym is.0 ∙ sym (tree_of_none bytes (λ utf8. absurd (bad utf8))) in
    absurd (cc)

-- ---- what stands at a name

behind_is : (kind : RuleKind) (name : List ℕ) (ms : Members) (d : Data) (rose : Type 0) (listed : Listed) → d ≡ object ms → IsListed kind (get_member name ms) rose listed → IsListed kind (get name d) rose listed
behind_is kind name ms d rose listed same h = subst (λ e. IsListed kind (get name e) rose listed) (sym same) h

pub listed_is : (kind : RuleKind) (bytes name : List ℕ) (ts rest : List Token) (ms : Members) (rose : Type 0) (listed : Listed) → IsUtf8 bytes → tokens bytes ≡ Token.begin_object ∷ ts → members_in 126 ts ≡ Some (ms, rest)
    → IsListed kind (get_member name ms) rose listed → (d : Data) → IsObject bytes d → IsListed kind (get name d) rose listed
listed_is kind bytes name ts rest ms rose listed utf8 opens are h = λ d is. behind_is kind name ms d rose listed (object_is bytes ts rest ms d utf8 opens are is.0) h

absent_by : (bytes name : List ℕ) (has : HasTimesIn bytes name 0) (d : Data) (o : Option (Members × List Token)) → IsObject bytes d → members_in 126 has.behind ≡ o → get name d ≡ None
absent_by bytes name has d None is e = absurd (no_members_none bytes has.behind has.opens e d is)
absent_by bytes name has d (Some p) is e =
    ap (get name) (object_is bytes has.behind p.1 p.0 d has.utf8 has.opens e is.0) ∙ none_is 126 name has.behind p.1 p.0 has.times e

-- where no member has the name, none is found
pub absent_is : (bytes name : List ℕ) → HasTimesIn bytes name 0 → (d : Data) → IsObject bytes d → get name d ≡ None
absent_is bytes name has = λ d is. absent_by bytes name has d (members_in 126 has.behind) is refl

tail_is : (a : Token) (ts rs : List Token) → a ∷ ts ≡ a ∷ rs → ts ≡ rs
tail_is a ts rs e = ap (drop 1) e

-- the tokens behind the brace are those that were counted
pub times_behind : (bytes name : List ℕ) (n : ℕ) (ts : List Token) → HasTimesIn bytes name n → tokens bytes ≡ Token.begin_object ∷ ts → HasTimes 126 name ts n
times_behind bytes name n ts has opens = subst (λ k. HasTimes 126 name k n) (tail_is Token.begin_object has.behind ts (sym has.opens ∙ opens)) has.times

pub listed_all : (kind : RuleKind) (bytes name : List ℕ) (ts rest : List Token) (rose : Type 0) (result : Result Listed Fault) → IsUtf8 bytes → tokens bytes ≡ Token.begin_object ∷ ts
    → IfOk result (λ listed. (ms : Members) × (members_in 126 ts ≡ Some (ms, rest)) × IsListed kind (get_member name ms) rose listed)
    → IfOk result (λ listed. (d : Data) → IsObject bytes d → IsListed kind (get name d) rose listed)
listed_all kind bytes name ts rest rose (Ok listed) utf8 opens h = listed_is kind bytes name ts rest h.0 rose listed utf8 opens h.1 h.2
listed_all kind bytes name ts rest rose (Err fault) utf8 opens h = tt
