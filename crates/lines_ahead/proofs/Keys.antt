-- Where no string of a text is a word, the object that the text is has no member at the word, and the word at none.
use Rattle.std.proofs.Common.{◌≡◌, ◌≢◌, ℕ, zero, suc, List, [], ◌∷◌, length, Bool, true, false, Option, Some, None, option_and_then, refl, subst}
use Rattle.json.specs.Token.{Token}
use Rattle.json.specs.Lex.{Lexeme, token, comma, colon, Place, fresh, after_value, after_comma, after_key, begins_colon, may_begin, may_close, if_allowed, place_token, punctuate}
use Rattle.json.specs.Json as json
use Rattle.json.specs.Json.{Parse, parse_map, after_end_array, read_key, items_step, members_step, items, members, value_with, value}
use Rattle.json.proofs.Grammar.{closed_array, read_key_is}
use Rattle.lines_ahead.proofs.Bytes.{IsOther, AreOther}

-- ---- tokens

-- none of the tokens is the word
abbrev pub HaveNone : List ℕ → List Token → Type 0
HaveNone w [] = Unit {0}
HaveNone w (t ∷ ts) = IsOther w t × HaveNone w ts

-- a token that may stand here, and what follows it
allowed_none : (w : List ℕ) (b : Bool) (t : Token) (more : Place → List Token) (next : Place) → IsOther w t → HaveNone w (more next) → HaveNone w (if_allowed b t more next)
allowed_none w true t more next other rest = (other, rest)
allowed_none w false t more next other rest = (tt, tt)

-- a token at its place: a string before a colon is a key
placed_none : (w : List ℕ) (p : Place) (t : Token) (before_colon : Bool) (more : Place → List Token) → IsOther w t → ((next : Place) → HaveNone w (more next)) → HaveNone w (place_token p t before_colon more)
placed_none w p Token.begin_object before_colon more other rest = allowed_none w (may_begin p) Token.begin_object more fresh tt (rest fresh)
placed_none w p Token.end_object before_colon more other rest = allowed_none w (may_close p) Token.end_object more after_value tt (rest after_value)
placed_none w p Token.begin_array before_colon more other rest = allowed_none w (may_begin p) Token.begin_array more fresh tt (rest fresh)
placed_none w p Token.end_array before_colon more other rest = allowed_none w (may_close p) Token.end_array more after_value tt (rest after_value)
placed_none w p (Token.key s) before_colon more other rest = (tt, tt)
placed_none w p (Token.string s) true more other rest = allowed_none w (may_begin p) (Token.key s) more after_key other (rest after_key)
placed_none w p (Token.string s) false more other rest = allowed_none w (may_begin p) (Token.string s) more after_value other (rest after_value)
placed_none w p (Token.number s) before_colon more other rest = allowed_none w (may_begin p) (Token.number s) more after_value tt (rest after_value)
placed_none w p (Token.boolean b) before_colon more other rest = allowed_none w (may_begin p) (Token.boolean b) more after_value tt (rest after_value)
placed_none w p Token.null before_colon more other rest = allowed_none w (may_begin p) Token.null more after_value tt (rest after_value)
placed_none w p Token.bad before_colon more other rest = (tt, tt)

-- where no string is the word, no key is
pub punctuated_none : (w : List ℕ) (p : Place) (ls : List Lexeme) → AreOther w ls → HaveNone w (punctuate p ls)
unfolding punctuate
punctuated_none w fresh [] others = tt
punctuated_none w after_value [] others = tt
punctuated_none w after_comma [] others = (tt, tt)
punctuated_none w after_key [] others = (tt, tt)
punctuated_none w fresh (token t ∷ ls) others = placed_none w fresh t (begins_colon ls) _ others.0 (λ next. punctuated_none w next ls others.1)
punctuated_none w after_value (token t ∷ ls) others = placed_none w after_value t (begins_colon ls) _ others.0 (λ next. punctuated_none w next ls others.1)
punctuated_none w after_comma (token t ∷ ls) others = placed_none w after_comma t (begins_colon ls) _ others.0 (λ next. punctuated_none w next ls others.1)
punctuated_none w after_key (token t ∷ ls) others = placed_none w after_key t (begins_colon ls) _ others.0 (λ next. punctuated_none w next ls others.1)
punctuated_none w fresh (comma ∷ ls) others = (tt, tt)
punctuated_none w after_value (comma ∷ ls) others = punctuated_none w after_comma ls others.1
punctuated_none w after_comma (comma ∷ ls) others = (tt, tt)
punctuated_none w after_key (comma ∷ ls) others = (tt, tt)
punctuated_none w fresh (colon ∷ ls) others = (tt, tt)
punctuated_none w after_value (colon ∷ ls) others = (tt, tt)
punctuated_none w after_comma (colon ∷ ls) others = (tt, tt)
punctuated_none w after_key (colon ∷ ls) others = punctuated_none w fresh ls others.1

-- ---- values

-- it is no string that is the word
abbrev pub IsOtherValue : List ℕ → json.Json → Type 0
IsOtherValue w json.null = Unit {0}
IsOtherValue w (json.boolean b) = Unit {0}
IsOtherValue w (json.number s) = Unit {0}
IsOtherValue w (json.string s) = s ≢ w
IsOtherValue w (json.array js) = Unit {0}
IsOtherValue w (json.object ms) = Unit {0}

-- no member is at the word, and the word at none
abbrev pub LackWord : List ℕ → json.Members → Type 0
LackWord w json.no_members = Unit {0}
LackWord w (json.member k j ms) = (k ≢ w) × IsOtherValue w j × LackWord w ms

-- it is neither the word nor an object with such a member; of what it holds further in nothing is said
abbrev pub LacksWord : List ℕ → json.Json → Type 0
LacksWord w json.null = Unit {0}
LacksWord w (json.boolean b) = Unit {0}
LacksWord w (json.number s) = Unit {0}
LacksWord w (json.string s) = s ≢ w
LacksWord w (json.array js) = Unit {0}
LacksWord w (json.object ms) = LackWord w ms

other_value : (w : List ℕ) (j : json.Json) → LacksWord w j → IsOtherValue w j
other_value w json.null lacks = tt
other_value w (json.boolean b) lacks = tt
other_value w (json.number s) lacks = tt
other_value w (json.string s) lacks = lacks
other_value w (json.array js) lacks = tt
other_value w (json.object ms) lacks = tt

-- what was read, if any, has P, and none of the tokens that are left is the word
abbrev pub Leaves : {A : Type 0} → List ℕ → (A → Type 0) → Option (A × List Token) → Type 0
Leaves w P None = Unit {0}
Leaves w P (Some read) = P read.0 × HaveNone w read.1

-- whatever was read
abbrev Anything : {A : Type 0} → A → Type 0
Anything a = Unit {0}

-- what was read, in another form
map_leaves : {A B : Type 0} (w : List ℕ) (P : A → Type 0) (Q : B → Type 0) (f : A → B) (read : Option (A × List Token)) → ((a : A) → P a → Q (f a)) → Leaves w P read → Leaves w Q (parse_map f read)
map_leaves w P Q f None keeps leaves = tt
map_leaves w P Q f (Some read) keeps leaves = (keeps read.0 leaves.0, leaves.1)

-- a value, and more behind it
then_leaves : {B : Type 0} (w : List ℕ) (Q : B → Type 0) (f : json.Json → B → B) (more : Parse B) (read : Option (json.Json × List Token)) → ((j : json.Json) (b : B) → LacksWord w j → Q b → Q (f j b))
    → ((ts : List Token) → HaveNone w ts → Leaves w Q (more ts)) → Leaves w (LacksWord w) read → Leaves w Q (option_and_then (λ p. parse_map (f p.0) (more p.1)) read)
then_leaves w Q f more None keeps again leaves = tt
then_leaves w Q f more (Some read) keeps again leaves = map_leaves w Q Q (f read.0) (more read.1) (λ b. keeps read.0 b leaves.0) (again read.1 leaves.1)

module _ (w : List ℕ) (inner : Parse json.Json) (inner_leaves : (ts : List Token) → HaveNone w ts → Leaves w (LacksWord w) (inner ts)) where
  -- one turn of the list, and all turns: it ends behind its bracket, or goes on behind an item
  item_leaves : (more : Parse json.Items) (ts : List Token) (closed : Option (List Token)) → ((rest : List Token) → HaveNone w rest → Leaves w Anything (more rest)) → after_end_array ts ≡ closed → HaveNone w ts
      → Leaves w Anything (items_step inner more ts closed)
  item_leaves more ts (Some rest) again is none = (tt, (subst (HaveNone w) (closed_array ts rest is) none).1)
  item_leaves more ts None again is none = then_leaves w Anything json.item more (inner ts) (λ j js lacks h. tt) again (inner_leaves ts none)

  items_leave : (n : ℕ) (ts : List Token) → HaveNone w ts → Leaves w Anything (items inner n ts)
  unfolding items
  items_leave zero ts none = tt
  items_leave (suc n) ts none = item_leaves (items inner n) ts (after_end_array ts) (items_leave n) refl none

  -- one turn of the object, and all turns: its key is a token of it
  member_leaves : (more : Parse json.Members) (ts : List Token) (key : Option (Option (List ℕ) × List Token)) → ((rest : List Token) → HaveNone w rest → Leaves w (LackWord w) (more rest)) → read_key ts ≡ key → HaveNone w ts
      → Leaves w (LackWord w) (option_and_then (λ p. members_step inner more p.0 p.1) key)
  member_leaves more ts None again is none = tt
  member_leaves more ts (Some (None, rest)) again is none = (tt, (subst (HaveNone w) (read_key_is ts None rest is) none).1)
  member_leaves more ts (Some (Some k, rest)) again is none =
      let apart = subst (HaveNone w) (read_key_is ts (Some k) rest is) none in
      then_leaves w (LackWord w) (json.member k) more (inner rest) (λ j ms lacks h. (apart.0, other_value w j lacks, h)) again (inner_leaves rest apart.1)

  members_leave : (n : ℕ) (ts : List Token) → HaveNone w ts → Leaves w (LackWord w) (members inner n ts)
  unfolding members
  members_leave zero ts none = tt
  members_leave (suc n) ts none = member_leaves (members inner n) ts (read_key ts) (members_leave n) refl none

-- a value, where the lists and the objects within are known to do so
value_with_leaves : (w : List ℕ) (list : Parse json.Items) (members : Parse json.Members) → ((ts : List Token) → HaveNone w ts → Leaves w Anything (list ts)) → ((ts : List Token) → HaveNone w ts → Leaves w (LackWord w) (members ts))
    → (ts : List Token) → HaveNone w ts → Leaves w (LacksWord w) (value_with list members ts)
value_with_leaves w list members list_leaves members_leaves [] none = tt
value_with_leaves w list members list_leaves members_leaves (Token.begin_object ∷ ts) none = map_leaves w (LackWord w) (LacksWord w) json.object (members ts) (λ ms h. h) (members_leaves ts none.1)
value_with_leaves w list members list_leaves members_leaves (Token.end_object ∷ ts) none = tt
value_with_leaves w list members list_leaves members_leaves (Token.begin_array ∷ ts) none = map_leaves w Anything (LacksWord w) json.array (list ts) (λ js h. tt) (list_leaves ts none.1)
value_with_leaves w list members list_leaves members_leaves (Token.end_array ∷ ts) none = tt
value_with_leaves w list members list_leaves members_leaves (Token.key s ∷ ts) none = tt
value_with_leaves w list members list_leaves members_leaves (Token.string s ∷ ts) none = (none.0, none.1)
value_with_leaves w list members list_leaves members_leaves (Token.number s ∷ ts) none = (tt, none.1)
value_with_leaves w list members list_leaves members_leaves (Token.boolean b ∷ ts) none = (tt, none.1)
value_with_leaves w list members list_leaves members_leaves (Token.null ∷ ts) none = (tt, none.1)
value_with_leaves w list members list_leaves members_leaves (Token.bad ∷ ts) none = tt

-- a value that is read from tokens of which none is the word lacks it
pub value_leaves : (w : List ℕ) (depth : ℕ) (ts : List Token) → HaveNone w ts → Leaves w (LacksWord w) (value depth ts)
unfolding value
value_leaves w zero = value_with_leaves w (λ ts. None) (λ ts. None) (λ ts none. tt) (λ ts none. tt)
value_leaves w (suc depth) =
    value_with_leaves w (λ ts. items (value depth) (length ts) ts) (λ ts. members (value depth) (length ts) ts) (λ ts. items_leave w (value depth) (value_leaves w depth) (length ts) ts)
    (λ ts. members_leave w (value depth) (value_leaves w depth) (length ts) ts)
