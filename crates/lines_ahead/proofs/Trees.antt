-- Where no string of a text is a word, its tree has nothing at the word, and the word at no key.
use Rattle.std.proofs.Common.{◌≡◌, ◌≢◌, ℕ, List, [], ◌∷◌, Bool, true, false, Option, Some, None, option_map, option_and_then, refl, sym, ◌∙◌, subst, ⊎_elim}
use Rattle.std.specs.Prelude.{IfSome, if◌then◌else◌}
use Rattle.std.specs.Str.{is_utf8, bytes_eq}
use Rattle.std.proofs.lemmas.Bool.{cases_Bool, true≢false}
use Rattle.std.proofs.lemmas.Slice.Eq.{bytes_eq-Decides}
use Rattle.json.specs.Token.{Token}
use Rattle.json.specs.Lex.{fresh, between, lex, tokens}
use Rattle.json.specs.Json as json
use Rattle.json.specs.Json.{value, if_last}
use Rattle.serde_json.specs.Data as tree
use Rattle.serde_json.specs.Data.{Data, Members, no_members, put}
use Rattle.serde_json.specs.Find.{get, get_member}
use Rattle.serde_json.specs.Read.{number_of, of_json, of_items, of_members, max_depth}
use Rattle.serde_json.proofs.Views.{get_member-put, get_member-put_other}
use Rattle.json_spec.specs.Json.{tree_of}
use Rattle.lines_ahead.specs.Plain.{HasNoString}
use Rattle.lines_ahead.proofs.Bytes.{free_of, lexed_other}
use Rattle.lines_ahead.proofs.Keys.{IsOtherValue, LackWord, LacksWord, Leaves, punctuated_none, value_leaves}

-- nothing stands at the word, and the word at no key, in a tree and in members
abbrev pub HasNone : List ℕ → Data → Type 0
HasNone w d = (get w d ≡ None) × ((key : List ℕ) → get key d ≢ Some (tree.string w))

abbrev HoldNone : List ℕ → Members → Type 0
HoldNone w ms = (get_member w ms ≡ None) × ((key : List ℕ) → get_member key ms ≢ Some (tree.string w))

-- what holds of each value that may come, holds of the one that comes
then_some : {A B : Type 0} (P : A → Type 0) (Q : B → Type 0) (f : A → Option B) (o : Option A) → ((a : A) → P a → IfSome (f a) Q) → IfSome o P → IfSome (option_and_then f o) Q
then_some P Q f None each h = tt
then_some P Q f (Some a) each h = each a h

map_some : {A B : Type 0} (P : A → Type 0) (Q : B → Type 0) (f : A → B) (o : Option A) → ((a : A) → P a → Q (f a)) → IfSome o P → IfSome (option_map f o) Q
map_some P Q f None keeps h = tt
map_some P Q f (Some a) keeps h = keeps a h

each_some : {A : Type 0} (P : A → Type 0) (o : Option A) → ((a : A) → P a) → IfSome o P
each_some P None each = tt
each_some P (Some a) each = each a

-- what stands at a key besides other members is what was put there, or stood there
put_other : (w k key : List ℕ) (d : Data) (found : Members) → d ≢ tree.string w → get_member key found ≢ Some (tree.string w) → get_member key (put k d found) ≢ Some (tree.string w)
put_other w k key d found other before is =
    ⊎_elim
    (λ (same : bytes_eq key k ≡ true).
    let here : get_member k (put k d found) ≡ Some (tree.string w) = subst (λ (l : List ℕ). get_member l (put k d found) ≡ Some (tree.string w)) ((bytes_eq-Decides key k).0 same) is in
    let put_is : Some d ≡ Some (tree.string w) = sym (get_member-put k d found) ∙ here in
    let word : d ≡ tree.string w = cc in
    other word)
    (λ (apart : bytes_eq key k ≡ false). before (sym (get_member-put_other key k d found (λ same. true≢false (sym ((bytes_eq-Decides key k).1 same) ∙ apart))) ∙ is))
    (cases_Bool (bytes_eq key k))

put_none : (w k : List ℕ) (d : Data) (found : Members) → k ≢ w → d ≢ tree.string w → HoldNone w found → HoldNone w (put k d found)
put_none w k d found apart other none = (get_member-put_other w k d found (λ is. apart (sym is)) ∙ none.0, λ key. put_other w k key d found other (none.1 key))

-- a value that is not the word is converted to none
value_other : (w : List ℕ) (j : json.Json) → IsOtherValue w j → IfSome (of_json j) (λ d. d ≢ tree.string w)
value_other w json.null other = λ is. absurd (cc is)
value_other w (json.boolean b) other = λ is. absurd (cc is)
value_other w (json.number s) other = map_some (λ n. Unit {0}) (λ d. d ≢ tree.string w) tree.number (number_of s) (λ n h is. absurd (cc is)) (each_some _ (number_of s) (λ n. tt))
value_other w (json.string s) other = λ is. other (cc is)
value_other w (json.array js) other = map_some (λ ds. Unit {0}) (λ d. d ≢ tree.string w) tree.array (of_items js) (λ ds h is. absurd (cc is)) (each_some _ (of_items js) (λ ds. tt))
value_other w (json.object ms) other = map_some (λ all. Unit {0}) (λ d. d ≢ tree.string w) tree.object (of_members ms no_members) (λ all h is. absurd (cc is)) (each_some _ (of_members ms no_members) (λ all. tt))

members_have_none : (w : List ℕ) (ms : json.Members) (found : Members) → LackWord w ms → HoldNone w found → IfSome (of_members ms found) (HoldNone w)
members_have_none w json.no_members found lack none = none
members_have_none w (json.member k j ms) found lack none =
    then_some (λ (d : Data). d ≢ tree.string w) (HoldNone w) _ (of_json j) (λ d other. members_have_none w ms (put k d found) lack.2 (put_none w k d found lack.0 other none)) (value_other w j lack.1)

-- nothing stands in a value that is no object
holds_nothing : (w : List ℕ) (d : Data) → ((key : List ℕ) → get key d ≡ None) → HasNone w d
holds_nothing w d none = (none w, λ key is. let never : None ≡ Some (tree.string w) = sym (none key) ∙ is in absurd (cc never))

tree_has_none : (w : List ℕ) (j : json.Json) → LacksWord w j → IfSome (of_json j) (HasNone w)
tree_has_none w json.null lacks = holds_nothing w tree.null (λ key. refl)
tree_has_none w (json.boolean b) lacks = holds_nothing w (tree.boolean b) (λ key. refl)
tree_has_none w (json.number s) lacks = map_some (λ n. Unit {0}) (HasNone w) tree.number (number_of s) (λ n h. holds_nothing w (tree.number n) (λ key. refl)) (each_some _ (number_of s) (λ n. tt))
tree_has_none w (json.string s) lacks = holds_nothing w (tree.string s) (λ key. refl)
tree_has_none w (json.array js) lacks = map_some (λ ds. Unit {0}) (HasNone w) tree.array (of_items js) (λ ds h. holds_nothing w (tree.array ds) (λ key. refl)) (each_some _ (of_items js) (λ ds. tt))
tree_has_none w (json.object ms) lacks =
    map_some (HoldNone w) (HasNone w) tree.object (of_members ms no_members) (λ all h. h) (members_have_none w ms no_members lacks (refl, λ key is. absurd (cc is)))

-- the same of what was read to its end
whole_has_none : (w : List ℕ) (read : Option (json.Json × List Token)) → Leaves w (LacksWord w) read → IfSome (option_and_then of_json (option_and_then (λ p. if_last p.0 p.1) read)) (HasNone w)
whole_has_none w None leaves = tt
whole_has_none w (Some (j, [])) leaves = tree_has_none w j leaves.0
whole_has_none w (Some (j, t ∷ ts)) leaves = tt

-- the same where the bytes may be no text
if_text : (w : List ℕ) (b : Bool) (o : Option Data) → IfSome o (HasNone w) → IfSome (if b then o else None) (HasNone w)
if_text w true o h = h
if_text w false o h = tt

pub text_has_none : (w bytes : List ℕ) → HasNoString w bytes → IfSome (tree_of bytes) (HasNone w)
text_has_none w bytes none =
    if_text w (is_utf8 bytes) _
    (whole_has_none w (value max_depth (tokens bytes)) (value_leaves w max_depth (tokens bytes) (punctuated_none w fresh (lex between bytes) (lexed_other w between bytes (free_of w bytes none)))))
