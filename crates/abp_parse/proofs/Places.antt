-- Where the options of a filter begin, read from the end.
use Rattle.std.proofs.Common.{◌≡◌, ◌≢◌, ◌<◌, ◌≤◌, ◌+◌, ℕ, zero, suc, List, [], ◌∷◌, length, drop, get_or, Bool, true, false, cond, ◌&&◌, ◌==◌, nat_lt, refl, sym, ap, ◌∙◌, subst, ⊎_elim, arith, ne_eqb, Option, Some, None, not, lt-ltb, eq-eqb, is_some}
use Rattle.std.specs.Prelude.{IfSome, option_map}
use Rattle.std.specs.List.{list_all, onto_first, position_or_len}
use Rattle.std.proofs.lemmas.Bool.{cases_Bool, cond-true, cond-false, le-ltb, eqb-true, eqb-false, ltb-true, ltb-false}
use Rattle.std.proofs.Math.Bool.{and-true, and-false}
use Rattle.std.proofs.lemmas.List.{drop_more}
use Rattle.std.proofs.Math.Seq.{drop-length}
use Rattle.memchr.specs.Find.{IsFirstByte, is_byte}
use Rattle.list_spec.specs.Pieces.{pieces_of, before_place}
use Rattle.list_spec.specs.Options.{is_name_byte, is_option, is_option_list, equals_place, options_place}
use Rattle.abp_parse.specs.declared.place.Rest.{Rest}
use Rattle.abp_parse.specs.Rest.{before, rest_of}

-- ---- names

abbrev is_equals : ℕ → Bool
is_equals b = b == 61

-- what stands before the first `=`
abbrev name_part : List ℕ → List ℕ
name_part text = before_place (equals_place text) text

abbrev place_in : ℕ → List ℕ → Option ℕ
place_in n text = cond (nat_lt n (length text)) (Some n) None

name_part-cons : (b : ℕ) (text : List ℕ) → is_equals b ≡ false → name_part (b ∷ text) ≡ b ∷ name_part text
name_part-cons b text other =
    let n : ℕ = position_or_len is_equals text in
    let next : 1 + n ≡ suc n = omega arith in
    ap (λ (m : ℕ). before_place (place_in m (b ∷ text)) (b ∷ text)) (cond-true (not (is_equals b)) (1 + n) 0 (ap not other) ∙ next)
    ∙ ⊎_elim
    (λ inside.
    let less : n < length text = ltb-true n (length text) inside in
    let more : suc n < length (b ∷ text) = omega arith in
    ap (λ (o : Option ℕ). before_place o (b ∷ text)) (cond-true (nat_lt (suc n) (length (b ∷ text))) (Some (suc n)) None (lt-ltb (suc n) (length (b ∷ text)) more))
    ∙ ap (λ (o : Option ℕ). b ∷ before_place o text) (sym (cond-true (nat_lt n (length text)) (Some n) None inside)))
    (λ past.
    let beyond : length text ≤ n = ltb-false n (length text) past in
    let more : length (b ∷ text) ≤ suc n = omega arith in
    ap (λ (o : Option ℕ). before_place o (b ∷ text)) (cond-false (nat_lt (suc n) (length (b ∷ text))) (Some (suc n)) None (le-ltb (suc n) (length (b ∷ text)) more))
    ∙ ap (λ (o : Option ℕ). b ∷ before_place o text) (sym (cond-false (nat_lt n (length text)) (Some n) None past)))
    (cases_Bool (nat_lt n (length text)))

abbrev runs : List ℕ → Bool
runs piece = list_all is_name_byte (name_part piece)

abbrev begins : List ℕ → Bool
begins piece = nat_lt 0 (length (name_part piece)) && runs piece

runs-cons : (b : ℕ) (piece : List ℕ) → is_equals b ≡ false → runs (b ∷ piece) ≡ (is_name_byte b && runs piece)
runs-cons b piece other = ap (list_all is_name_byte) (name_part-cons b piece other)

begins-cons : (b : ℕ) (piece : List ℕ) → is_equals b ≡ false → begins (b ∷ piece) ≡ (is_name_byte b && runs piece)
begins-cons b piece other =
    let some : 0 < length (b ∷ name_part piece) = omega arith in
    ap (λ (name : List ℕ). nat_lt 0 (length name) && list_all is_name_byte name) (name_part-cons b piece other)
    ∙ ap (λ t. t && (is_name_byte b && runs piece)) (lt-ltb 0 (length (b ∷ name_part piece)) some)

option-cons : (b : ℕ) (piece : List ℕ) → 126 ≢ b → is_option (b ∷ piece) ≡ begins (b ∷ piece)
option-cons b piece other = rw (ne_eqb 126 b other) refl

-- ---- what the rest from a place on may be

abbrev is_comma : ℕ → Bool
is_comma b = b == 44

-- the rest, whose first piece is this one, behind which these stand
record IsTold (rest : Rest) (first : List ℕ) (later : List (List ℕ)) : Type 0 where
  value : rest.value ≡ list_all is_option later
  name : rest.name ≡ (runs first && list_all is_option later)
  named : rest.named ≡ (begins first && list_all is_option later)
  options : rest.options ≡ (is_option first && list_all is_option later)

abbrev Told : Rest → List (List ℕ) → Type 0
Told rest [] = ⊥
Told rest (first ∷ later) = IsTold rest first later

before_piece : (n i r a : Bool) → n ≡ (r && a) → (n && i) ≡ ((i && r) && a)
before_piece n true r a e = and-true n ∙ e
before_piece n false r a e = and-false n

abbrev cut_before : ℕ → List (List ℕ) → List (List ℕ)
cut_before b pieces = cond (is_comma b) ([] ∷ pieces) (onto_first b pieces)

plain_byte : (b : ℕ) (rest : Rest) (first : List ℕ) (later : List (List ℕ)) → b ≢ 44 → b ≢ 61 → b ≢ 126 → 126 ≢ b → IsTold rest first later → Told (before b rest) (cut_before b (first ∷ later))
plain_byte b rest first later comma equals tilde swapped told =
    rw (ne_eqb b 44 comma, ne_eqb b 61 equals, ne_eqb b 126 tilde) (record {
      value = told.value;
      name = before_piece rest.name (is_name_byte b) (runs first) (list_all is_option later) told.name ∙ ap (λ t. t && list_all is_option later) (sym (runs-cons b first (ne_eqb b 61 equals)));
      named = before_piece rest.name (is_name_byte b) (runs first) (list_all is_option later) told.name ∙ ap (λ t. t && list_all is_option later) (sym (begins-cons b first (ne_eqb b 61 equals)));
      options = before_piece rest.name (is_name_byte b) (runs first) (list_all is_option later) told.name ∙ ap (λ t. t && list_all is_option later) (sym (option-cons b first swapped ∙ begins-cons b first (ne_eqb b 61 equals)));
    })

tilde_byte : (rest : Rest) (first : List ℕ) (later : List (List ℕ)) → IsTold rest first later → Told (before 126 rest) (cut_before 126 (first ∷ later))
tilde_byte rest first later told = record {
  value = told.value;
  name = ap (λ t. t && list_all is_option later) (sym (runs-cons 126 first refl));
  named = ap (λ t. t && list_all is_option later) (sym (begins-cons 126 first refl));
  options = told.named;
}

name_part-equals : (text : List ℕ) → name_part (61 ∷ text) ≡ []
name_part-equals text =
    let some : 0 < length (61 ∷ text) = omega arith in
    ap (λ (o : Option ℕ). before_place o (61 ∷ text)) (cond-true (nat_lt 0 (length (61 ∷ text))) (Some 0) None (lt-ltb 0 (length (61 ∷ text)) some))

equals_byte : (rest : Rest) (first : List ℕ) (later : List (List ℕ)) → IsTold rest first later → Told (before 61 rest) (cut_before 61 (first ∷ later))
equals_byte rest first later told =
    let none = sym (name_part-equals first) in
    record {
      value = told.value;
      name = told.value ∙ ap (λ (name : List ℕ). list_all is_name_byte name && list_all is_option later) none;
      named = ap (λ (name : List ℕ). (nat_lt 0 (length name) && list_all is_name_byte name) && list_all is_option later) none;
      options = ap (λ (name : List ℕ). (nat_lt 0 (length name) && list_all is_name_byte name) && list_all is_option later) none;
    }

comma_byte : (rest : Rest) (first : List ℕ) (later : List (List ℕ)) → IsTold rest first later → Told (before 44 rest) (cut_before 44 (first ∷ later))
comma_byte rest first later told = record { value = told.options; name = told.options; named = refl; options = refl }

step : (b : ℕ) (rest : Rest) (pieces : List (List ℕ)) → Told rest pieces → Told (before b rest) (cut_before b pieces)
step b rest [] told = absurd told
step b rest (first ∷ later) told =
    let P : ℕ → Type 0 = λ c. Told (before c rest) (cut_before c (first ∷ later)) in
    ⊎_elim
    (λ comma. subst P (sym (eqb-true b 44 comma)) (comma_byte rest first later told))
    (λ no_comma. ⊎_elim
    (λ equals. subst P (sym (eqb-true b 61 equals)) (equals_byte rest first later told))
    (λ no_equals. ⊎_elim
    (λ tilde. subst P (sym (eqb-true b 126 tilde)) (tilde_byte rest first later told))
    (λ no_tilde.
    plain_byte b rest first later (eqb-false b 44 no_comma) (eqb-false b 61 no_equals) (eqb-false b 126 no_tilde) (λ e. eqb-false b 126 no_tilde (sym e)) told)
    (cases_Bool (b == 126)))
    (cases_Bool (b == 61)))
    (cases_Bool (b == 44))

told : (text : List ℕ) → Told (rest_of text) (pieces_of 44 text)
told [] = record { value = refl; name = refl; named = refl; options = refl }
told (b ∷ text) = step b (rest_of text) (pieces_of 44 text) (told text)

options_told : (rest : Rest) (pieces : List (List ℕ)) → Told rest pieces → rest.options ≡ list_all is_option pieces
options_told rest [] h = absurd h
options_told rest (first ∷ later) h = h.options

-- ---- the place

-- a place that is counted from an earlier one
abbrev pub further : ℕ → Option ℕ → Option ℕ
further i None = None
further i (Some k) = Some (k + i)

moved : (i : ℕ) (o : Option ℕ) → further i (option_map suc o) ≡ further (i + 1) o
moved i None = refl
moved i (Some k) = let e : suc k + i ≡ k + (i + 1) = omega arith in ap Some e

here : (i : ℕ) (t : Bool) (o : Option ℕ) → further i (cond t (Some 0) (option_map suc o)) ≡ cond t (Some i) (further (i + 1) o)
here i true o = let e : 0 + i ≡ i = omega arith in ap Some e
here i false o = moved i o

-- what is known behind a place, of the text that is left
pub record IsLeft (text : List ℕ) (i : ℕ) (rest : Rest) (place : Option ℕ) : Type 0 where
  pub within : i ≤ length text
  pub rest_is : rest ≡ rest_of (drop i text)
  pub place_is : place ≡ further i (options_place (drop i text))

step_left : (text : List ℕ) (i : ℕ) (rest : Rest) (later : Option ℕ) → i < length text → IsLeft text (i + 1) rest later
    → IsLeft text i (before (get_or text i 0) rest) (cond (get_or text i 0 == 36 && rest.options) (Some i) later)
step_left text i rest later less left =
    let behind : List ℕ = drop (i + 1) text in
    record {
      within = omega arith;
      rest_is = ap (before (get_or text i 0)) left.rest_is ∙ ap rest_of (sym (drop_more text i 0 less));
      place_is =
          ap (λ (r : Rest). cond (get_or text i 0 == 36 && r.options) (Some i) later) left.rest_is
          ∙ ap (λ (t : Bool). cond (get_or text i 0 == 36 && t) (Some i) later) (options_told (rest_of behind) (pieces_of 44 behind) (told behind))
          ∙ ap (cond (get_or text i 0 == 36 && is_option_list behind) (Some i)) left.place_is
          ∙ sym (here i (get_or text i 0 == 36 && is_option_list behind) (options_place behind))
          ∙ ap (λ (l : List ℕ). further i (options_place l)) (sym (drop_more text i 0 less));
    }

pub before_left : (text : List ℕ) (i j : ℕ) (rest : Rest) (later : Option ℕ) → j ≡ i + 1 → i < length text → IsLeft text j rest later
    → IsLeft text i (before (get_or text i 0) rest) (cond (get_or text i 0 == 36 && rest.options) (Some i) later)
before_left text i j rest later e less left = step_left text i rest later less (subst (λ (n : ℕ). IsLeft text n rest later) e left)

same_place : (o : Option ℕ) → further 0 o ≡ o
same_place None = refl
same_place (Some k) = let e : k + 0 ≡ k = omega arith in ap Some e

pub none_before : (text : List ℕ) (i : ℕ) (rest : Rest) (place : Option ℕ) → i ≤ 0 → IsLeft text i rest place → place ≡ options_place text
none_before text i rest place low left =
    let e : i ≡ 0 = omega arith in
    left.place_is ∙ ap (λ (n : ℕ). further n (options_place (drop n text))) e ∙ same_place (options_place text)

pub at_end : (text : List ℕ) → IsLeft text (length text) (rest_of []) None
at_end text = record {
  within = omega arith;
  rest_is = ap rest_of (sym (drop-length text));
  place_is = ap (λ (l : List ℕ). further (length text) (options_place l)) (sym (drop-length text));
}

-- without a `$` there are no options
pub no_dollar : (text : List ℕ) → ((k : ℕ) → k < length text → get_or text k 0 ≢ 36) → options_place text ≡ None
no_dollar [] others = refl
no_dollar (b ∷ text) others =
    ap (λ (t : Bool). cond (t && is_option_list text) (Some 0) (option_map suc (options_place text))) (ne_eqb b 36 (others zero (omega arith)))
    ∙ ap (option_map suc) (no_dollar text (λ k less. others (suc k) (omega arith)))

pub no_dollar_told : (text : List ℕ) (place : Option ℕ) → IsFirstByte (is_byte 36) text place → is_some place ≡ false → options_place text ≡ None
no_dollar_told text None none e = no_dollar text (λ k less e. none k (omega arith) less (eq-eqb (get_or text k 0) 36 e))
no_dollar_told text (Some place) first e = cc

within_more : (n : ℕ) (t : Bool) (o : Option ℕ) → 0 < n → IfSome o (λ place. suc place < n) → IfSome (cond t (Some 0) (option_map suc o)) (λ place. place < n)
within_more n true o some within = some
within_more n false None some within = tt
within_more n false (Some place) some within = within

further_within : (n : ℕ) (o : Option ℕ) → IfSome o (λ place. place < n) → IfSome o (λ place. suc place < suc n)
further_within n None within = tt
further_within n (Some place) within = omega arith

pub options_within : (text : List ℕ) → IfSome (options_place text) (λ place. place < length text)
options_within [] = tt
options_within (b ∷ text) =
    let some : 0 < length (b ∷ text) = omega arith in
    within_more (length (b ∷ text)) (b == 36 && is_option_list text) (options_place text) some (further_within (length text) (options_place text) (options_within text))

pub place_within : (text : List ℕ) (place : Option ℕ) → place ≡ options_place text → IfSome place (λ p. p < length text)
place_within text place e = subst (λ (o : Option ℕ). IfSome o (λ p. p < length text)) (sym e) (options_within text)
