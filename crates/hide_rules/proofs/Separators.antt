-- The leftmost separator, place by place.
use Rattle.std.proofs.Common.{◌≡◌, ◌≢◌, ◌<◌, ◌≤◌, ◌+◌, ℕ, suc, List, ◌∷◌, length, drop, get_or, Bool, true, false, cond, refl, sym, ap, ◌∙◌, arith, ne_eqb, Option, Some, None}
use Rattle.std.specs.Prelude.{option_map}
use Rattle.std.proofs.lemmas.Bool.{cond-true, cond-false}
use Rattle.std.proofs.lemmas.List.{drop_more}
use Rattle.std.proofs.Math.Seq.{drop-length}
use Rattle.list_spec.specs.LineKind.{begins_hiding}
use Rattle.hide_spec.specs.HidingLine.{separator_place}

-- a separator begins with `#`
other_begin : (b : ℕ) (rest : List ℕ) → 35 ≢ b → begins_hiding (b ∷ rest) ≡ false
other_begin b rest other = rw (ne_eqb 35 b other) refl

pub no_sign : (text : List ℕ) (place : ℕ) → place < length text → get_or text place 0 ≢ 35 → begins_hiding (drop place text) ≡ false
no_sign text place inside other =
    ap begins_hiding (drop_more text place 0 inside) ∙ other_begin (get_or text place 0) (drop (place + 1) text) (λ e. other (sym e))

-- a place that is counted from an earlier one
abbrev pub further : ℕ → Option ℕ → Option ℕ
further i None = None
further i (Some k) = Some (k + i)

moved : (i : ℕ) (o : Option ℕ) → further i (option_map suc o) ≡ further (i + 1) o
moved i None = refl
moved i (Some k) = let e : suc k + i ≡ k + (i + 1) = omega arith in ap Some e

here : (i : ℕ) (t : Bool) (o : Option ℕ) → further i (cond t (Some 0) (option_map suc o)) ≡ cond t (Some i) (further (i + 1) o)
here i true o = let e : 0 + i ≡ i = omega arith in ap Some e
here i false o = moved i o

-- at a place of the text
pub at_place : (text : List ℕ) (i : ℕ) → i < length text
    → further i (separator_place (drop i text)) ≡ cond (begins_hiding (drop i text)) (Some i) (further (i + 1) (separator_place (drop (i + 1) text)))
at_place text i inside =
    ap (λ (t : List ℕ). further i (separator_place t)) (drop_more text i 0 inside)
    ∙ here i (begins_hiding (get_or text i 0 ∷ drop (i + 1) text)) (separator_place (drop (i + 1) text))
    ∙ ap (λ (t : List ℕ). cond (begins_hiding t) (Some i) (further (i + 1) (separator_place (drop (i + 1) text)))) (sym (drop_more text i 0 inside))

pub begins_at : (text : List ℕ) (i : ℕ) → i < length text → separator_place text ≡ further i (separator_place (drop i text)) → begins_hiding (drop i text) ≡ true → separator_place text ≡ Some i
begins_at text i inside so begins = so ∙ at_place text i inside ∙ cond-true (begins_hiding (drop i text)) _ _ begins

pub passes_at : (text : List ℕ) (i : ℕ) → i < length text → separator_place text ≡ further i (separator_place (drop i text)) → begins_hiding (drop i text) ≡ false
    → separator_place text ≡ further (i + 1) (separator_place (drop (i + 1) text))
passes_at text i inside so passes = so ∙ at_place text i inside ∙ cond-false (begins_hiding (drop i text)) _ _ passes

pub from_start : (text : List ℕ) → separator_place text ≡ further 0 (separator_place (drop 0 text))
from_start text = sym (same (separator_place text))
  where
    same : (o : Option ℕ) → further 0 o ≡ o
    same None = refl
    same (Some k) = let e : k + 0 ≡ k = omega arith in ap Some e

pub none_at_end : (text : List ℕ) (i : ℕ) → length text ≤ i → separator_place text ≡ further i (separator_place (drop i text)) → i ≤ length text → separator_place text ≡ None
none_at_end text i past so within =
    let e : i ≡ length text = omega arith in
    so ∙ ap (λ (n : ℕ). further n (separator_place (drop n text))) e ∙ ap (λ (t : List ℕ). further (length text) (separator_place t)) (drop-length text)
