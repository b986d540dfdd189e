-- The ends of a host, dot by dot.
use Rattle.std.proofs.Common.{◌≡◌, ◌<◌, ◌+◌, ℕ, List, [], ◌∷◌, ◌++◌, append_assoc, length, drop, ◌==◌, refl, sym, ap, ◌∙◌, ⊎_elim, arith, suc}
use Rattle.std.specs.Borrow.{Bor}
use Rattle.std.specs.List.{after_first, position_or_len}
use Rattle.std.proofs.lemmas.List.{append-nil}
use Rattle.hide_rules.specs.Texts.{texts_of}
use Rattle.std.proofs.lemmas.Bool.{cases_Bool, cond-false}
use Rattle.hide_rules.specs.Ends.{ends_behind}

pub ends_found : (host : List ℕ) → position_or_len (λ b. b == 46) host < length host → ends_behind host ≡ after_first (λ b. b == 46) host ∷ ends_behind (after_first (λ b. b == 46) host)
ends_found [] h = absurd (omega arith)
ends_found (b ∷ rest) h =
    ⊎_elim
    (λ dot. rw dot refl)
    (λ other.
    let one : position_or_len (λ b. b == 46) (b ∷ rest) ≡ 1 + position_or_len (λ b. b == 46) rest = rw other refl in
    let next : position_or_len (λ b. b == 46) (b ∷ rest) + 1 ≡ suc (position_or_len (λ b. b == 46) rest + 1) = omega (arith, one) in
    let after : after_first (λ b. b == 46) (b ∷ rest) ≡ after_first (λ b. b == 46) rest = ap (λ n. drop n (b ∷ rest)) next in
    cond-false (b == 46) _ _ other ∙ ends_found rest (omega (arith, one, h)) ∙ sym (ap (λ r. r ∷ ends_behind r) after))
    (cases_Bool (b == 46))

pub ends_none : (host : List ℕ) → position_or_len (λ b. b == 46) host ≡ length host → ends_behind host ≡ []
ends_none [] e = refl
ends_none (b ∷ rest) e =
    ⊎_elim
    (λ dot.
    let none : position_or_len (λ b. b == 46) (b ∷ rest) ≡ 0 = rw dot refl in
    absurd (omega (arith, none, e)))
    (λ other.
    let one : position_or_len (λ b. b == 46) (b ∷ rest) ≡ 1 + position_or_len (λ b. b == 46) rest = rw other refl in
    cond-false (b == 46) _ _ other ∙ ends_none rest (omega (arith, one, e)))
    (cases_Bool (b == 46))

pub one_end_more : (old new : List (Bor (List ℕ))) (end : Bor (List ℕ)) (rest : List ℕ) (all : List (List ℕ)) → new ≡ old ++ end ∷ [] → ends_behind rest ≡ end.now ∷ ends_behind end.now
    → texts_of old ++ ends_behind rest ≡ all → texts_of new ++ ends_behind end.now ≡ all
one_end_more old new end rest all is behind so =
    ap (λ (l : List (Bor (List ℕ))). texts_of l ++ ends_behind end.now) is
    ∙ ap (λ (l : List (List ℕ)). l ++ ends_behind end.now) (texts_more old end)
    ∙ append_assoc (texts_of old) (end.now ∷ []) (ends_behind end.now)
    ∙ ap (λ l. texts_of old ++ l) (sym behind) ∙ so
  where
    texts_more : (lent : List (Bor (List ℕ))) (text : Bor (List ℕ)) → texts_of (lent ++ text ∷ []) ≡ texts_of lent ++ text.now ∷ []
    texts_more [] text = refl
    texts_more (first ∷ lent) text = ap (λ rest. first.now ∷ rest) (texts_more lent text)

pub no_end_more : (lent : List (Bor (List ℕ))) (rest : List ℕ) (all : List (List ℕ)) → ends_behind rest ≡ [] → texts_of lent ++ ends_behind rest ≡ all → texts_of lent ≡ all
no_end_more lent rest all none so = sym (append-nil (texts_of lent)) ∙ sym (ap (λ l. texts_of lent ++ l) none) ∙ so
