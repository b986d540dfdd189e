-- A walk over the offers takes those that take effect.
use Rattle.std.proofs.Common.{◌≡◌, ℕ, ◌+◌, ◌<◌, ◌≤◌, List, [], ◌∷◌, ◌++◌, length, drop, get_or, Bool, true, false, cond, sym, ap, ◌∙◌, append_assoc, append-nil}
use Rattle.std.proofs.lemmas.Bool.{cond-true, cond-false}
use Rattle.std.proofs.lemmas.List.{drop_more, drop_all}
use Rattle.dnr_base.specs.declared.offered.Offered.{Offered}
use Rattle.dnr_spec.specs.Headers.{takes_effect, effective_from}
use Rattle.header_actions.specs.Effects.{with_taken}

abbrev pub with_place : List ℕ → ℕ → Bool → List ℕ
with_place places place took = cond took (places ++ place ∷ []) places

one_more : (before : List Offered) (place : ℕ) (offer : Offered) (offers : List Offered) (places : List ℕ) (took : Bool) → took ≡ takes_effect before offer
    → places ++ effective_from before place (offer ∷ offers) ≡ with_place places place took ++ effective_from (with_taken before offer took) (place + 1) offers
one_more before place offer offers places true told =
    ap (λ l. places ++ l) (cond-true (takes_effect before offer) _ _ (sym told)) ∙ sym (append_assoc places (place ∷ []) (effective_from (before ++ offer ∷ []) (place + 1) offers))
one_more before place offer offers places false told =
    ap (λ l. places ++ l) (cond-false (takes_effect before offer) _ _ (sym told))

-- one step of the walk
pub walk_step : (whole : List ℕ) (offers : List Offered) (before : List Offered) (place : ℕ) (offer : Offered) (places : List ℕ) (took : Bool) → place < length offers → offer ≡ get_or offers place offer → took ≡ takes_effect before offer
    → whole ≡ places ++ effective_from before place (drop place offers)
    → whole ≡ with_place places place took ++ effective_from (with_taken before offer took) (place + 1) (drop (place + 1) offers)
walk_step whole offers before place offer places took inside is told so_far =
    let rest : drop place offers ≡ offer ∷ drop (place + 1) offers = drop_more offers place offer inside ∙ ap (λ o. o ∷ drop (place + 1) offers) (sym is) in
    so_far ∙ ap (λ l. places ++ effective_from before place l) rest ∙ one_more before place offer (drop (place + 1) offers) places took told

pub walk_end : (whole : List ℕ) (offers : List Offered) (before : List Offered) (place : ℕ) (places : List ℕ) → length offers ≤ place
    → whole ≡ places ++ effective_from before place (drop place offers) → places ≡ whole
walk_end whole offers before place places end so_far =
    sym (so_far ∙ ap (λ l. places ++ effective_from before place l) (drop_all place offers end) ∙ append-nil places)
