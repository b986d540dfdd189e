-- A name that was put, or another.
use Rattle.std.proofs.Common.{◌≡◌, ℕ, List, bytes_eq, sym, ◌∙◌, ◌⊎◌, inl, inr, ⊎_elim, rules}
use Rattle.std.proofs.lemmas.Bool.{cases_Bool, true≢false}
use Rattle.std.proofs.lemmas.Slice.Eq.{bytes_eq-Decides}
use Rattle.serde_json.specs.Data.{null}
use Rattle.serde_json.specs.View.{view}
use Rattle.serde_json.specs.declared.value.Value.{Null, the_lemmas}

pub same_or_other : (q k : List ℕ) → (q ≡ k) ⊎ (q ≡ k → ⊥)
same_or_other q k =
    ⊎_elim
    (λ same. inl ((bytes_eq-Decides q k).0 same))
    (λ other. inr (λ e. true≢false (sym ((bytes_eq-Decides q k).1 e) ∙ other)))
    (cases_Bool (bytes_eq q k))

pub null_is : view Null ≡ null
null_is = search (rules, the_lemmas)
