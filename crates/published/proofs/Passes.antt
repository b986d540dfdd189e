-- What a pass has seen, once it has entered a copy.
use Rattle.std.proofs.Common.{◌≡◌, List, Option, Some, IsSomeAnd, sym, ◌∙◌, subst}
use mathlib.Core.List.{IsPrefix}
use Rattle.update_spec.specs.Entries.{Entry}
use Rattle.published.proofs.Beginnings.{begins_on}

-- It goes on from what it had seen: this begins what its reader knew, and that what the reader entered.
pub sees_on : {R : Type 0} (reader : R) (known : R → List Entry) (kept taken : Option R) (old seen entered list : List Entry) → IsSomeAnd kept (λ r. IsPrefix old (known r)) → taken ≡ kept → taken ≡ Some reader
    → IsPrefix (known reader) entered → list ≡ entered → old ≡ seen → IsPrefix seen list
sees_on reader known kept taken old seen entered list begins same is later lists view =
    let mine : IsPrefix old (known reader) = subst (λ o. IsSomeAnd o (λ r. IsPrefix old (known r))) (sym same ∙ is) begins in
    subst (λ (l : List Entry). IsPrefix l list) view (subst (λ (l : List Entry). IsPrefix old l) (sym lists) (begins_on old (known reader) entered mine later))
