-- The one copy that is to come.
use Rattle.std.proofs.Common.{◌≡◌, ◌<◌, List, [], ◌∷◌, ◌++◌, length, drop, fold, Option, None, Some, refl, sym, ap, ◌∙◌, inl, inr, arith}
use Rattle.update_spec.specs.Entries.{Entry}
use Rattle.published.specs.Shared.{Copy, latest}
use Rattle.published.specs.Ahead.{IsOneAhead, next_of, coming, beyond}

-- what an entry adds stands behind the list
pub behind : (list : List Entry) (entry : Entry) → drop (length list) (list ++ entry ∷ []) ≡ entry ∷ []
behind [] entry = refl
behind (first ∷ list) entry = behind list entry

-- where nothing is staged, no copy is to come
pub none_handed : (copy : Copy) (kept : Option Copy) (handed : List Copy) → IsOneAhead copy (coming kept handed) → beyond copy (coming kept handed) ≡ [] → handed ≡ []
none_handed copy None handed (inl none) nothing = none
none_handed copy None handed (inr one) nothing = absurd (cc (sym (behind copy.list one.0), sym (ap (beyond copy) one.1) ∙ nothing))
none_handed copy (Some next) handed (inl none) nothing = absurd (cc none)
none_handed copy (Some next) handed (inr one) nothing = cc one.1

-- so the one that is kept then is the one that is to come
pub one_kept : (copy next : Copy) (entry : Entry) (kept : Option Copy) (handed : List Copy) → IsOneAhead copy (coming kept handed) → beyond copy (coming kept handed) ≡ [] → next ≡ next_of copy entry → IsOneAhead copy (next ∷ handed)
one_kept copy next entry kept handed ahead nothing is = inr (entry, cc (is, none_handed copy kept handed ahead nothing))

-- publishing it adds what was staged
pub appended : (copy : Copy) (copies : List Copy) → IsOneAhead copy copies → 0 < length (beyond copy copies) → (fold latest copy copies).list ≡ copy.list ++ beyond copy copies
appended copy copies (inl none) some = absurd (let e = ap (λ list. length (beyond copy list)) none in omega (arith, e, some))
appended copy copies (inr one) some = ap (λ list. (fold latest copy list).list) one.1 ∙ (ap (λ list. copy.list ++ list) (sym (behind copy.list one.0)) ∙ sym (ap (λ list. copy.list ++ beyond copy list) one.1))
