-- What a crash may leave loses nothing that is kept.
use Rattle.std.proofs.Common.{◌≡◌, ◌⊎◌, ⊎_elim, ℕ, List, [], ◌∷◌, ◌++◌, sym, ap, subst, append-nil}
use Rattle.update_spec.specs.Update.{Update}
use Rattle.keep_spec.specs.Kept.{Kept, kept}
use Rattle.keep_spec.specs.Agrees.{AreAlike, Agrees, HasBeforeOrAfter}
use Rattle.keep_run_spec.specs.Ends.{BeginsWith, LosesNothing}

same_begins : (name : List ℕ) (list : List Update) (image : List ℕ) → AreAlike (kept name image) list → BeginsWith name list image
same_begins name list image alike = record {
  rest = [];
  alike = subst (λ (l : List Update). AreAlike (kept name image) l) (sym (append-nil list)) alike;
}

pub agreed_safe : (images : List ℕ → Type 0) (keep : Kept) → Agrees images keep → LosesNothing images keep
agreed_safe images keep agrees image left = same_begins keep.name keep.list image (agrees image left).alike

-- an update more is no loss
pub grown_safe : (images : List ℕ → Type 0) (keep next : Kept) (u : Update) → next.name ≡ keep.name → next.list ≡ keep.list ++ u ∷ [] → Agrees images next
    → LosesNothing images keep
grown_safe images keep next u name list agrees image left = record {
  rest = u ∷ [];
  alike = subst (λ (n : List ℕ). AreAlike (kept n image) (keep.list ++ u ∷ [])) name
      (subst (λ (l : List Update). AreAlike (kept next.name image) l) list (agrees image left).alike);
}

pub either_safe : (images : List ℕ → Type 0) (keep : Kept) (u : Update) → ((image : List ℕ) → images image → HasBeforeOrAfter keep.name keep.list u image)
    → LosesNothing images keep
either_safe images keep u has image left =
    ⊎_elim (λ (same : AreAlike (kept keep.name image) keep.list). same_begins keep.name keep.list image same)
    (λ (more : AreAlike (kept keep.name image) (keep.list ++ u ∷ [])). record { rest = u ∷ []; alike = more }) (has image left).either
