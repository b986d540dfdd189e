-- What all extensions offer is what the definition says.
use Rattle.std.proofs.Common.{◌≡◌, ℕ, ◌+◌, List, [], ◌∷◌, ◌++◌, Bool, true, false, ◌&&◌, cond, filter, refl, ap, ◌∙◌}
use Rattle.std.specs.Prelude.{nat_le}
use Rattle.std.specs.List.{flat_map}
use Rattle.dnr_base.specs.declared.request.Request.{Request}
use Rattle.dnr_spec.specs.Suffixes.{SuffixRule}
use Rattle.rule_spec.specs.State.{Extension}
use Rattle.rule_spec.specs.Scan.{candidates, greatest_allowed, in_order, name_of, offers_from, offers_in, offers_of}
use Rattle.generation.specs.Choice.{offers_by_all, offers_by_kept}
use Rattle.generation.specs.Kept.{kept_from, kept_of}
use Rattle.generation.proofs.Said.{is_changing, kept_says, said_by}

module _ {X : Type 0} (p q : X → Bool) where
  first_case : (b : Bool) (x : X) (xs : List X) → filter q (cond b (x ∷ xs) xs) ≡ cond (b && q x) (x ∷ filter q xs) (filter q xs)
  first_case true x xs = refl
  first_case false x xs = refl

  pub filter_both : (xs : List X) → filter q (filter p xs) ≡ filter (λ x. p x && q x) xs
  filter_both [] = refl
  filter_both (x ∷ xs) = first_case (p x) x (filter p xs) ∙ ap (λ l. cond (p x && q x) (x ∷ l) l) (filter_both xs)

offers_are_of : (suffixes : List SuffixRule) (request : Request) (age : ℕ) (extension : Extension)
    → offers_by_kept (said_by suffixes request age extension) ≡ offers_of suffixes request age extension
offers_are_of suffixes request age extension =
    let lives = candidates suffixes extension request in
    ap (λ l. flat_map (λ live. offers_in age (name_of extension.name live) live.rule.action) (in_order l))
    (filter_both is_changing (λ live. nat_le (greatest_allowed lives) live.rule.priority) lives)

pub offers_are : (suffixes : List SuffixRule) (request : Request) (age : ℕ) (extensions : List Extension)
    → offers_by_all (kept_from suffixes request age extensions) ≡ offers_from suffixes request age extensions
offers_are suffixes request age [] = refl
offers_are suffixes request age (extension ∷ extensions) =
    ap (λ l. l ++ offers_by_kept (kept_of suffixes request age extension)) (offers_are suffixes request (age + 1) extensions)
    ∙ ap (λ l. offers_from suffixes request (age + 1) extensions ++ l)
    (ap offers_by_kept (kept_says suffixes request age extension) ∙ offers_are_of suffixes request age extension)
