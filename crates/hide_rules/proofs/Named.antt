-- The domains that cover a page, one after another.
use Rattle.std.proofs.Common.{◌≡◌, ◌<◌, ◌+◌, ℕ, zero, suc, List, [], ◌∷◌, length, drop, get_or, Bool, true, false, refl, ap, ◌∙◌, arith, Option, None, Some}
use Rattle.std.specs.Prelude.{unwrap_or}
use Rattle.std.specs.Borrow.{Bor}
use Rattle.std.proofs.lemmas.Bool.{cond-true, cond-false}
use Rattle.std.proofs.lemmas.List.{drop_more, length-map}
use Rattle.list_spec.specs.declared.domain_entry.DomainEntry.{DomainEntry}
use Rattle.list_spec.specs.Entries.{is_listed, is_excluded}
use Rattle.list_spec.specs.Says.{lists_none}
use Rattle.hide_rules.specs.Ends.{or_else, said, applies_by}
use Rattle.hide_rules.specs.Texts.{texts_of}

abbrev with_first : List DomainEntry → List (List ℕ) → Option Bool → Bool
with_first entries later first = unwrap_or (or_else first (said entries later)) (lists_none entries)

lent_at : (lent : List (Bor (List ℕ))) (i : ℕ) (text : Bor (List ℕ)) → get_or (texts_of lent) i text.now ≡ (get_or lent i text).now
lent_at [] zero text = refl
lent_at [] (suc i) text = refl
lent_at (first ∷ lent) zero text = refl
lent_at (first ∷ lent) (suc i) text = lent_at lent i text

pub first_left : (lent : List (Bor (List ℕ))) (i : ℕ) (none : Bor (List ℕ)) → i < length lent → drop i (texts_of lent) ≡ (get_or lent i none).now ∷ drop (i + 1) (texts_of lent)
first_left lent i none inside =
    let within : i < length (texts_of lent) = omega (arith, length-map lent (λ text. text.now)) in
    drop_more (texts_of lent) i none.now within ∙ ap (λ (d : List ℕ). d ∷ drop (i + 1) (texts_of lent)) (lent_at lent i none)

module _ (entries : List DomainEntry) (lent : List (Bor (List ℕ))) (i : ℕ) (none : Bor (List ℕ)) (inside : i < length lent) where
  pub listed_decides : is_listed entries (get_or lent i none).now ≡ true → applies_by (drop i (texts_of lent)) entries ≡ true
  listed_decides listed =
      ap (λ (ends : List (List ℕ)). applies_by ends entries) (first_left lent i none inside)
      ∙ ap (with_first entries (drop (i + 1) (texts_of lent))) (cond-true (is_listed entries (get_or lent i none).now) (Some true) _ listed)

  pub excluded_decides : is_listed entries (get_or lent i none).now ≡ false → is_excluded entries (get_or lent i none).now ≡ true → applies_by (drop i (texts_of lent)) entries ≡ false
  excluded_decides listed excluded =
      ap (λ (ends : List (List ℕ)). applies_by ends entries) (first_left lent i none inside)
      ∙ ap (with_first entries (drop (i + 1) (texts_of lent))) (cond-false (is_listed entries (get_or lent i none).now) (Some true) _ listed ∙ cond-true (is_excluded entries (get_or lent i none).now) (Some false) None excluded)

  pub unnamed_passes : is_listed entries (get_or lent i none).now ≡ false → is_excluded entries (get_or lent i none).now ≡ false → applies_by (drop i (texts_of lent)) entries ≡ applies_by (drop (i + 1) (texts_of lent)) entries
  unnamed_passes listed excluded =
      ap (λ (ends : List (List ℕ)). applies_by ends entries) (first_left lent i none inside)
      ∙ ap (with_first entries (drop (i + 1) (texts_of lent))) (cond-false (is_listed entries (get_or lent i none).now) (Some true) _ listed ∙ cond-false (is_excluded entries (get_or lent i none).now) (Some false) None excluded)
