-- A step that only adds to what is published keeps the rule.
use Rattle.std.proofs.Common.{◌≡◌, ◌≢◌, ℕ, List, [], refl, subst, ⊎_elim}
use mathlib.Core.Option.{some}
use mathlib.Core.List.{IsPrefix}
use lib.ListN.{get_elem?}
use Rattle.left_right.specs.Register.{Admits, TurnsAt}
use Rattle.atomic_table.proofs.Lists.{at_set, at_snoc}
use Rattle.logbook.specs.Pages.{Book}
use Rattle.update_spec.specs.Entries.{Entry}
use Rattle.generation.specs.Basis.{Basis}
use Rattle.published.specs.Shared.{Copy, IsCopy, Keeps, Sees}
use Rattle.published.proofs.Beginnings.{begins_itself, begins_on}

-- a new reader has seen nothing
pub admits : (book : Book) (opening : Basis) → Admits (Keeps book opening) []
admits book opening copy views kept = record {
  fits = kept.fits;
  seen = λ seat view at. ⊎_elim (kept.seen seat view) (λ (new : [] ≡ view). subst (λ (list : List Entry). IsPrefix list copy.list) new (copy.list, refl)) (at_snoc views [] view seat at);
}

pub grows : (book : Book) (opening : Basis) (seat : ℕ) (view : List Entry) (was now : Copy) → (IsCopy book opening was → IsCopy book opening now) → IsPrefix was.list now.list → TurnsAt (Keeps book opening) seat view was now (Sees book opening)
grows book opening seat view was now fits longer views kept at =
    let mine = begins_on view was.list now.list (kept.seen seat view at) longer in (
      now.list,
      record {
        fits = fits kept.fits;
        seen = λ other seen there.
            ⊎_elim (λ (same : (other ≡ seat) × (now.list ≡ seen)). subst (λ (list : List Entry). IsPrefix list now.list) same.1 (begins_itself now.list))
            (λ (else : (other ≢ seat) × (get_elem? views other ≡ some seen)). begins_on seen was.list now.list (kept.seen other seen else.1) longer)
            (at_set views seat other now.list seen there);
      },
      record { later = mine; all = refl; fits = fits kept.fits },
    )

-- entering changes nothing that is published
pub enters : (book : Book) (opening : Basis) (seat : ℕ) (view : List Entry) (copy : Copy) → TurnsAt (Keeps book opening) seat view copy copy (Sees book opening)
enters book opening seat view copy = grows book opening seat view copy copy (λ same. same) (begins_itself copy.list)
