-- What the command does for its words.
use Rattle.std.proofs.Common.{◌≡◌, ◌⊎◌, ℕ, List, Option, Some, None, subst, sym}
use Rattle.std.specs.Prelude.{IfSome}
use Rattle.dnr_spec.specs.declared.status.Status.{Status}
use Rattle.dnr_spec.specs.declared.status.Status.TheVariants as status
use Rattle.load_spec.specs.Files.{Files}
use Rattle.keep_spec.specs.Agrees.{Sound}
use Rattle.keep_run_spec.specs.Words.{Keeping}
use Rattle.keep_run_spec.specs.Ends.{Around, Images}
use Rattle.keep_run_spec.specs.Laws.{SomethingFailed, HasShortScript}
use Rattle.keep_run_spec.proofs.Completes.{keepings_complete}
use Rattle.keep_run.specs.Ends.{EndsSo}

-- what holds of the words that were read
pub of_words : (P : Keeping → Type 0) (words : Option Keeping) (keeping : Keeping) → Some keeping ≡ words → P keeping → IfSome words P
of_words P words keeping is holds = subst (λ (o : Option Keeping). IfSome o P) is holds

pub by_words : (P : Keeping → Type 0) (words : Option Keeping) (keeping : Keeping) → Some keeping ≡ words → IfSome words P → P keeping
by_words P words keeping is holds = subst (λ (o : Option Keeping). IfSome o P) (sym is) holds

abbrev Completes : Option Files → Keeping → Around → Images → Status → Type 0
Completes known keeping around images ended =
    IfSome known (λ files. Sound keeping.extension images.before → HasShortScript files keeping.script
    → (ended ≡ status.Done) ⊎ (ended ≡ status.NoMemory) ⊎ SomethingFailed around)

pub completes : (known : Option Files) (keeping : Keeping) (around : Around) (images : Images) (before now : Option (List ℕ)) (ended : Status)
    → images.before images.seen → EndsSo known keeping around images before now ended → Completes known keeping around images ended
completes None keeping around images before now ended is ends = tt
completes (Some files) keeping around images before now ended is ends =
    λ sound short. keepings_complete files keeping around images ended ends.0 is sound short ends.2
