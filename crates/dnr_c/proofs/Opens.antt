-- What is said of words and files that are equal to those that were given.
use Rattle.std.proofs.Common.{◌≡◌, ℕ, List, Result, subst}
use Rattle.std.specs.Prelude.{IfErr}
use Rattle.dnr_io.specs.declared.files.MemoryFile.{MemoryFile}
use Rattle.session_spec.specs.Words.{task_of}
use Rattle.engine.specs.Opening.{EndsFor}
use Rattle.engine.specs.declared.refusal.OpenRefusal.{OpenRefusal}

pub refused_same : {T : Type 0} (result : Result T OpenRefusal) (said words : List (List ℕ)) (held files : List MemoryFile) → said ≡ words → held ≡ files
    → IfErr result (EndsFor (task_of said) held) → IfErr result (EndsFor (task_of words) files)
refused_same result said words held files same alike ends =
    subst (λ (f : List MemoryFile). IfErr result (EndsFor (task_of words) f)) alike
    (subst (λ (w : List (List ℕ)). IfErr result (EndsFor (task_of w) held)) same ends)
