-- Steps along a list whose items are read in turn, up to the first at fault.
use Rattle.std.proofs.Common.{◌≡◌, ℕ, ◌+◌, ◌<◌, ◌≤◌, List, [], ◌∷◌, ◌++◌, length, drop, get_or, Result, Ok, Err, refl, sym, ap, ◌∙◌, append_assoc}
use Rattle.std.proofs.lemmas.List.{drop_more, drop_all, append-nil}
use Rattle.line_spec.specs.declared.line_fault.LineFault.{LineFault}
use Rattle.line_spec.specs.declared.line_fault.LineFault.TheVariants.{RuleRefused, InBatch, NoMemory}
use Rattle.line_spec.specs.Reading.{and_then}
use Rattle.line_spec.specs.IsFault.{IsFaultOf}
use Rattle.request_given.specs.Reads.{each_of}

-- what was read, before what is still to be read
abbrev pub before : {X : Type 0} → List X → Result (List X) LineFault → Result (List X) LineFault
before done rest = and_then rest (λ xs. Ok (done ++ xs))

pub record AreReadSoFar {A X : Type 0} (read : A → Result X LineFault) (items : List A) (done : List X) (next : ℕ) : Type 0 where
  pub same : each_of read items ≡ before done (each_of read (drop next items))

before-nil : {X : Type 0} (rest : Result (List X) LineFault) → rest ≡ before [] rest
before-nil (Ok xs) = refl
before-nil (Err fault) = refl

pub each_begins : {A X : Type 0} (read : A → Result X LineFault) (items : List A) → AreReadSoFar read items [] 0
each_begins read items = record { same = before-nil _ }

before-cons : {X : Type 0} (done : List X) (x : X) (rest : Result (List X) LineFault) → before done (and_then rest (λ xs. Ok (x ∷ xs))) ≡ before (done ++ x ∷ []) rest
before-cons done x (Ok xs) = ap Ok (sym (append_assoc done (x ∷ []) xs))
before-cons done x (Err fault) = refl

abbrev with_first : {A X : Type 0} → (A → Result X LineFault) → List A → Result X LineFault → Result (List X) LineFault
with_first read rest first = and_then first (λ x. and_then (each_of read rest) (λ xs. Ok (x ∷ xs)))

step : {A X : Type 0} (read : A → Result X LineFault) (items : List A) (next : ℕ) (item : A) (done : List X) (first : Result X LineFault)
    → next < length items → item ≡ get_or items next item → AreReadSoFar read items done next → read item ≡ first
    → each_of read items ≡ before done (with_first read (drop (next + 1) items) first)
step read items next item done first inside is so_far reads =
    so_far.same ∙ ap (λ rest. before done (each_of read rest)) (drop_more items next item inside)
    ∙ ap (λ i. before done (with_first read (drop (next + 1) items) (read i))) (sym is)
    ∙ ap (λ r. before done (with_first read (drop (next + 1) items) r)) reads

pub each_goes : {A X : Type 0} (read : A → Result X LineFault) (items : List A) (next : ℕ) (item : A) (done : List X) (x : X)
    → next < length items → item ≡ get_or items next item → AreReadSoFar read items done next → read item ≡ Ok x → AreReadSoFar read items (done ++ x ∷ []) (next + 1)
each_goes read items next item done x inside is so_far reads = record {
  same = step read items next item done (Ok x) inside is so_far reads ∙ before-cons done x (each_of read (drop (next + 1) items));
}

pub each_stops : {A X : Type 0} (read : A → Result X LineFault) (items : List A) (next : ℕ) (item : A) (done : List X) (fault : LineFault)
    → next < length items → item ≡ get_or items next item → AreReadSoFar read items done next → IsFaultOf (read item) fault → IsFaultOf (each_of read items) fault
each_stops read items next item done (RuleRefused refusal) inside is so_far h = absurd h
each_stops read items next item done (InBatch place refusal) inside is so_far h = absurd h
each_stops read items next item done NoMemory inside is so_far h = h
each_stops read items next item done fault inside is so_far h = step read items next item done (Err fault) inside is so_far h

pub each_ends : {A X : Type 0} (read : A → Result X LineFault) (items : List A) (next : ℕ) (done : List X)
    → length items ≤ next → AreReadSoFar read items done next → each_of read items ≡ Ok done
each_ends read items next done end so_far =
    so_far.same ∙ ap (λ rest. before done (each_of read rest)) (drop_all next items end)
    ∙ ap Ok (append-nil done)
