-- A pattern whose every match has a needle matches nowhere in a text that has none.
use Rattle.std.proofs.Common.{◌≡◌, ℕ, ◌+◌, ◌-◌, ◌<◌, ◌≤◌, List, [], Bool, length, map, option_map, get_or, subst, arith, All, Option, None, Some, IfOk, IfSome, sym, ap, ◌∙◌, ⊎_elim, Result, Ok, Err}
use Rattle.std.proofs.lemmas.Bool.{cases_lt}
use Rattle.std.proofs.lemmas.List.{get_or_default}
use Rattle.dnr_spec.specs.Patterns.{options, places, ends_of}
use Rattle.memchr.specs.Find.{Nowhere}
use Rattle.memchr.specs.Find as Bytes
use Rattle.regex.specs.Patterns.{Re, Reads, find_str}
use Rattle.regex.proofs.ForCallers.{find_str_sound}
use Rattle.regex_extract.specs.Needles.{ContainsNeedle}
use Rattle.regex_hir.specs.Meaning.{meaning}
use Rattle.regex_hir.specs.declared.hir.Hir.{Hir}
use Rattle.regex_hir.proofs.OptionLemmas.{option_cases}
use Rattle.regex_host.specs.Prefilter.{AreNeeded, LacksAll}
use Rattle.regex_host.proofs.Patterns.{found_read}
use Rattle.regex_literal.specs.Find.{OccursAt, needle_at}
use Rattle.regex_syntax.specs.Grammar.{Names}

no_match : (re : Re) (needles : List (List ℕ)) → ContainsNeedle re needles
    → (text : List ℕ) → All (λ b. b < 256) text → LacksAll needles text → find_str re text 0 ≡ None
no_match re needles contains text bytes lacks =
    ⊎_elim (λ none. none)
    (λ some. let at = find_str_sound re text 0 some.0 some.1 in
    let n = contains text bytes some.0.start some.0.trace.end at.1 in
    absurd (lacks n.0 n.1 n.2.numbered n.2.occurs))
    (option_cases (find_str re text 0))

-- the needles that the tree of a pattern needs are needed by the pattern
pub needed : (fold : Bool) (pattern : List ℕ) (hir : Hir) (names : Names) (needles : List (List ℕ))
    → Reads (options fold) pattern hir names → ContainsNeedle (meaning hir) needles → AreNeeded needles pattern fold
needed fold pattern hir names needles read contains = λ text bytes lacks.
    found_read fold pattern hir names text bytes read
    ∙ ap (option_map (λ m. places (length names - 1) (ends_of m))) (no_match (meaning hir) needles contains text bytes lacks)

pub each : {V E : Type 0} (P Q : V → Type 0) → ((v : V) → P v → Q v)
    → (r : Result (Option V) E) → IfOk r (λ o. IfSome o P) → IfOk r (λ o. IfSome o Q)
each P Q f (Ok None) h = tt
each P Q f (Ok (Some v)) h = f v h
each P Q f (Err e) h = tt

pub nowhere_at_all : (text needle : List ℕ) → Nowhere (Bytes.OccursAt text needle) 0 (length text + 1) → (k : ℕ) → ¬ OccursAt text needle k
nowhere_at_all text needle h k at = let fits = at.fits in h k (omega arith) (omega (arith, fits)) (record { fits = at.fits; reads = at.reads })

-- one needle more that the text lacks
pub step : (needles : List (List ℕ)) (text : List ℕ) (i : ℕ) (needle : List ℕ) → i < length needles → needle ≡ get_or needles i needle
    → ((n k : ℕ) → n < i → ¬ OccursAt text (needle_at needles n) k) → ((k : ℕ) → ¬ OccursAt text needle k)
    → (n k : ℕ) → n < i + 1 → ¬ OccursAt text (needle_at needles n) k
step needles text i needle lt is before here n k below at =
    ⊎_elim (λ (less : n < i). before n k less at)
    (λ (more : i ≤ n). let same : n ≡ i = omega (arith, more, below) in
    here k (subst (λ x. OccursAt text x k) (ap (needle_at needles) same ∙ get_or_default needles i [] needle lt ∙ sym is) at))
    (cases_lt n i)

pub within : (needles : List (List ℕ)) (text : List ℕ) (i : ℕ) → length needles ≤ i
    → ((n k : ℕ) → n < i → ¬ OccursAt text (needle_at needles n) k) → LacksAll needles text
within needles text i all before n k lt = before n k (omega (arith, all, lt))
