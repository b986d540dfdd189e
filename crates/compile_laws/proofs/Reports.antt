-- The report of a list names each line that gives nothing, and the rules are counted.
use Rattle.std.proofs.Common.{◌≡◌, ℕ, zero, suc, ◌+◌, ◌<◌, List, [], ◌∷◌, ◌++◌, length, get_or, Option, Some, None, inl, inr, refl, sym, ap, ◌∙◌, subst, arith}
use Rattle.std.specs.Prelude.{slice_get, option_and_then, All}
use Rattle.std.specs.List.{Contains, AllPairs, AllByRecursion}
use Rattle.std.proofs.lemmas.List.Elements.{All-from_recursion}
use Rattle.list_spec.specs.declared.reason.Reason.{Reason}
use Rattle.list_spec.specs.LineKind.{line_of}
use Rattle.list_spec.specs.Says.{reason_of}
use Rattle.compile_spec.specs.declared.reported.Reported.{Reported}
use Rattle.compile_spec.specs.Compiled.{Draft, drafts_in, CompiledRule, with_ids, compiled}
use Rattle.compile_spec.specs.Report.{report_of, report_from, report}
use Rattle.compile_laws.specs.Origins.{reason_at}
use Rattle.compile_laws.specs.Laws.{RulesAreCounted, ReportIsWhole}
use Rattle.compile_laws.proofs.Lists.{In, each_in, each_joined, each_weaker, has_left, has_right}
use Rattle.compile_laws.proofs.Numbered.{one_of, contains}

-- ---- ids

counted : (id : ℕ) (drafts : List Draft) (place : ℕ) (one : CompiledRule) → slice_get (with_ids id drafts) place ≡ Some one → one.rule.id ≡ id + place
counted id [] place one h = cc
counted id (draft ∷ drafts) zero one h = let same : one_of id draft ≡ one = cc in omega (arith, ap (λ (o : CompiledRule). o.rule.id) same)
counted id (draft ∷ drafts) (suc place) one h = let rest = counted (id + 1) drafts place one h in omega arith

pub rules_are_counted : RulesAreCounted
unfolding compiled
rules_are_counted lines place one h = let same = counted 1 (drafts_in lines) place one h in omega arith

-- ---- reports

abbrev reason_in_place : List (List ℕ) → ℕ → Option Reason
reason_in_place lines place = option_and_then (λ line. reason_of (line_of line)) (slice_get lines place)

-- the report names a line at a place, with its reason
record IsNamed (number : ℕ) (lines : List (List ℕ)) (reported : Reported) : Type 0 where
  pub place : ℕ
  pub line : reported.line ≡ number + place
  pub reason : reason_in_place lines place ≡ Some reported.reason

first_named : (number : ℕ) (line : List ℕ) (lines : List (List ℕ)) (reason : Option Reason) → reason_of (line_of line) ≡ reason → AllByRecursion (IsNamed number (line ∷ lines)) (report_of number reason)
first_named number line lines None is = tt
first_named number line lines (Some reason) is = (record { place = 0; line = omega arith; reason = is }, tt)

each_named : (number : ℕ) (lines : List (List ℕ)) → AllByRecursion (IsNamed number lines) (report_from number lines)
each_named number [] = tt
each_named number (line ∷ lines) =
    each_joined (IsNamed number (line ∷ lines)) (report_of number (reason_of (line_of line))) (report_from (number + 1) lines)
    (first_named number line lines (reason_of (line_of line)) refl)
    (each_weaker (IsNamed (number + 1) lines) (IsNamed number (line ∷ lines)) (λ reported is. record { place = suc is.place; line = omega (arith, is.line); reason = is.reason })
    (report_from (number + 1) lines) (each_named (number + 1) lines))

there : (number : ℕ) (lines : List (List ℕ)) (place : ℕ) (reason : Reason) → reason_in_place lines place ≡ Some reason → In (record { line = number + place; reason = reason }) (report_from number lines)
there number [] place reason h = cc
there number (line ∷ lines) zero reason h =
    let same : number ≡ number + 0 = omega arith in
    let Named : Reported → Type 0 = λ reported. reported ≡ record { line = number + 0; reason = reason } in
    has_left Named (report_of number (reason_of (line_of line))) (report_from (number + 1) lines)
    (subst (λ (o : Option Reason). In (record { line = number + 0; reason = reason }) (report_of number o)) (sym h) (inl (ap (λ (n : ℕ). record { line = n; reason = reason }) same)))
there number (line ∷ lines) (suc place) reason h =
    let same : number + 1 + place ≡ number + suc place = omega arith in
    let Named : Reported → Type 0 = λ reported. reported ≡ record { line = number + suc place; reason = reason } in
    has_right Named (report_of number (reason_of (line_of line))) (report_from (number + 1) lines)
    (subst (λ (n : ℕ). In (record { line = n; reason = reason }) (report_from (number + 1) lines)) same (there (number + 1) lines place reason h))

contained_at : {X : Type 0} (x : X) (xs : List X) (k : ℕ) → k < length xs → get_or xs k x ≡ x → In x xs
contained_at x [] k less is = absurd (omega arith)
contained_at x (y ∷ ys) zero less is = inl is
contained_at x (y ∷ ys) (suc k) less is = inr (contained_at x ys k (omega arith) is)

contained : {X : Type 0} (x : X) (xs : List X) → Contains xs x → In x xs
contained x xs c = contained_at x xs c.0 c.1 c.2

-- ---- their order

pairs_first : {X : Type 0} (R : X → X → Type 0) (x : X) (xs : List X) → All (R x) xs → AllPairs R xs → AllPairs R (x ∷ xs)
pairs_first R x xs first rest i zero d less inside = absurd (omega arith)
pairs_first R x xs first rest zero (suc j) d less inside = first j d (omega arith)
pairs_first R x xs first rest (suc i) (suc j) d less inside = rest i j d (omega arith) (omega arith)

abbrev Earlier : Reported → Reported → Type 0
Earlier first second = first.line < second.line

-- a line before those that are behind it
before_rest : (number : ℕ) (reason : Option Reason) (rest : List Reported) → AllByRecursion (λ reported. number < reported.line) rest → AllPairs Earlier rest → AllPairs Earlier (report_of number reason ++ rest)
before_rest number None rest later pairs = pairs
before_rest number (Some reason) rest later pairs =
    pairs_first Earlier (record { line = number; reason = reason }) rest (All-from_recursion (λ reported. number < reported.line) rest later) pairs

in_order : (number : ℕ) (lines : List (List ℕ)) → AllPairs Earlier (report_from number lines)
in_order number [] = λ i j d less inside. absurd (omega arith)
in_order number (line ∷ lines) =
    before_rest number (reason_of (line_of line)) (report_from (number + 1) lines)
    (each_weaker (IsNamed (number + 1) lines) (λ reported. number < reported.line) (λ reported is. omega (arith, is.line)) (report_from (number + 1) lines) (each_named (number + 1) lines))
    (in_order (number + 1) lines)

pub report_is_whole : ReportIsWhole
unfolding report
report_is_whole = record {
  named = λ lines number reason c.
      let is = each_in (IsNamed 1 lines) (record { line = number; reason = reason }) (report_from 1 lines) (contained (record { line = number; reason = reason }) (report_from 1 lines) c) (each_named 1 lines) in
      let same : number ≡ suc is.place = omega (arith, is.line) in
      ap (reason_at lines) same ∙ is.reason;
  whole = whole;
  order = λ lines. in_order 1 lines;
}
  where
    whole : (lines : List (List ℕ)) (number : ℕ) (reason : Reason) → reason_at lines number ≡ Some reason → Contains (report_from 1 lines) (record { line = number; reason = reason })
    whole lines zero reason h = cc
    whole lines (suc place) reason h =
        let same : 1 + place ≡ suc place = omega arith in
        contains (record { line = suc place; reason = reason }) (report_from 1 lines)
        (subst (λ (n : ℕ). In (record { line = n; reason = reason }) (report_from 1 lines)) same (there 1 lines place reason h))
