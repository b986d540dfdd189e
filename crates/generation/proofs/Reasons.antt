-- What each extension says, by what is kept of it, is what the explanation has.
use Rattle.std.proofs.Common.{◌≡◌, ℕ, ◌+◌, List, [], ◌∷◌, map, reverse, Option, Some, None, option_map, refl, ap, ◌∙◌}
use Rattle.dnr_base.specs.declared.candidate.Candidate.{Candidate}
use Rattle.dnr_base.specs.declared.request.Request.{Request}
use Rattle.dnr_spec.specs.Suffixes.{SuffixRule}
use Rattle.rule_spec.specs.Scan.{Verdict, scan, winner_of}
use Rattle.rule_spec.specs.State.{Extension, Live, State}
use Rattle.explain_spec.specs.Explanation.{Explanation, Why, explanation_of, why_of, why_rule}
use Rattle.generation.specs.Explained.{why_found, why_in}
use Rattle.generation.specs.Kept.{Kept, kept_from}
use Rattle.generation.proofs.Said.{kept_says, said_by, with_frame}

winner_is : (suffixes : List SuffixRule) (request : Request) (name : List ℕ) (o : Option (Live × Candidate))
    → option_map (why_found name) (option_map (with_frame suffixes request) o) ≡ option_map (why_rule suffixes request name) o
winner_is suffixes request name None = refl
winner_is suffixes request name (Some one) = refl

said_is : (suffixes : List SuffixRule) (request : Request) (age : ℕ) (extension : Extension)
    → why_in (said_by suffixes request age extension) ≡ why_of suffixes request extension
said_is suffixes request age extension =
    let why : Option _ → Why = λ winner. record { ext = extension.name; winner = winner } in
    ap why (winner_is suffixes request extension.name (winner_of suffixes request extension))

reasons_are : (suffixes : List SuffixRule) (request : Request) (age : ℕ) (extensions : List Extension)
    → map why_in (kept_from suffixes request age extensions) ≡ map (why_of suffixes request) extensions
reasons_are suffixes request age [] = refl
reasons_are suffixes request age (extension ∷ extensions) =
    ap (λ why. why ∷ map why_in (kept_from suffixes request (age + 1) extensions)) (ap why_in (kept_says suffixes request age extension) ∙ said_is suffixes request age extension)
    ∙ ap (λ l. why_of suffixes request extension ∷ l) (reasons_are suffixes request (age + 1) extensions)

abbrev explained_by : Verdict → List Why → Explanation
explained_by verdict why = record { verdict = verdict; why = why }

pub explanation_is : (suffixes : List SuffixRule) (state : State) (request : Request) (verdict : Verdict) (why : List Why) (kepts : List Kept)
    → kepts ≡ kept_from suffixes request 0 state.extensions → verdict ≡ scan suffixes state request → why ≡ reverse (map why_in kepts)
    → record { verdict = verdict; why = why } ≡ explanation_of suffixes state request
unfolding explanation_of
explanation_is suffixes state request verdict why kepts are is said =
    ap (λ v. explained_by v why) is
    ∙ ap (explained_by (scan suffixes state request)) (said ∙ ap (λ k. reverse (map why_in k)) are ∙ ap reverse (reasons_are suffixes request 0 state.extensions))
