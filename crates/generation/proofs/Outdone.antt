-- What is kept stays where the next rule cannot beat it.
use Rattle.std.proofs.Common.{◌≡◌, ℕ, ◌≤◌, Bool, true, false, Option, Some, refl, sym, ap, ◌∙◌, arith}
use Rattle.std.specs.Prelude.{max, if◌then◌else◌}
use Rattle.std.proofs.lemmas.Bool.{cond-false}
use Rattle.dnr_base.specs.declared.verb.Verb.{Verb}
use Rattle.rule_spec.specs.Scan.{allowed_priority}
use Rattle.rule_spec.specs.State.{Live}
use Rattle.generation.specs.Kept.{Found, Kept, better_of, found_by, is_stronger, with_deciding}

abbrev with_both : Kept → Option Found → ℕ → Kept
with_both kept best allowed = record kept { best = best; allowed = allowed }

pub deciding_outdone : (kept : Kept) (live : Live) (verb : Verb) (best : Found) → kept.best ≡ Some best
    → allowed_priority live.rule.action live.rule.priority ≤ kept.allowed → (frame : Option ℕ) → is_stronger (found_by live verb frame) best ≡ false
    → with_deciding kept live verb frame ≡ kept
deciding_outdone kept live verb best is low frame loses =
    let next = found_by live verb frame in
    let more = max (allowed_priority live.rule.action live.rule.priority) kept.allowed in
    ap (λ b. with_both kept (better_of is_stronger b next) more) is
    ∙ ap (λ b. with_both kept b more) (cond-false (is_stronger next best) (Some next) (Some best) loses ∙ sym is)
    ∙ ap (λ (n : ℕ). with_both kept kept.best n) (omega (arith, low))

-- what a candidate leaves as it is stays so, be the rule a candidate or not
pub stays : (b : Bool) (new kept : Kept) → new ≡ kept → (if b then new else kept) ≡ kept
stays true new kept h = h
stays false new kept h = refl
