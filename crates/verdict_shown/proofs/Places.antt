-- Texts that stand in bytes which grow at their end.
use Rattle.std.proofs.Common.{◌≡◌, ℕ, ◌+◌, ◌≤◌, List, ◌++◌, length, take, drop, Bool, true, false, rules, arith, refl, sym, ap, ◌∙◌}
use Rattle.std.proofs.lemmas.List.{drop-take, take-take, length-append}
use Rattle.std.proofs.Math.Seq.{take-append_seam, drop-append_seam, take-length}
use Rattle.verdict_shown.specs.Shown.{text_at, rule_at, if_given}
use Rattle.verdict_shown.specs.Written.{Grows, text_ends, IsRuleWithin}
use Rattle.verdict_shown.specs.declared.shown.ShownText.{ShownText}
use Rattle.verdict_shown.specs.declared.shown.ShownRule.{ShownRule}

pub grows_same : (bytes : List ℕ) → Grows bytes bytes
unfolding Grows
grows_same bytes = (omega arith, take-length bytes)

pub grows_longer : (before after : List ℕ) → Grows before after → length before ≤ length after
unfolding Grows
grows_longer before after h = h.0

pub grows_on : (first second third : List ℕ) → Grows first second → Grows second third → Grows first third
unfolding Grows
grows_on first second third h k =
    let a = h.0 in let b = k.0 in
    (omega (arith, a, b), sym (take-take (length first) (length second) third a) ∙ ap (take (length first)) k.1 ∙ h.1)

pub text_grows : (before after text : List ℕ) → after ≡ before ++ text → Grows before after
unfolding Grows
text_grows before after text same =
    let long = length-append before text in
    rw same (omega (arith, long), take-append_seam before text)

pub text_put : (before after text : List ℕ) (place : ShownText) → after ≡ before ++ text → place.from ≡ length before → place.length ≡ length text → text_at after place ≡ text
unfolding text_at
text_put before after text place same from long =
    rw (same, from, long) (ap (take (length text)) (drop-append_seam before text) ∙ take-length text)

pub text_stays : (before after : List ℕ) (place : ShownText) → Grows before after → text_ends place ≤ length before → text_at after place ≡ text_at before place
unfolding Grows text_at
text_stays before after place h within =
    sym (drop-take place.from place.length after)
    ∙ ap (drop place.from) (sym (take-take (place.from + place.length) (length before) after within) ∙ ap (take (place.from + place.length)) h.1)
    ∙ drop-take place.from place.length before

pub given_stays : (before after : List ℕ) (has : Bool) (place : ShownText) → Grows before after → text_ends place ≤ length before → if_given has (text_at after place) ≡ if_given has (text_at before place)
given_stays before after has place h within = ap (if_given has) (text_stays before after place h within)

pub rule_stays : (before after : List ℕ) (rule : ShownRule) → Grows before after → IsRuleWithin (length before) rule → rule_at after rule ≡ rule_at before rule
rule_stays before after rule h within =
    let e = text_stays before after rule.extension h within.0 in
    let s = text_stays before after rule.ruleset h within.1 in
    rw (e, s) refl

pub rule_given_stays : (before after : List ℕ) (has : Bool) (rule : ShownRule) → Grows before after → IsRuleWithin (length before) rule → if_given has (rule_at after rule) ≡ if_given has (rule_at before rule)
rule_given_stays before after has rule h within = ap (if_given has) (rule_stays before after rule h within)

pub rule_within_on : (before after : List ℕ) (rule : ShownRule) → Grows before after → IsRuleWithin (length before) rule → IsRuleWithin (length after) rule
rule_within_on before after rule h within =
    let longer = grows_longer before after h in
    let e = within.0 in let s = within.1 in
    (omega (arith, longer, e), omega (arith, longer, s))
