-- One more of what is repeated.
use Rattle.std.proofs.Common.{◌≡◌, ℕ, ◌+◌, suc, refl, arith}
use Rattle.rand_pcg.specs.Lcg.{Lcg}
use Rattle.session_spec.specs.Sample.{Progress, with_rule, drawn_rules, asked, asked_times, updated, asked_in, rounds_to}
use Rattle.session_spec.specs.Words.{Sample}

pub more_rules : (count : ℕ) (generator : Lcg) → drawn_rules (count + 1) generator ≡ with_rule (count + 1) (drawn_rules count generator)
more_rules count generator =
    let next : count + 1 ≡ suc count = omega arith in
    rw next refl

pub more_asked : (count : ℕ) (now : Progress) → asked_times (count + 1) now ≡ asked (asked_times count now)
more_asked count now =
    let next : count + 1 ≡ suc count = omega arith in
    rw next refl

pub more_rounds : (sample : Sample) (round : ℕ) (now : Progress)
    → rounds_to sample (round + 1) now ≡ asked_times (asked_in sample (round + 1)) (updated (round + 1) (rounds_to sample round now))
more_rounds sample round now =
    let next : round + 1 ≡ suc round = omega arith in
    rw next refl
