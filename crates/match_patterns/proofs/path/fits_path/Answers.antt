use Rattle.std.proofs.Common.{◌∙◌, sym, ap}
use Rattle.match_patterns.proofs.Paths.{fits, plain_exact, strips, strips_not}
use Rattle.match_patterns.proofs.path.fits_path.Goals as goal

pub returns-in_default : goal.returns-in_default
returns-in_default c =
    let split = rw c.in_default.is at c.split_at_star.ensures in
    c.eq.ensures ∙ sym (ap (λ p. fits p c.args.text.now) split.1 ∙ plain_exact c.split_at_star.result.0.now c.args.text.now split.0)

pub returns-in-Some-strip_prefix : goal.returns-in-Some-strip_prefix
returns-in-Some-strip_prefix c =
    let split = rw c.in-Some.is at c.split_at_star.ensures in
    c.fits_some_end.ensures ∙ sym (strips c.args.path.now c.split_at_star.result.0.now c.in-Some.behind.now c.args.text.now c.in-Some-strip_prefix.rest.now split.0 split.1 c.in-Some-strip_prefix.ensures.cases.0 c.in-Some-strip_prefix.ensures.cases.1)

pub returns-in-None : goal.returns-in-None
returns-in-None c =
    let split = rw c.in-Some.is at c.split_at_star.ensures in
    sym (strips_not c.args.path.now c.split_at_star.result.0.now c.in-Some.behind.now c.args.text.now split.0 split.1 c.in-None.ensures.cases)
