use Rattle.std.proofs.Common.{◌∙◌, sym, ap}
use Rattle.dnr_spec.specs.UrlFilter.{some_end}
use Rattle.match_patterns.proofs.Paths.{fits, found_first, found_nowhere, last_is}
use Rattle.match_patterns.proofs.path.fits_some_end.Goals as goal

pub returns-in_default : goal.returns-in_default
returns-in_default c =
    let split = rw c.in_default.is at c.split_at_star.ensures in
    c.is_end.ensures ∙ sym (c.loop-behind.invariant ∙ ap (λ p. some_end (fits p) c.loop-behind.text.now) split.1 ∙ last_is c.split_at_star.result.0.now c.loop-behind.text.now split.0)

pub returns-in_default-find : goal.returns-in_default-find
returns-in_default-find c =
    let split = rw c.in-Some.is at c.split_at_star.ensures in
    let none = rw c.in_default-find.is at c.find.ensures in
    sym (c.loop-behind.invariant ∙ ap (λ p. some_end (fits p) c.loop-behind.text.now) split.1 ∙ found_nowhere c.split_at_star.result.0.now c.in-Some.behind.now c.loop-behind.text.now split.0 none)

pub left_behind-text-requires : goal.left_behind-text-requires
left_behind-text-requires c = c.in-Some-find.ensures.1.fits

pub loop-behind-preserved : goal.loop-behind-preserved
loop-behind-preserved c =
    let split = rw c.in-Some.is at c.split_at_star.ensures in
    c.loop-behind.invariant
    ∙ ap (λ p. some_end (fits p) c.loop-behind.text.now) split.1
    ∙ found_first c.split_at_star.result.0.now c.in-Some.behind.now c.loop-behind.text.now c.in-Some-find.place split.0 c.in-Some-find.ensures
    ∙ ap (some_end (fits c.in-Some.behind.now)) (sym c.left_behind-text.ensures)
