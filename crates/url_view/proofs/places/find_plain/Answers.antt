use Rattle.std.proofs.Common.{rules, ◌≡◌, sym, length, ◌∙◌}
use Rattle.url_view.proofs.Found.{named, found, found_origin}
use Rattle.url_view.proofs.places.find_plain.Goals as goal

pub returns-then-is_empty-clause-origin : goal.returns-then-is_empty-clause-origin
returns-then-is_empty-clause-origin c = λ _.
    let none : length c.split_at.result.1.now ≡ 0 = search rules in
    found_origin c.in_ok-scheme.scheme c.args.text.now c.in_ok-scheme.rest.now c.split_at.result.0.now c.split_at.result.1.now
    c.in_ok-scheme.ensures.spelled c.in_ok-scheme.ensures.web
    (named _ _ _ _ c.name_len.ensures.value c.split_at.ensures.front c.split_at.ensures.back (sym c.is_named.ensures ∙ c.if-not-is_named.false)) none

pub returns-clause-rooted : goal.returns-clause-rooted
returns-clause-rooted c = λ _.
    found c.in_ok-scheme.scheme c.args.text.now c.in_ok-scheme.rest.now c.split_at.result.0.now c.split_at.result.1.now c.in_ok-behind_query.behind_query.now
    c.in_ok-scheme.ensures.spelled c.in_ok-scheme.ensures.web
    (named _ _ _ _ c.name_len.ensures.value c.split_at.ensures.front c.split_at.ensures.back (sym c.is_named.ensures ∙ c.if-not-is_named.false))
    c.in_ok-behind_query.ensures
