use Rattle.std.proofs.Common.{sym, ap, ◌∙◌, subst}
use Rattle.std.specs.Prelude.{Ok}
use Rattle.dnr_base.specs.View.{IsView}
use Rattle.url_view.proofs.PlainUrls.{seen, plain_is_view, view_of-plain}
use Rattle.url_view.proofs.parsing.copied.Goals as goal

pub build-requires-in-Ok : goal.build-requires-in-Ok
build-requires-in-Ok c =
    let text = c.build.ensures ∙ c.in-Ok.ensures.ok in
    subst (λ t. IsView (seen t c.args.plain.cut c.args.plain.scheme c.args.plain.host)) (sym text) (plain_is_view c.requires.plain)

pub returns-in-Ok-clause-read : goal.returns-in-Ok-clause-read
returns-in-Ok-clause-read c =
    let text = c.build.ensures ∙ c.in-Ok.ensures.ok in
    view_of-plain c.requires.plain c.requires.short
    ∙ ap (λ t. Ok (seen t c.args.plain.cut c.args.plain.scheme c.args.plain.host)) (sym text)
    ∙ ap Ok (sym c.build-in-Ok.ensures)
