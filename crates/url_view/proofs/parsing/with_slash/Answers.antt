use Rattle.std.proofs.Common.{sym, ap, ◌∙◌, subst}
use Rattle.std.specs.Prelude.{Ok}
use Rattle.dnr_base.specs.View.{IsView}
use Rattle.url_view.proofs.PlainUrls.{seen}
use Rattle.url_view.proofs.Origins.{origin_is_view, view_of-origin}
use Rattle.url_view.proofs.parsing.with_slash.Goals as goal

pub build-requires-in-Ok : goal.build-requires-in-Ok
build-requires-in-Ok c =
    let text = c.build.ensures ∙ c.in-Ok.ensures in
    subst (λ t. IsView (seen t c.args.origin.cut c.args.origin.scheme c.args.origin.host)) (sym text) (origin_is_view c.requires.origin)

pub returns-in-Ok-clause-read : goal.returns-in-Ok-clause-read
returns-in-Ok-clause-read c =
    let text = c.build.ensures ∙ c.in-Ok.ensures in
    view_of-origin c.requires.origin c.requires.short
    ∙ ap (λ t. Ok (seen t c.args.origin.cut c.args.origin.scheme c.args.origin.host)) (sym text)
    ∙ ap Ok (sym c.build-in-Ok.ensures)
