use Rattle.std.proofs.Common.{rules, ◌≡◌}
use Rattle.dnr_spec.specs.UrlFilter as spec
use Rattle.url_filter.proofs.Filters.{fits_by}
use Rattle.url_filter.proofs.Pieces.{begin_tells}
use Rattle.url_filter.proofs.pattern.Pattern.begun.Goals as goal

pub returns-in-Anywhere : goal.returns-in-Anywhere
returns-in-Anywhere c =
    let anchored : spec.anchor_of c.args.self.now ≡ spec.anywhere = search rules in
    rw (fits_by c.args.self.now c.args.text.now c.args.host c.args.fold _ anchored, ← c.ends-ends.ensures, ← c.body-body.ensures) c.place.ensures.told

pub returns-in-Begin : goal.returns-in-Begin
returns-in-Begin c =
    let anchored : spec.anchor_of c.args.self.now ≡ spec.begin = search rules in
    rw (fits_by c.args.self.now c.args.text.now c.args.host c.args.fold _ anchored, ← c.ends-ends.ensures, ← c.body-body.ensures)
    (begin_tells c.ends-ends.result c.args.fold c.body-body.result.now c.args.text.now c.guided_walk.result c.guided_walk.ensures)
