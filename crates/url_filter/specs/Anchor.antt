-- The anchors of the program, as those of the definition.
use Rattle.dnr_spec.specs.UrlFilter as spec
use Rattle.url_filter.specs.declared.anchor.Anchor.{Anchor}
use Rattle.url_filter.specs.declared.anchor.Anchor.TheVariants.{Anywhere, Begin, Domain}

abbrev pub meaning : Anchor → spec.Anchor
meaning Anywhere = spec.anywhere
meaning Begin = spec.begin
meaning Domain = spec.domain
