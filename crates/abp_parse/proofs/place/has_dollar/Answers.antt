use Rattle.std.proofs.Common.{◌∙◌, sym}
use Rattle.abp_parse.proofs.Places.{no_dollar_told}
use Rattle.abp_parse.proofs.place.has_dollar.Goals as goal

pub returns : goal.returns
returns c none = no_dollar_told c.args.text.now c.memchr.result c.memchr.ensures (sym c.is_some.ensures ∙ none)
