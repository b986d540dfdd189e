use Rattle.dnr_spec.specs.Headers.{is_appendable}
use Rattle.header_actions.proofs.words.is_appendable.Goals as goal

pub returns : goal.returns
unfolding is_appendable
returns c = c.is_among.ensures
