use Rattle.dnr_base.specs.declared.direction.Direction.TheVariants.{Request, Response}
use Rattle.header_actions.proofs.Settled.{settled_nothing}
use Rattle.header_actions.proofs.standing.Standing.new.Goals as goal

pub returns : goal.returns
returns c = record { settled = settled_nothing; requests = c.new.ensures Request; responses = c.new-2.ensures Response }
