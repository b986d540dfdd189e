use Rattle.dnr_spec.specs.Order.{beats, prevails}
use Rattle.precedence.proofs.Orders.{beats_is_order, prevails_is_order}
use Rattle.precedence.proofs.Unbeaten.{is_kept}
use Rattle.precedence.proofs.laws.best_is_kept.Goals as goal

pub returns-clause-candidates : goal.returns-clause-candidates
returns-clause-candidates c = is_kept beats beats_is_order

pub returns-clause-winners : goal.returns-clause-winners
returns-clause-winners c = is_kept prevails prevails_is_order
