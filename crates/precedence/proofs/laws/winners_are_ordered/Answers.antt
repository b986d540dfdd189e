use Rattle.precedence.proofs.Orders.{prevails_is_order, prevails_one_of_two}
use Rattle.precedence.proofs.laws.winners_are_ordered.Goals as goal

pub returns-clause-ordered : goal.returns-clause-ordered
returns-clause-ordered c = prevails_is_order

pub returns-clause-one_prevails : goal.returns-clause-one_prevails
returns-clause-one_prevails c = prevails_one_of_two
