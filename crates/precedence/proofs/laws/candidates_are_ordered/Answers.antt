use Rattle.precedence.proofs.Orders.{beats_is_order, beats_one_of_two}
use Rattle.precedence.proofs.laws.candidates_are_ordered.Goals as goal

pub returns-clause-ordered : goal.returns-clause-ordered
returns-clause-ordered c = beats_is_order

pub returns-clause-one_beats : goal.returns-clause-one_beats
returns-clause-one_beats c = beats_one_of_two
