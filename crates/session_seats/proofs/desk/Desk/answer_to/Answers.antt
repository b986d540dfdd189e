use Rattle.std.proofs.Common.{ap, sym, ◌∙◌}
use Rattle.session_seats.specs.Said.{Said}
use Rattle.session_seats.proofs.desk.Desk.answer_to.Goals as goal

pub returns-then-said-place-clause-there : goal.returns-then-said-place-clause-there
returns-then-said-place-clause-there g c = rw (← c.self.view_is) (c.in_ok-said.ensures, ap (λ (s : Said). s.place) (sym c.said.view_is) ∙ c.if-said-place.true)
