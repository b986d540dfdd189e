use Rattle.std.proofs.Common.{length}
use Rattle.session_seats.proofs.rounds.+ending.Given as goal

abbrev pub decreases-end_all : goal.decreases-end_all
decreases-end_all g l = length l.desks.now
