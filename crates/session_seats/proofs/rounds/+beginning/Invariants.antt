use Rattle.std.proofs.Common.{length}
use Rattle.session_seats.proofs.rounds.+beginning.Given as goal

abbrev pub decreases-begin_all : goal.decreases-begin_all
decreases-begin_all g l = length l.desks.now
