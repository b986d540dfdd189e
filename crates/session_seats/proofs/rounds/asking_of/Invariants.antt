use Rattle.std.proofs.Common.{◌≡◌, take}
use Rattle.session_seats.specs.Seats.{asking}
use Rattle.session_seats.proofs.rounds.asking_of.Given as goal

abbrev pub invariant-loop-turn : goal.invariant-loop-turn
invariant-loop-turn g l = l.asking.items ≡ asking l.lines.reads (take l.turn l.dealt)
