use Rattle.session_seats.proofs.round_lines.keep_buffers.Given as goal

abbrev pub decreases-loop-line : goal.decreases-loop-line
decreases-loop-line l = goal.left-loop-line l
