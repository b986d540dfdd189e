use Rattle.session_serve.proofs.following.trace_of.Given as goal

abbrev pub ghosts-trace_over : goal.ghosts-trace_over
ghosts-trace_over g a = record { name = a.blank.name; parts = a.blank.parts }
