use Rattle.session_seats.proofs.serving.serve_with_seats.Given as goal

-- the history that was just opened, and what the generation decides by
abbrev pub ghosts-serve_pair : goal.ghosts-serve_pair
ghosts-serve_pair g a = record { book = a.opened; opening = a.generation }
