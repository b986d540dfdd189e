use Rattle.generation.proofs.generation.Generation.decide_uncounted.Given as goal

abbrev pub ghosts-verdict_over : goal.ghosts-verdict_over
ghosts-verdict_over g a = record { name = a.blank.name; parts = a.blank.parts }
