use Rattle.generation.proofs.generation.Generation.explain_uncounted.Given as goal

abbrev pub ghosts-explanation_over : goal.ghosts-explanation_over
ghosts-explanation_over g a = record { name = a.blank.name; parts = a.blank.parts }
