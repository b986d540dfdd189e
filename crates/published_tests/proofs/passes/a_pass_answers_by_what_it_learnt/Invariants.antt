use Rattle.published_tests.proofs.passes.a_pass_answers_by_what_it_learnt.Given as goal

-- the history that was just opened, and what the first generation decides by
abbrev pub ghosts-one_of_two_learns : goal.ghosts-one_of_two_learns
ghosts-one_of_two_learns g a = record { book = a.opened; opening = a.first }
