use Rattle.published_tests.proofs.threads.passes_decide_beside_a_writer_that_swaps.Given as goal

-- the history that was just opened, and what the first generation decides by
abbrev pub ghosts-passes_in_order : goal.ghosts-passes_in_order
ghosts-passes_in_order g a = record { book = a.opened; opening = a.first }
