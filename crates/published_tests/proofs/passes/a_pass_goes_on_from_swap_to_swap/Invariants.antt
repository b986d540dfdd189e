use Rattle.published_tests.proofs.passes.a_pass_goes_on_from_swap_to_swap.Given as goal

-- the history that was just opened, and what the first generation decides by
abbrev pub ghosts-lines_between_swaps : goal.ghosts-lines_between_swaps
ghosts-lines_between_swaps g a = record { book = a.opened; opening = a.first }
