use Rattle.published_tests.proofs.swaps.a_swap_without_memory_leaves_its_update_staged.Given as goal

-- the history that was just opened, and what the first generation decides by
abbrev pub ghosts-is_swapped_at_last : goal.ghosts-is_swapped_at_last
ghosts-is_swapped_at_last g a = record { book = a.opened; opening = a.first }
