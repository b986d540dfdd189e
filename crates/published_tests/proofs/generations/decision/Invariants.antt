use Rattle.published_tests.proofs.generations.decision.Given as goal

-- a ledger of its own for each call
abbrev pub ghosts-decided : goal.ghosts-decided
ghosts-decided a = record { name = a.blank.name; parts = a.blank.parts }
