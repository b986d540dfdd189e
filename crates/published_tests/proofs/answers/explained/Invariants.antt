use Rattle.published_tests.proofs.answers.explained.Given as goal

-- a ledger of its own for each call
abbrev pub ghosts-told : goal.ghosts-told
ghosts-told g a = record { name = a.blank.name; parts = a.blank.parts }
