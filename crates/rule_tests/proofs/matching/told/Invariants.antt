use Rattle.rule_tests.proofs.matching.told.Given as goal

abbrev pub ghosts-plainly : goal.ghosts-plainly
ghosts-plainly a = record { name = a.blank.name; parts = a.blank.parts }
