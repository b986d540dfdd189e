use Rattle.rule_tests.proofs.matching.asked.Given as goal

abbrev pub ghosts-by_host : goal.ghosts-by_host
ghosts-by_host g a = record { name = a.blank.name; parts = a.blank.parts }
