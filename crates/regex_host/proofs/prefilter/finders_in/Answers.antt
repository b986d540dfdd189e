use Rattle.regex_host.proofs.prefilter.finders_in.Goals as goal

pub returns-in_ok-finders_of-in-Some : goal.returns-in_ok-finders_of-in-Some
returns-in_ok-finders_of-in-Some c = rw c.in_ok-finders_of-in-Some.ensures (rw c.in-Some.is at c.in_ok-needles.ensures)
