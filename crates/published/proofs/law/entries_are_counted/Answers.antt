use Rattle.published.proofs.Counted as counted
use Rattle.published.proofs.law.entries_are_counted.Goals as goal

pub returns : goal.returns
returns c = counted.entries_are_counted
