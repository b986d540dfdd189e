use Rattle.std.proofs.Common.{refl}
use Rattle.regex_host.proofs.Patterns.{found_nowhere}
use Rattle.regex_host.proofs.pack_host.PackHost.search_anew.Goals as goal

pub returns-in-Err-NoPattern-clause-found : goal.returns-in-Err-NoPattern-clause-found
returns-in-Err-NoPattern-clause-found c = found_nowhere _ _ _ ((rw c.in-Err-NoPattern.field-0-is at c.in-Err-NoPattern.ensures.no_pattern) refl)
