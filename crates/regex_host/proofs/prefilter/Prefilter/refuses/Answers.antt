use Rattle.regex_host.proofs.Patterns.{bytes_below}
use Rattle.regex_host.proofs.prefilter.Prefilter.refuses.Goals as goal

pub returns-in-Some : goal.returns-in-Some
returns-in-Some c = λ lacking.
    rw (← c.self.view_is) ((rw c.in-Some.is at c.self.invariant) c.args.text.now (bytes_below c.args.text.now c.type_inv.text) (rw c.deref.ensures.value at (c.lacks_all.ensures lacking)))
