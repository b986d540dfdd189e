use Rattle.verdict_shown.proofs.Changes.{AreShown}
use Rattle.verdict_shown.proofs.writing.put_changes.Given as goal

abbrev pub invariant-loop-named : goal.invariant-loop-named
invariant-loop-named l = AreShown l.ops l.into.items l.shown.items l.named-index
