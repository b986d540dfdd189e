use Rattle.wildcard.specs.Words.{AreNoted}
use Rattle.wildcard.proofs.noted.note.Given as goal

abbrev pub invariant-loop-place : goal.invariant-loop-place
invariant-loop-place l = AreNoted l.fold l.text l.to l.place l.words
