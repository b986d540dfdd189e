use Rattle.std.proofs.Common.{◌≡◌, length, fold}
use Rattle.key_table.specs.Asked.{asked_text}
use Rattle.key_table.specs.Hash.{hash_step, hash_bytes}
use Rattle.key_table.proofs.asked.hash_bytes.Given as goal

abbrev pub invariant-loop-b : goal.invariant-loop-b
invariant-loop-b l = fold hash_step l.hash (asked_text l.fold l.left) ≡ hash_bytes (asked_text l.fold l.fn.text)

abbrev pub decreases-loop-b : goal.decreases-loop-b
decreases-loop-b l = length l.left
