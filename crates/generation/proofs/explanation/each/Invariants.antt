use Rattle.std.proofs.Common.{◌≡◌, ◌++◌, drop, map}
use Rattle.generation.specs.Explained.{why_in}
use Rattle.generation.proofs.explanation.each.Given as goal

abbrev pub invariant-loop-kept : goal.invariant-loop-kept
invariant-loop-kept l = map why_in l.kepts ≡ l.list.items ++ map why_in (drop l.kept-index l.kepts)
