use Rattle.std.proofs.Common.{ℕ, ◌<◌}
use Rattle.regex_literal.specs.Find.{OccursAt, needle_at}
use Rattle.regex_host.proofs.prefilter.lacks_all.Given as goal

abbrev pub invariant-loop-finder : goal.invariant-loop-finder
invariant-loop-finder l = (n k : ℕ) → n < l.finder-index → ¬ OccursAt l.text (needle_at l.finders n) k
