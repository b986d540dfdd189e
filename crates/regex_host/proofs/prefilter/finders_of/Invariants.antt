use Rattle.std.proofs.Common.{◌≡◌, ◌++◌, length, map}
use Rattle.regex_extract.specs.Needles.{needles_of}
use Rattle.regex_host.proofs.prefilter.finders_of.Given as goal

abbrev pub invariant-loop-needle : goal.invariant-loop-needle
invariant-loop-needle l = l.finders.items ++ map (λ n. n.items) l.left ≡ needles_of l.fn.needles

abbrev pub decreases-loop-needle : goal.decreases-loop-needle
decreases-loop-needle l = length l.left
