use Rattle.regex_extract.specs.Needles.{needles_of, ContainsNeedle}
use Rattle.regex_hir.specs.Meaning.{meaning}
use Rattle.regex_host.specs.Prefilter.{AreNeeded}
use Rattle.regex_host.proofs.Prefilters.{needed, each}
use Rattle.regex_host.proofs.prefilter.needles_in.Goals as goal

pub returns : goal.returns
returns c =
    each (λ v. ContainsNeedle (meaning c.in-Some.parsed.hir) (needles_of v)) (λ v. AreNeeded (needles_of v) c.args.pattern.now c.args.fold)
    (λ v contains. needed c.args.fold c.args.pattern.now c.in-Some.parsed.hir _ (needles_of v) c.in-Some.ensures contains) c.required.result c.required.ensures.contains
