-- What a refusal adds to its code.
use Rattle.session_spec.specs.Refusals as spec
use Rattle.explain_report.specs.declared.rules.Detail.{Detail}
use Rattle.explain_report.specs.declared.rules.Detail.TheVariants.{Nothing, Path, Why}

abbrev pub detail_seen : Detail → spec.Detail
detail_seen Nothing = spec.nothing
detail_seen (Path path) = spec.path path
detail_seen (Why why) = spec.why why.now
