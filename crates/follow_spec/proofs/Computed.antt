-- The examples are computed.
use Rattle.std.specs.Prelude.{refl}
use Rattle.url.proofs.OnLiterals.{url_on_literals}
use Rattle.rule_spec.specs.Scan.{scan}
use Rattle.follow_spec.specs.Trace.{trace_from}
use Rattle.follow_spec.specs.Examples.{TracesFollowRedirects, UpgradesAreFollowed, LoopsEndWhereTheyClose, BadTargetsEndATrace, TracesAreBounded}

pub traces_follow_redirects : TracesFollowRedirects
unfolding scan trace_from url_on_literals
traces_follow_redirects = (refl, refl)

pub upgrades_are_followed : UpgradesAreFollowed
unfolding scan trace_from url_on_literals
upgrades_are_followed = (refl, refl)

pub loops_end_where_they_close : LoopsEndWhereTheyClose
unfolding scan trace_from url_on_literals
loops_end_where_they_close = ((refl, refl), (refl, refl))

pub bad_targets_end_a_trace : BadTargetsEndATrace
unfolding scan trace_from url_on_literals
bad_targets_end_a_trace = (refl, refl)

pub traces_are_bounded : TracesAreBounded
unfolding scan trace_from url_on_literals
traces_are_bounded = (refl, refl, refl, refl)
