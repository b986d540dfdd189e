-- The examples of words and lines are computed.
use Rattle.std.specs.Prelude.{refl}
use Rattle.url.proofs.OnLiterals.{url_on_literals}
use Rattle.serde_json.proofs.OnLiterals.{serde_json_on_literals}
use Rattle.session_spec.specs.LineExamples.{WorkersAreFew, SamplesHaveLimits, CountsAreSaid, RefusedUpdatesSayWhy, RefusedRulesSayWhere, RefusedBatchesSayWhich, BadLinesSayWhy, FaultsNameTheirRule, ExplanationsAreListed}

pub workers_are_few : WorkersAreFew
workers_are_few = (refl, refl, refl, refl, refl, refl, refl, refl)

pub samples_have_limits : SamplesHaveLimits
samples_have_limits = (refl, refl, refl, refl, refl, refl, refl, refl)

pub counts_are_said : CountsAreSaid
unfolding url_on_literals serde_json_on_literals
counts_are_said = (refl, refl)

pub refused_updates_say_why : RefusedUpdatesSayWhy
unfolding url_on_literals serde_json_on_literals
refused_updates_say_why = (refl, refl, refl, refl, refl, refl, refl)

pub refused_rules_say_where : RefusedRulesSayWhere
unfolding url_on_literals serde_json_on_literals
refused_rules_say_where = (refl, refl)

pub refused_batches_say_which : RefusedBatchesSayWhich
unfolding url_on_literals serde_json_on_literals
refused_batches_say_which = (refl, refl)

pub bad_lines_say_why : BadLinesSayWhy
unfolding url_on_literals serde_json_on_literals
bad_lines_say_why = (refl, refl, refl, refl, refl)

pub faults_name_their_rule : FaultsNameTheirRule
unfolding url_on_literals serde_json_on_literals
faults_name_their_rule = refl

pub explanations_are_listed : ExplanationsAreListed
unfolding url_on_literals serde_json_on_literals
explanations_are_listed = (refl, refl, refl)
