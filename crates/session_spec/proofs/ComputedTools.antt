-- The examples of `hide` and `prune` are computed.
use Rattle.std.specs.Prelude.{refl}
use Rattle.std.specs.Char.{encode_utf8}
use Rattle.std.specs.Str.{is_utf8, chars}
use Rattle.url.proofs.OnLiterals.{url_on_literals}
use Rattle.serde_json.proofs.OnLiterals.{serde_json_on_literals}
use Rattle.hide_spec.specs.Hidden.{hidden}
use Rattle.hide_spec.specs.Report.{hide_report}
use Rattle.json_spec.specs.Written.{with_tab_in_place, kinds_written, exclusion_written, condition_written, transform_written, action_written, rule_written}
use Rattle.session_spec.specs.ToolExamples.{ToolsTakeTheirWords, HiddenSelectorsAreListed, PrunedRulesAreListed}

pub tools_take_their_words : ToolsTakeTheirWords
tools_take_their_words = (refl, refl, refl, refl, refl, refl)

pub hidden_selectors_are_listed : HiddenSelectorsAreListed
unfolding hidden hide_report is_utf8 chars encode_utf8 url_on_literals serde_json_on_literals
hidden_selectors_are_listed = (refl, refl, refl)

pub pruned_rules_are_listed : PrunedRulesAreListed
unfolding with_tab_in_place kinds_written exclusion_written condition_written transform_written action_written rule_written url_on_literals serde_json_on_literals
pruned_rules_are_listed = refl
