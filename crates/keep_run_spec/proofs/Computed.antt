-- The examples are computed.
use Rattle.std.specs.Prelude.{refl}
use Rattle.std.specs.Str.{is_utf8}
use Rattle.url.proofs.OnLiterals.{url_on_literals}
use Rattle.serde_json.proofs.OnLiterals.{serde_json_on_literals}
use Rattle.json_spec.specs.Written.{with_tab_in_place, kinds_written, exclusion_written, condition_written, transform_written, action_written, rule_written}
use Rattle.update_spec.specs.Judge.{judge_update}
use Rattle.keep_spec.specs.Written.{update_written}
use Rattle.keep_run_spec.specs.Examples.{KeepTakesThreeWords, KeptFilesAreTold, OthersAreBadLines, KeptOnesCount, FullFilesTakeNone}

pub keep_takes_three_words : KeepTakesThreeWords
keep_takes_three_words = (refl, refl, refl, refl, refl, refl)

pub kept_files_are_told : KeptFilesAreTold
unfolding url_on_literals serde_json_on_literals
kept_files_are_told = (refl, refl, refl, refl, refl)

pub others_are_bad_lines : OthersAreBadLines
others_are_bad_lines = (refl, refl, refl, refl, refl, refl)

pub kept_ones_count : KeptOnesCount
unfolding judge_update with_tab_in_place kinds_written exclusion_written condition_written transform_written action_written rule_written update_written url_on_literals serde_json_on_literals
kept_ones_count = (refl, refl, refl)

pub full_files_take_none : FullFilesTakeNone
unfolding judge_update with_tab_in_place kinds_written exclusion_written condition_written transform_written action_written rule_written update_written url_on_literals serde_json_on_literals
full_files_take_none = (refl, refl, refl)
