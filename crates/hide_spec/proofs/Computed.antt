-- The examples are computed.
use Rattle.std.proofs.Common.{length, refl, lt-ltb}
use Rattle.std.proofs.lemmas.Bool.{cond-true}
use Rattle.std.specs.Prelude.{nat_lt}
use Rattle.std.specs.Char.{encode_utf8}
use Rattle.std.specs.Str.{is_utf8, chars}
use Rattle.list_spec.specs.LineKind.{max_list_line, trimmed}
use Rattle.hide_spec.specs.declared.hide_reason.HideReason.TheVariants.{LineTooLong}
use Rattle.hide_spec.specs.HidingLine.{unsupported, hide_line_of_trimmed}
use Rattle.hide_spec.specs.Hidden.{hidden}
use Rattle.hide_spec.specs.Report.{hide_report}
use Rattle.hide_spec.specs.Examples.{PagesOfASmallList, OtherLinesHideNothing, LongestDomainDecides, ExceptionsKeepWhereTheyApply, SelectorsAscendAndStandOnce, LeftmostSeparatorSplits, DomainsStandBetweenCommas, BothDomainsAreComparedInLowerCase, LongLinesComeFirst, ReasonsComeInOrder, ReportOfHidingLines, HostsOfPages}

pub pages_of_a_small_list : PagesOfASmallList
unfolding is_utf8 chars encode_utf8 hidden
pages_of_a_small_list = (refl, refl, refl)

pub other_lines_hide_nothing : OtherLinesHideNothing
unfolding is_utf8 chars encode_utf8 hidden hide_report
other_lines_hide_nothing = (refl, refl, refl, refl)

pub longest_domain_decides : LongestDomainDecides
unfolding is_utf8 chars encode_utf8 hidden
longest_domain_decides = (refl, refl, refl, refl, refl, refl, refl)

pub exceptions_keep_where_they_apply : ExceptionsKeepWhereTheyApply
unfolding is_utf8 chars encode_utf8 hidden
exceptions_keep_where_they_apply = (refl, refl, refl)

pub selectors_ascend_and_stand_once : SelectorsAscendAndStandOnce
unfolding is_utf8 chars encode_utf8 hidden
selectors_ascend_and_stand_once = refl

pub leftmost_separator_splits : LeftmostSeparatorSplits
unfolding is_utf8 chars encode_utf8
leftmost_separator_splits = refl

pub domains_stand_between_commas : DomainsStandBetweenCommas
unfolding is_utf8 chars encode_utf8
domains_stand_between_commas = refl

pub both_domains_are_compared_in_lower_case : BothDomainsAreComparedInLowerCase
unfolding is_utf8 chars encode_utf8
both_domains_are_compared_in_lower_case = refl

pub long_lines_come_first : LongLinesComeFirst
long_lines_come_first bytes long = cond-true (nat_lt max_list_line (length bytes)) (unsupported LineTooLong) (hide_line_of_trimmed (trimmed bytes)) (lt-ltb max_list_line (length bytes) long)

pub reasons_come_in_order : ReasonsComeInOrder
unfolding is_utf8 chars encode_utf8
reasons_come_in_order = refl

pub report_of_hiding_lines : ReportOfHidingLines
unfolding is_utf8 chars encode_utf8 hide_report
report_of_hiding_lines = (refl, refl)

pub hosts_of_pages : HostsOfPages
hosts_of_pages = refl
