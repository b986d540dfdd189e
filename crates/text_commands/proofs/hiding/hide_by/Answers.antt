use Rattle.std.proofs.Common.{◌≡◌, rules}
use Rattle.list_spec.specs.LineKind.{lines_of}
use Rattle.hide_spec.specs.Hidden.{hiding_lines}
use Rattle.hide_spec.specs.Report.{hide_report}
use Rattle.session_spec.specs.Refusals.{list_line, too_many_rules}
use Rattle.text_commands.specs.Texts.{HidesTooMany, ShowsPage}
use Rattle.text_commands.proofs.Ended.{refused_once, written_once}
use Rattle.text_commands.proofs.Pages.{page_shown, too_many_lines}
use Rattle.text_commands.proofs.hiding.hide_by.Goals as goal

pub returns-in-Ok : goal.returns-in-Ok
returns-in-Ok g c =
    let same : c.in-Ok.list ≡ hiding_lines (lines_of c.args.bytes.now) = search rules in
    let told : c.deref.result.now ≡ hide_report (lines_of c.args.bytes.now) = search rules in
    written_once (ShowsPage (lines_of c.args.bytes.now) c.args.host.now) (HidesTooMany c.args.name.now (lines_of c.args.bytes.now)) _ _ _ _ _
    (page_shown (lines_of c.args.bytes.now) c.args.host.now c.in-Ok.list c.deref.result.now same told c.in-Ok.ensures.few) c.print_page.ensures

pub returns-in-Err-TooManyLines : goal.returns-in-Err-TooManyLines
returns-in-Err-TooManyLines g c =
    refused_once (ShowsPage (lines_of c.args.bytes.now) c.args.host.now) (HidesTooMany c.args.name.now (lines_of c.args.bytes.now))
    (list_line c.args.name.now (too_many_rules c.in-Err-TooManyLines.count)) c.too_many.result _ _ _ _ c.too_many.ensures
    (too_many_lines c.args.name.now (lines_of c.args.bytes.now) c.in-Err-TooManyLines.count (search rules) (search rules)) c.stop_with.ensures
