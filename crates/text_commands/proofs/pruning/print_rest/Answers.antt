use Rattle.std.proofs.Common.{rules}
use Rattle.session_spec.specs.Refusals.{list_line, too_many_rules}
use Rattle.text_commands.specs.Texts.{HoldsTooMany, ShowsRest}
use Rattle.text_commands.proofs.Ended.{refused_once}
use Rattle.text_commands.proofs.Pages.{too_many_held}
use Rattle.text_commands.proofs.pruning.print_rest.Goals as goal

pub returns-in-Err-TooManyRules : goal.returns-in-Err-TooManyRules
returns-in-Err-TooManyRules g c =
    refused_once (ShowsRest c.args.rules.now) (HoldsTooMany c.args.name.now c.args.rules.now)
    (list_line c.args.name.now (too_many_rules c.in-Err-TooManyRules.count)) c.too_many.result _ _ _ _ c.too_many.ensures
    (too_many_held c.args.name.now c.args.rules.now c.in-Err-TooManyRules.count (search rules) (search rules)) c.stop_with.ensures
