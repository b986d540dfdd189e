use Rattle.std.proofs.Common.{rules, arith, ◌≡◌, Ok}
use Rattle.std.proofs.lemmas.Grind.{common_steps}
use Rattle.dnr_spec.specs.UrlFilter.{pattern_of}
use Rattle.url_filter.proofs.Filters.{pattern_ok}
use Rattle.url_filter.proofs.pattern.Pattern.read.Goals as goal

pub returns-clause-read : goal.returns-clause-read
returns-clause-read c =
    let filter : pattern_of c.args.text.now ≡ Ok c.args.text.now = pattern_ok c.args.text.now (search rules) (search rules) (search rules) (search rules) in
    grind (arith, common_steps, filter)

pub returns-clause-refused : goal.returns-clause-refused
returns-clause-refused c =
    let filter : pattern_of c.args.text.now ≡ Ok c.args.text.now = pattern_ok c.args.text.now (search rules) (search rules) (search rules) (search rules) in
    grind (arith, common_steps, filter)
