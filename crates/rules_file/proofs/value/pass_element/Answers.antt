use Rattle.json.proofs.Grammar.{left_none, left_some}
use Rattle.rules_file.specs.Reading.{value_in}
use Rattle.rules_file.proofs.value.pass_element.Goals as goal

pub returns-in-Ok-clause-passed : goal.returns-in-Ok-clause-passed
returns-in-Ok-clause-passed c = left_some (value_in c.args.depth c.args.reader.now) c.pass_value.new.reader c.in-Ok.ensures.value

pub returns-in-Err-clause-bad : goal.returns-in-Err-clause-bad
returns-in-Err-clause-bad c = left_none (value_in c.args.depth c.args.reader.now) c.in-Err.ensures.value
