use Rattle.rules_file.proofs.Steps.{rest_passed, rest_broken}
use Rattle.rules_file.proofs.list.read_list.Goals as goal

pub returns-in-Ok-clause-read : goal.returns-in-Ok-clause-read
returns-in-Ok-clause-read g c =
    let before = rw c.in-Ok-Some.field-0-is at c.in-Ok-Some.ensures.refused in
    let rest = c.in-Ok.ensures.passed in
    rest_passed c.args.depth c.args.kind c.args.reader.now c.read_good.new.reader c.pass_rest.new.reader _ c.in-Ok-Some.refusal rest.0 before rest.1

pub returns-in-Ok-Some-clause-bad : goal.returns-in-Ok-Some-clause-bad
returns-in-Ok-Some-clause-bad g c = λ _.
    let before = rw c.in-Ok-Some.field-0-is at c.in-Ok-Some.ensures.refused in
    rest_broken c.args.depth c.args.kind c.args.reader.now c.read_good.new.reader _ c.in-Ok-Some.refusal before c.in-Err-pass_rest.ensures.bad
