use Rattle.std.proofs.Common.{subst}
use Rattle.rules_file.specs.Listed.{HasTimesIn}
use Rattle.rules_file.proofs.Objects.{absent_is}
use Rattle.rules_file.proofs.listed.read_listed.Goals as goal

pub returns-in-Ok-eq0-clause-read : goal.returns-in-Ok-eq0-clause-read
returns-in-Ok-eq0-clause-read g c =
    absent_is c.args.bytes.now c.args.name.now (subst (λ n. HasTimesIn c.args.bytes.now c.args.name.now n) c.in-Ok-eq0.field-0-test c.in-Ok-eq0.ensures.counted)
