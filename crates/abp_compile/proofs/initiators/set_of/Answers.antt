use Rattle.abp_compile.proofs.Named.{named_again}
use Rattle.abp_compile.proofs.initiators.set_of.Goals as goal

pub returns-in-Ok : goal.returns-in-Ok
returns-in-Ok c = cc (named_again c.args.domains.now c.requires, c.in-Ok.ensures.read)
