use Rattle.action_read.proofs.Names.{no_new_scheme}
use Rattle.action_read.proofs.transforms.scheme_named.Goals as goal

pub returns-in_default : goal.returns-in_default
returns-in_default c =
    let not = c.in_default in
    no_new_scheme c.args.name.now not.not-http not.not-https not.not-ftp not.not-text
