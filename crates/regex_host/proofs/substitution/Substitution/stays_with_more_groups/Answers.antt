use Rattle.regex_host.proofs.Substitutions.{read_by_nine}
use Rattle.regex_host.proofs.substitution.Substitution.stays_with_more_groups.Goals as goal

pub returns : goal.returns
returns c = read_by_nine
