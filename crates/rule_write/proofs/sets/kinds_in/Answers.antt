use Rattle.std.proofs.Common.{◌≡◌, filter, IfOk, subst}
use Rattle.dnr_base.specs.Kind.{has_kind}
use Rattle.dnr_base.specs.KindSet.{kinds_of}
use Rattle.rule_write.proofs.sets.kinds_in.Goals as goal

pub returns : goal.returns
returns c = subst (λ all. IfOk c.kinds_among.result (λ list. list.items ≡ filter (has_kind (kinds_of c.args.kinds)) all)) c.as_slice.ensures c.kinds_among.ensures
