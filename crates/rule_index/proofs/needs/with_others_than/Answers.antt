use Rattle.std.proofs.Common.{◌∙◌, ap}
use Rattle.dnr_base.specs.Kind.{all_kinds}
use Rattle.dnr_base.specs.KindSet.{kinds_of}
use Rattle.rule_index.specs.Needs.{with_bits}
use Rattle.rule_index.proofs.Shown.{others_than}
use Rattle.rule_index.proofs.needs.with_others_than.Goals as goal

pub returns : goal.returns
returns c =
    c.with_others.ensures
    ∙ ap (with_bits c.args.bits) (others_than (kinds_of c.insert.new.self) (kinds_of c.empty-own.result) c.args.kind all_kinds c.empty-own.ensures c.insert.ensures.members)
