use Rattle.std.proofs.Common.{◌≡◌, length, arith}
use Rattle.abp_compile.specs.Seen.{standing_seen, effect_seen, initiators_seen, in_common_of}
use Rattle.abp_compile.proofs.Named.{one_if, all_named, only_given}
use Rattle.abp_compile.proofs.work.Work.keep_common.Goals as goal

pub common-requires-clause-one : goal.common-requires-clause-one
common-requires-clause-one c = one_if c.has_common.result (length (in_common_of c.args.domains.now)) c.has_common.ensures c.if-has_common.true

pub common-requires-clause-named : goal.common-requires-clause-named
common-requires-clause-named c = all_named (standing_seen c.args.standing.now) (effect_seen c.args.effect) (in_common_of c.args.domains.now) c.requires.rules

pub keep-requires : goal.keep-requires
keep-requires c =
    let one : length (in_common_of c.args.domains.now) ≡ 1 = one_if c.has_common.result (length (in_common_of c.args.domains.now)) c.has_common.ensures c.if-has_common.true in
    only_given c.args.id (standing_seen c.args.standing.now) (effect_seen c.args.effect) (in_common_of c.args.domains.now) (initiators_seen c.in_ok-initiators.initiators)
    c.requires.rules c.in_ok-initiators.ensures c.requires.some (omega (arith, one))
