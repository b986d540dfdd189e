use Rattle.std.proofs.Common.{sym, subst}
use Rattle.compile_spec.specs.Initiators as spec
use Rattle.compile_spec.specs.Initiators.{single}
use Rattle.abp_compile.specs.Seen.{effect_seen, standing_seen}
use Rattle.abp_compile.specs.Work.{IsGiven}
use Rattle.abp_compile.proofs.Named.{named_given}
use Rattle.abp_compile.proofs.work.Work.keep_single.Goals as goal

pub single-requires : goal.single-requires
single-requires c = named_given c.args.id (standing_seen c.args.standing.now) (effect_seen c.args.effect) (single c.args.domains.now.excluded.items c.args.domain.now) c.requires

pub keep-requires : goal.keep-requires
keep-requires c =
    subst (λ (i : spec.Initiators). IsGiven c.args.id (standing_seen c.args.standing.now) (effect_seen c.args.effect) i) (sym c.in_ok-initiators.ensures) c.requires
