use Rattle.std.proofs.Common.{◌∙◌, ap}
use Rattle.ruleset_store.specs.StaticIndex.{lists_of}
use Rattle.ruleset_store.proofs.Lists.{switched_lists}
use Rattle.ruleset_store.proofs.installed.InstalledExtension.switched.Goals as goal

pub with_sets-requires : goal.with_sets-requires
with_sets-requires c =
    ap lists_of c.in_ok-sets.ensures ∙ switched_lists c.args.disable.now c.args.enable.now c.sets.result.now ∙ ap lists_of c.sets.ensures
