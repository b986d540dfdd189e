use Rattle.std.proofs.Common.{sym, subst}
use Rattle.std.specs.Str.{IsAscii}
use Rattle.std.proofs.lemmas.Str.{IsAscii-take}
use Rattle.redirect_transform.proofs.targets.target.Goals as goal

pub substituted_text-requires-clause-ascii : goal.substituted_text-requires-clause-ascii
substituted_text-requires-clause-ascii c =
    subst IsAscii (sym c.text.ensures.value) (IsAscii-take c.args.view.now.full c.args.view.now.cut c.text.ensures.kept.ascii)
