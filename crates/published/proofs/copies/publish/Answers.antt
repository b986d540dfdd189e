use Rattle.std.proofs.Common.{drop}
use Rattle.published.proofs.Next.{goes_on}
use Rattle.published.proofs.copies.publish.Goals as goal

pub publish_as-requires : goal.publish_as-requires
publish_as-requires g c next is = goes_on _ _ _ _ c.args.copies.desk.shown.value next (drop c.args.copies.behind c.args.copies.log.items) c.requires.next is
