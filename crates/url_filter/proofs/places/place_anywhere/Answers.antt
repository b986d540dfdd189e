use Rattle.url_filter.proofs.Pieces.{place_tells, shorter}
use Rattle.url_filter.proofs.places.place_anywhere.Goals as goal

pub returns-in_default : goal.returns-in_default
returns-in_default c = record {
  told = place_tells c.args.ends c.args.fold c.args.pattern.now c.args.text.now c.loop-stop.rest.now c.walk.result c.loop-stop.invariant c.walk.ensures c.in_default.not-Fails;
  shorter = shorter c.args.ends c.args.fold c.args.pattern.now c.loop-stop.rest.now c.walk.result c.walk.ensures;
}
