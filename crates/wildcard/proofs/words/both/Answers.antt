use Rattle.wildcard.proofs.Bits.{tells_both}
use Rattle.wildcard.proofs.words.both.Goals as goal

pub returns : goal.returns
returns c = tells_both c.args.one c.args.other
