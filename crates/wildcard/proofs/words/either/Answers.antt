use Rattle.wildcard.proofs.Bits.{tells_either}
use Rattle.wildcard.proofs.words.either.Goals as goal

pub returns : goal.returns
returns c = tells_either c.args.one c.args.other
