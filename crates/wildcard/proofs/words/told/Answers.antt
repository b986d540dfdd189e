use Rattle.std.proofs.Common.{ap, ◌==◌}
use Rattle.std.proofs.lemmas.Nat.Bits.{shr_and_one}
use Rattle.wildcard.proofs.words.told.Goals as goal

pub returns : goal.returns
returns c = ap (λ v. v == 1) (shr_and_one c.args.word c.args.place)
