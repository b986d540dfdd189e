use Rattle.std.proofs.Common.{w64, ap, ◌==◌}
use Rattle.std.proofs.lemmas.Nat.Bits.{bit_at_set_same, bit_at_set_other}
use Rattle.wildcard.proofs.words.with.Goals as goal

pub returns-clause-here : goal.returns-clause-here
returns-clause-here c = ap (λ v. v == 1) (bit_at_set_same w64 c.args.word c.args.place c.requires)

pub returns-clause-others : goal.returns-clause-others
returns-clause-others c i other = ap (λ v. v == 1) (bit_at_set_other w64 c.args.word c.args.place c.requires i other)
