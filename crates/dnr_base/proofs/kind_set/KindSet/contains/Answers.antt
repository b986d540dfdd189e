use Rattle.std.proofs.Common.{◌∙◌, sym, ap, not, ◌==◌}
use Rattle.std.specs.Prelude.{bit_and}
use Rattle.dnr_base.specs.Kind.{all_kinds, place_of}
use Rattle.dnr_base.specs.KindSet.{kinds_of}
use Rattle.dnr_base.proofs.BitSets.{among-members}
use Rattle.dnr_base.proofs.KindSets.{kinds_listed}
use Rattle.dnr_base.proofs.kind_set.KindSet.contains.Goals as goal

pub returns : goal.returns
unfolding kinds_of
returns c = ap (λ bit. not (bit_and c.args.self.now.bits bit == 0)) c.bit.ensures ∙ sym (among-members place_of all_kinds 15 kinds_listed c.args.self.now.bits c.args.kind)
