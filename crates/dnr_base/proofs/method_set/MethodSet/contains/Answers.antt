use Rattle.std.proofs.Common.{◌∙◌, sym, ap, not, ◌==◌}
use Rattle.std.specs.Prelude.{bit_and}
use Rattle.dnr_base.specs.Method.{all_methods, place_of}
use Rattle.dnr_base.specs.MethodSet.{methods_of}
use Rattle.dnr_base.proofs.BitSets.{among-members}
use Rattle.dnr_base.proofs.MethodSets.{methods_listed}
use Rattle.dnr_base.proofs.method_set.MethodSet.contains.Goals as goal

pub returns : goal.returns
unfolding methods_of
returns c = ap (λ bit. not (bit_and c.args.self.now.bits bit == 0)) c.bit.ensures ∙ sym (among-members place_of all_methods 9 methods_listed c.args.self.now.bits c.args.method)
