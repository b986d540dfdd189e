use Rattle.std.proofs.Common.{ap, ◌-◌}
use Rattle.std.specs.Prelude.{bit_and}
use Rattle.dnr_base.specs.Method.{all_methods, place_of}
use Rattle.dnr_base.specs.MethodSet.{methods_of}
use Rattle.dnr_base.proofs.BitSets.{among-remove, members-remove}
use Rattle.dnr_base.proofs.MethodSets.{methods_listed}
use Rattle.dnr_base.proofs.method_set.MethodSet.remove.Goals as goal

pub returns-clause-members : goal.returns-clause-members
unfolding methods_of
returns-clause-members c = λ other. among-remove place_of all_methods 9 methods_listed c.args.self.now.bits _ c.args.method other (ap (λ bit. bit_and c.args.self.now.bits (65535 - bit)) c.bit.ensures)

pub returns-clause-list : goal.returns-clause-list
unfolding methods_of
returns-clause-list c = members-remove place_of all_methods 9 methods_listed c.args.self.now.bits _ c.args.method (ap (λ bit. bit_and c.args.self.now.bits (65535 - bit)) c.bit.ensures)
