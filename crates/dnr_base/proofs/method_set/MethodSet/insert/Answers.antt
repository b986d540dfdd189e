use Rattle.std.proofs.Common.{ap, subst, sym, ◌<◌, ◌^◌}
use Rattle.std.specs.Prelude.{bit_or}
use Rattle.dnr_base.specs.Method.{all_methods, place_of}
use Rattle.dnr_base.specs.MethodSet.{methods_of}
use Rattle.dnr_base.proofs.BitSets.{among-insert, members-insert, alone-insert}
use Rattle.dnr_base.proofs.MethodSets.{methods_listed}
use Rattle.dnr_base.proofs.method_set.MethodSet.insert.Goals as goal

pub returns-clause-members : goal.returns-clause-members
unfolding methods_of
returns-clause-members c = λ other. among-insert place_of all_methods 9 methods_listed c.args.self.now.bits _ c.args.method other (ap (λ bit. bit_or c.args.self.now.bits bit) c.bit.ensures)

pub returns-clause-list : goal.returns-clause-list
unfolding methods_of
returns-clause-list c = members-insert place_of all_methods 9 methods_listed c.args.self.now.bits _ c.args.method (ap (λ bit. bit_or c.args.self.now.bits bit) c.bit.ensures)

pub invariant_of-self : goal.invariant_of-self
invariant_of-self c =
    record { methods_alone = subst (λ bit. bit_or c.args.self.now.bits bit < 2 ^ 9) (sym c.bit.ensures) (alone-insert place_of all_methods 9 methods_listed c.args.self.now.bits c.args.method c.args.self.now.methods_alone) }
