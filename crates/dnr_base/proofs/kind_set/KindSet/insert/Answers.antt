use Rattle.std.proofs.Common.{ap, subst, sym, ◌<◌, ◌^◌}
use Rattle.std.specs.Prelude.{bit_or}
use Rattle.dnr_base.specs.Kind.{all_kinds, place_of}
use Rattle.dnr_base.specs.KindSet.{kinds_of}
use Rattle.dnr_base.proofs.BitSets.{among-insert, members-insert, alone-insert}
use Rattle.dnr_base.proofs.KindSets.{kinds_listed}
use Rattle.dnr_base.proofs.kind_set.KindSet.insert.Goals as goal

pub returns-clause-members : goal.returns-clause-members
unfolding kinds_of
returns-clause-members c = λ other. among-insert place_of all_kinds 15 kinds_listed c.args.self.now.bits _ c.args.kind other (ap (λ bit. bit_or c.args.self.now.bits bit) c.bit.ensures)

pub returns-clause-list : goal.returns-clause-list
unfolding kinds_of
returns-clause-list c = members-insert place_of all_kinds 15 kinds_listed c.args.self.now.bits _ c.args.kind (ap (λ bit. bit_or c.args.self.now.bits bit) c.bit.ensures)

pub invariant_of-self : goal.invariant_of-self
invariant_of-self c =
    record { types_alone = subst (λ bit. bit_or c.args.self.now.bits bit < 2 ^ 15) (sym c.bit.ensures) (alone-insert place_of all_kinds 15 kinds_listed c.args.self.now.bits c.args.kind c.args.self.now.types_alone) }
