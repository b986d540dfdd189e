use Rattle.std.proofs.Common.{ap, ◌-◌}
use Rattle.std.specs.Prelude.{bit_and}
use Rattle.dnr_base.specs.Kind.{all_kinds, place_of}
use Rattle.dnr_base.specs.KindSet.{kinds_of}
use Rattle.dnr_base.proofs.BitSets.{among-remove, members-remove}
use Rattle.dnr_base.proofs.KindSets.{kinds_listed}
use Rattle.dnr_base.proofs.kind_set.KindSet.remove.Goals as goal

pub returns-clause-members : goal.returns-clause-members
unfolding kinds_of
returns-clause-members c = λ other. among-remove place_of all_kinds 15 kinds_listed c.args.self.now.bits _ c.args.kind other (ap (λ bit. bit_and c.args.self.now.bits (65535 - bit)) c.bit.ensures)

pub returns-clause-list : goal.returns-clause-list
unfolding kinds_of
returns-clause-list c = members-remove place_of all_kinds 15 kinds_listed c.args.self.now.bits _ c.args.kind (ap (λ bit. bit_and c.args.self.now.bits (65535 - bit)) c.bit.ensures)
