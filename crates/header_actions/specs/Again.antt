-- A change that was read is what its own words read as.
use Rattle.std.specs.Prelude.{◌≡◌, ℕ, List, Option, Ok}
use Rattle.dnr_base.specs.declared.operation.Operation.{Operation}
use Rattle.dnr_base.specs.declared.direction.Direction.{Direction}
use Rattle.dnr_spec.specs.Headers.{HeaderOp, header_op_of}

abbrev pub ReadsAgain : Type 0
ReadsAgain =
    (direction : Direction) (name : List ℕ) (operation : Operation) (value : Option (List ℕ)) (op : HeaderOp)
    → header_op_of direction name operation value ≡ Ok op → header_op_of direction op.name op.operation op.value ≡ Ok op
