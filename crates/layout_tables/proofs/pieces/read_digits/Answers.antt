use Rattle.std.proofs.Common.{arith, refl}
use Rattle.layout_tables.proofs.Names.{are_digits, digits_are}
use Rattle.layout_tables.proofs.pieces.read_digits.Goals as goal
use Rattle.layout_tables.proofs.pieces.read_digits.Goals.{else-tens-ge49-via-then-tens-ge49+then-tens-le57+then-units-ge48+else-units-le57, else-tens-ge49-via-then-tens-ge49+then-tens-le57+else-units-ge48, else-tens-ge49-via-then-tens-ge49+else-tens-le57, else-tens-ge49-via-else-tens-ge49}

pub returns-then-item-lt-P_BYTE : goal.returns-then-item-lt-P_BYTE
returns-then-item-lt-P_BYTE c = (omega arith, digits_are c.args.tens c.args.units _ (omega arith) (omega arith) (omega arith) (omega arith) refl (omega arith))

pub returns-else-item-lt-P_BYTE : goal.returns-else-item-lt-P_BYTE
returns-else-item-lt-P_BYTE c cell is e = let are = are_digits c.args.tens c.args.units cell is e in omega arith

pub returns-else-tens-ge49 : goal.returns-else-tens-ge49
returns-else-tens-ge49 c cell is e =
    let are = are_digits c.args.tens c.args.units cell is e in
    elim c.else-tens-ge49.branch [
      | else-tens-ge49-via-then-tens-ge49+then-tens-le57+then-units-ge48+else-units-le57 w ↦ omega arith
      | else-tens-ge49-via-then-tens-ge49+then-tens-le57+else-units-ge48 w ↦ omega arith
      | else-tens-ge49-via-then-tens-ge49+else-tens-le57 w ↦ omega arith
      | else-tens-ge49-via-else-tens-ge49 w ↦ omega arith
    ]
