use Rattle.std.proofs.Common.{arith}
use Rattle.layout_tables.proofs.Names.{cell_law}
use Rattle.layout_tables.proofs.pieces.RowPiece.read.Goals as goal

pub joined-requires : goal.joined-requires
joined-requires c = (omega arith, cell_law)
