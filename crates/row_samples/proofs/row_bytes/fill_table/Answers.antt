use Rattle.std.proofs.Common.{arith}
use Rattle.row_samples.proofs.row_bytes.fill_table.Goals as goal

pub returns-clause-bytes : goal.returns-clause-bytes
returns-clause-bytes c = λ i. let h = c.type_inv.sectors i in omega arith
