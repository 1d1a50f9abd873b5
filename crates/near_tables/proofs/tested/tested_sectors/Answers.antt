use Rattle.std.proofs.Common.{◌*◌, ◌≤◌, arith}
use Rattle.std.proofs.lemmas.Nat.{mul-le}
use Rattle.near_mirror.specs.Copies.{near_rows}
use Rattle.near_mirror.proofs.Heads.{area_short}
use Rattle.near_tables.specs.Torn.{rows_tested}
use Rattle.near_tables.proofs.Rows.{tested_fewer}
use Rattle.near_tables.proofs.tested.tested_sectors.Goals as goal

pub overflow_mul-rows_tested : goal.overflow_mul-rows_tested
overflow_mul-rows_tested c =
    let rows = c.rows_tested.ensures in
    let short = area_short c.args.head.now c.args.end in
    let near = c.requires.end in
    let few = tested_fewer c.args.head.now.layout.copying c.args.head.now.members c.args.head.now.layout.copies (near_rows c.args.head.now c.args.end) in
    let most : rows_tested c.args.head.now.layout.copying c.args.head.now.members c.args.head.now.layout.copies (near_rows c.args.head.now c.args.end) * c.args.head.now.chunk ≤ near_rows c.args.head.now c.args.end * c.args.head.now.chunk
    = mul-le (rows_tested c.args.head.now.layout.copying c.args.head.now.members c.args.head.now.layout.copies (near_rows c.args.head.now c.args.end)) c.args.head.now.chunk (near_rows c.args.head.now c.args.end) c.args.head.now.chunk few (omega arith) in
    rw rows (omega arith)
