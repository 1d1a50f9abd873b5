use Rattle.std.proofs.Common.{arith}
use Rattle.layout_tables.proofs.Readings.{items_law, no_rows, read_as}
use Rattle.layout_tables.proofs.Spelled.{none_then}
use Rattle.layout_tables.proofs.reading.parse.Goals as goal

pub joined-requires : goal.joined-requires
joined-requires c = (omega arith, items_law)

pub returns-in_err-rows : goal.returns-in_err-rows
returns-in_err-rows c =
    none_then _ _ c.from_residual-in_err-rows.result c.from_residual-in_err-rows.ensures
    (λ table e. no_rows c.args.text.now c.in_ok-after_equals.field-0.now table c.in_ok-after_equals.ensures c.in_err-rows.ensures e)

pub returns : goal.returns
returns c =
    read_as c.args.text.now c.in_ok-after_equals.field-0.now c.in_ok-rows.rows.items c.drawn.result c.in_ok-after_equals.ensures c.in_ok-rows.ensures (rw c.as_slice.ensures.value at c.drawn.ensures)
