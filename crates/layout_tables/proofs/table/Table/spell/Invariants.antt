use Rattle.std.proofs.Common.{◌≡◌, ◌≤◌, ◌*◌, length, take}
use Rattle.layout_tables.specs.Spelling.{table_name}
use Rattle.layout_tables.specs.Tables.{rows_of}
use Rattle.layout_tables.proofs.table.Table.spell.Given as goal

abbrev pub invariant-loop-at : goal.invariant-loop-at
invariant-loop-at l = record {
  name : l.text.items ≡ table_name (take l.at (rows_of l.self));
  few : length l.text.items ≤ 72 * l.at;
}
