use Rattle.std.proofs.Common.{◌≡◌, ◌≤◌, ◌+◌, ◌*◌, ◌++◌, length, take}
use Rattle.layout_tables.specs.Spelling.{row_name}
use Rattle.layout_tables.proofs.spelling.add_row.Given as goal

abbrev pub invariant-loop-at : goal.invariant-loop-at
invariant-loop-at l = record {
  name : l.text.items ≡ l.fn.text.items ++ row_name (take l.at l.row);
  few : length l.text.items + 1 ≤ length l.fn.text.items + 3 * l.at;
}
