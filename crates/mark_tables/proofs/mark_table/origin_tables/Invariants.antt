use Rattle.std.proofs.Common.{◌≡◌, ℕ, ◌<◌, [], length, get_or}
use Rattle.mark_tables.specs.Tables.{IsOriginTable}
use Rattle.mark_tables.proofs.mark_table.origin_tables.Given as goal

abbrev pub invariant-loop-origin : goal.invariant-loop-origin
invariant-loop-origin l = record {
  long : length l.tables.items ≡ l.origin-index;
  each : (o : ℕ) → o < l.origin-index → IsOriginTable l.head l.end l.marks (get_or l.origins o 0) (get_or l.tables.items o []);
}
