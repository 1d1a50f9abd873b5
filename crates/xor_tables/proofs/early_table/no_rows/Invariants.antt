use Rattle.std.proofs.Common.{◌≡◌, ℕ, List, All, length}
use Rattle.xor_tables.specs.Early.{AreAllFew}
use Rattle.xor_tables.specs.Xors.{CountRows}
use Rattle.xor_tables.proofs.early_table.no_rows.Given as goal

abbrev pub invariant-loop : goal.invariant-loop
invariant-loop l = record {
  long : length l.tables.items ≡ l.counter;
  counts : (images : List (List ℕ)) (members span offset : ℕ) → All (CountRows images members span offset 0) l.tables.items;
  few : AreAllFew 0 l.tables.items;
}
