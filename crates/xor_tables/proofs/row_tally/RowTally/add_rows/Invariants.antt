use Rattle.std.proofs.Common.{ℕ, ◌+◌, List}
use Rattle.xor_tables.specs.Xors.{AreFew, AreSumsOf, CountRows}
use Rattle.xor_tables.proofs.row_tally.RowTally.add_rows.Given as goal

abbrev pub invariant-loop-j : goal.invariant-loop-j
invariant-loop-j l = record {
  counts : (bytes : List (List ℕ)) (offset : ℕ) → AreSumsOf bytes l.images (offset + l.first) l.rows l.sums →
      CountRows bytes l.images l.span offset l.first l.fn.self → CountRows bytes l.images l.span offset (l.first + l.j) l.self;
  few : AreFew (l.first + l.j) l.self;
}
