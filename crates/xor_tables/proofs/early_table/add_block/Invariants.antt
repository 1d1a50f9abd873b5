use Rattle.std.proofs.Common.{◌≡◌, ℕ, ◌+◌, ◌<◌, ◌≤◌, min, List, length, get_or}
use Rattle.xor_tables.specs.Early.{CountFirst}
use Rattle.xor_tables.specs.Paces.{pace_at, span}
use Rattle.xor_tables.specs.Xors.{AreFew, AreSumsOf, CountRows, RowTable}
use Rattle.search_plan.specs.Rows.{tested_with}
use Rattle.xor_tables.proofs.early_table.add_block.Given as goal

abbrev pub invariant-loop-place : goal.invariant-loop-place
invariant-loop-place l = record {
  done : (bytes : List (List ℕ)) → AreSumsOf bytes (length l.plan.lengths.items) (l.offset + l.first) l.count l.sums → CountFirst bytes l.plan l.paces l.offset l.first l.fn.tables.items →
      (c : ℕ) (none : RowTable) → c < l.place →
      CountRows bytes (length l.plan.lengths.items) (span (pace_at l.paces c)) l.offset (min (l.first + l.count) (tested_with l.plan (pace_at l.paces c).chunk l.offset)) (get_or l.tables.items c none);
  rest : (c : ℕ) (none : RowTable) → l.place ≤ c → get_or l.tables.items c none ≡ get_or l.fn.tables.items c none;
  few : (c : ℕ) (none : RowTable) → c < l.place → AreFew (l.first + l.count) (get_or l.tables.items c none);
  long : length l.tables.items ≡ length l.fn.tables.items;
}
