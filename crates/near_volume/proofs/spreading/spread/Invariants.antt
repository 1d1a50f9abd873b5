use Rattle.std.proofs.Common.{ℕ, ◌≡◌, ◌≢◌, ◌+◌, ◌*◌, ◌<◌, length, get_or}
use Rattle.near_volume.proofs.spreading.spread.Given as goal

abbrev pub invariant-loop-row : goal.invariant-loop-row
invariant-loop-row l = record {
  long : length l.to ≡ length l.fn.to;
  column : (row x : ℕ) → row < l.row → x < l.size → get_or l.to (l.size * (row * l.columns + l.column) + x) 0 ≡ get_or l.from (l.size * row + x) 0;
  others : (row other x : ℕ) → row < l.rows → other < l.columns → other ≢ l.column → x < l.size →
      get_or l.to (l.size * (row * l.columns + other) + x) 0 ≡ get_or l.fn.to (l.size * (row * l.columns + other) + x) 0;
}
