use Rattle.std.proofs.Common.{ℕ, ◌≡◌, ◌+◌, ◌-◌, ◌*◌, ◌/◌, ◌<◌, ◌≤◌, length, get_or}
use Rattle.rescue_map.specs.Salvaged.{column_at, filled_byte}
use Rattle.rescue_map.proofs.filling.fill_piece.Given as goal

abbrev pub invariant-loop-j : goal.invariant-loop-j
invariant-loop-j l = record {
  stride : l.stride ≡ 512 * length l.damage.set.now.geo.slots.items;
  within : l.j ≤ length l.fn.piece / 512;
  long : length l.piece ≡ length l.fn.piece;
  done : (j x : ℕ) → j < l.j → x < 512 → get_or l.piece (512 * j + x) 0
      ≡ filled_byte l.damage.rescue.now l.damage.set.now (l.first + (l.start + j))
      (column_at (length l.damage.set.now.geo.slots.items) l.rows (512 * length l.damage.set.now.geo.slots.items * (l.start + j)) x) (get_or l.fn.piece (512 * j + x) 0);
  rest : (p : ℕ) → 512 * l.j ≤ p → get_or l.piece p 0 ≡ get_or l.fn.piece p 0;
}

abbrev pub decreases-loop-j : goal.decreases-loop-j
decreases-loop-j l = length l.fn.piece / 512 - l.j
