use Rattle.std.proofs.Common.{ℕ, ◌≡◌, ◌<◌, ◌*◌, length}
use Rattle.raid_terms.specs.Parity.{in_p}
use Rattle.row_parity.specs.Regions.{region_column}
use Rattle.row_parity.specs.Syndromes.{sum_at}
use Rattle.row_parity.proofs.rows.p_cancels.Given as goal

abbrev pub invariant-loop-strip : goal.invariant-loop-strip
invariant-loop-strip l = (x : ℕ) → x < 64 * l.strip → sum_at in_p l.cells (region_column (length l.cells) l.stride l.sectors l.j) x ≡ 0
