use Rattle.std.proofs.Common.{◌≡◌, ℕ, ◌+◌, ◌<◌, ◌≤◌, length, get_or, false, not, if◌then◌else◌}
use Rattle.raid_params.specs.declared.limits.TheConstants.{MOST}
use Rattle.xor_tables.proofs.row_counts.count_row.Given as goal

abbrev pub invariant-loop-image : goal.invariant-loop-image
invariant-loop-image l = record {
  done : (i : ℕ) → i < l.image → get_or l.more i 0 ≡ get_or l.counts i 0 + (if not (get_or l.sum.is_image i false) then 1 else 0);
  rest : (i : ℕ) → l.image ≤ i → get_or l.more i 0 ≡ get_or l.counts i 0;
  few : (i : ℕ) → get_or l.more i 0 ≤ get_or l.counts i 0 + 1;
  room : length l.more ≡ MOST;
}
