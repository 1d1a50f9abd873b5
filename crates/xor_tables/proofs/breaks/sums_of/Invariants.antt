use Rattle.std.proofs.Common.{◌≡◌, ℕ, ◌+◌, ◌-◌, ◌^◌, ◌<◌, length, get_or, min}
use Rattle.raid_params.specs.declared.limits.TheConstants.{MOST}
use Rattle.xor_tables.proofs.breaks.sums_of.Given as goal

abbrev pub invariant-loop-image : goal.invariant-loop-image
invariant-loop-image l = record {
  done : (i : ℕ) → i < l.image → get_or l.sums i 0 ≡ min (get_or l.counts i 0 + get_or l.more i 0) (2 ^ 64 - 1);
  room : length l.sums ≡ MOST;
}
