use Rattle.std.proofs.Common.{◌≡◌, ℕ, ◌+◌, ◌-◌, ◌^◌, ◌<◌, ◌≤◌, min, length, get_or}
use Rattle.raid_params.specs.declared.limits.TheConstants.{MOST}
use Rattle.near_tables.specs.Reading.{strip_torn}
use Rattle.near_tables.proofs.torn_strips.add_image.Given as goal

abbrev pub invariant-loop-other : goal.invariant-loop-other
invariant-loop-other l = record {
  done : (i : ℕ) → i < l.other → get_or l.counts i 0 ≡ min (get_or l.fn.counts i 0 + strip_torn l.first l.second l.count l.one i) (2 ^ 64 - 1);
  rest : (i : ℕ) → l.other ≤ i → get_or l.counts i 0 ≡ get_or l.fn.counts i 0;
  room : length l.counts ≡ MOST;
}
