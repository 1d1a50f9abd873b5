use Rattle.std.proofs.Common.{◌≡◌, ℕ, ◌+◌, ◌-◌, ◌^◌, ◌<◌, ◌≤◌, min, [], length, get_or}
use Rattle.raid_params.specs.declared.limits.TheConstants.{MOST}
use Rattle.near_tables.specs.Reading.{strip_torn}
use Rattle.near_tables.specs.Tables.{count_of}
use Rattle.near_tables.proofs.torn_strips.add_images.Given as goal

abbrev pub invariant-loop-one : goal.invariant-loop-one
invariant-loop-one l = record {
  done : (i : ℕ) → i < l.one → (k : ℕ) → k < l.many → count_of l.counts i k ≡ min (count_of l.fn.counts i k + strip_torn l.first l.second l.count i k) (2 ^ 64 - 1);
  rest : (i : ℕ) → l.one ≤ i → get_or l.counts i [] ≡ get_or l.fn.counts i [];
  room : length l.counts ≡ MOST;
}
