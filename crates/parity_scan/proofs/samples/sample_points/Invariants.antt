use Rattle.std.proofs.Common.{ℕ, ◌≡◌, ◌<◌, length, get_or}
use Rattle.raid_params.specs.declared.types.Geometry.{Geometry}
use Rattle.parity_scan.specs.Samples.{sample_of}
use Rattle.parity_scan.proofs.samples.sample_points.Given as goal

abbrev pub invariant-loop-k : goal.invariant-loop-k
invariant-loop-k l = record {
  long : length l.points ≡ 64;
  points : (none : Geometry) (k : ℕ) → k < l.k → get_or l.points k 0 ≡ sample_of l.scanned.scope.now l.scanned.sets.now none k;
}
