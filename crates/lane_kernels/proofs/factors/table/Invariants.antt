use Rattle.std.proofs.Common.{◌≡◌, ℕ, ◌<◌, ◌*◌, ◌%◌, slice_index, length}
use Rattle.gf256.specs.Field.{product}
use Rattle.lane_kernels.proofs.factors.table.Given as goal

abbrev pub invariant-loop-half : goal.invariant-loop-half
invariant-loop-half l = record {
  room : length l.products ≡ 32;
  done : (j : ℕ) → j < 32 → j % 16 < l.half → slice_index l.products j ≡ product l.factor (l.unit * (j % 16));
}
