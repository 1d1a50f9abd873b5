use Rattle.std.proofs.Common.{ℕ, ◌≡◌, ◌<◌, length, get_or}
use Rattle.gf256.specs.Field.{product}
use Rattle.parity_scan.proofs.equations.scaled.Given as goal

abbrev pub invariant-loop-image : goal.invariant-loop-image
invariant-loop-image l = record {
  long : length l.scaled ≡ 24;
  done : (i : ℕ) → i < l.image → get_or l.scaled i 0 ≡ product l.by (get_or l.factors i 0);
}
