use Rattle.std.proofs.Common.{◌≡◌, ◌*◌, length}
use Rattle.row_samples.proofs.Copied.{AreCopied}
use Rattle.row_samples.proofs.row_bytes.copy_row.Given as goal

abbrev pub invariant-loop-image : goal.invariant-loop-image
invariant-loop-image l = record {
  long : length l.to ≡ 512 * l.images;
  copied : AreCopied l.regions l.place l.image l.to;
}
