use Rattle.std.proofs.Common.{◌≡◌, length}
use Rattle.parity_scan.specs.declared.image_rows.TheConstants.{ROW}
use Rattle.parity_scan.proofs.ImageRows.{IsCopied}
use Rattle.parity_scan.proofs.image_rows.copy_row.Given as goal

abbrev pub invariant-loop-slot : goal.invariant-loop-slot
invariant-loop-slot l = record {
  long : length l.row ≡ ROW;
  copied : IsCopied l.geo l.regions l.place l.slot l.row;
}
