use Rattle.std.proofs.Common.{ℕ, ◌<◌, subst}
use Rattle.parity_scan.proofs.ImageRows.{region_byte}
use Rattle.parity_scan.proofs.image_rows.is_of_bytes.Goals as goal

pub returns : goal.returns
returns c = λ x inside.
    subst (λ (b : ℕ). b < 256) (region_byte c.args.regions.now c.region.result.now c.args.image c.args.place x c.region.ensures.sectors inside) (c.are_below_256.ensures x)
