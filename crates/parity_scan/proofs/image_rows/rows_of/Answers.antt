use Rattle.member_regions.proofs.Sets.{testable_chunk}
use Rattle.parity_scan.proofs.image_rows.rows_of.Goals as goal

pub tested_rows-requires : goal.tested_rows-requires
tested_rows-requires c = record { chunk = testable_chunk c.args.geo.now c.requires }
