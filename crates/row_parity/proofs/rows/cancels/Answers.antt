use Rattle.std.proofs.Common.{length}
use Rattle.raid_terms.specs.Parity.{in_p, in_q}
use Rattle.row_parity.specs.Passes.{Passes}
use Rattle.row_parity.specs.Regions.{region_column}
use Rattle.row_parity.specs.Syndromes.{sum_at}
use Rattle.row_parity.proofs.StripSums.{columns_more, lane_passes}
use Rattle.row_parity.proofs.rows.cancels.Goals as goal

pub loop-strip-preserved : goal.loop-strip-preserved
loop-strip-preserved c =
    columns_more
    (λ x. Passes c.args.test (sum_at in_p c.args.cells.now (region_column (length c.args.cells.now) c.args.stride c.args.sectors.now c.args.j) x)
    (sum_at in_q c.args.cells.now (region_column (length c.args.cells.now) c.args.stride c.args.sectors.now c.args.j) x))
    c.loop-strip.strip c.loop-strip.invariant
    (lane_passes (Passes c.args.test) c.strip_sums.result.0 c.strip_sums.result.1 (sum_at in_p c.args.cells.now (region_column (length c.args.cells.now) c.args.stride c.args.sectors.now c.args.j))
    (sum_at in_q c.args.cells.now (region_column (length c.args.cells.now) c.args.stride c.args.sectors.now c.args.j)) c.loop-strip.strip c.strip_sums.ensures.p c.strip_sums.ensures.q (c.passes.ensures.0 c.if-not-passes.false))
