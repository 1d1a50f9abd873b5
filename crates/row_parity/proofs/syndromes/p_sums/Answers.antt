use Rattle.std.proofs.Common.{ℕ, ◌≡◌, ◌+◌, ◌*◌, ◌∙◌, List, ap, length, slice_index, arith}
use Rattle.raid_terms.specs.Parity.{in_p}
use Rattle.row_parity.specs.Regions.{region_column}
use Rattle.row_parity.specs.Syndromes.{known_sum, sum_at}
use Rattle.row_parity.proofs.Soundness.{region_columns}
use Rattle.row_parity.proofs.StripSums.{columns_more, lane_column}
use Rattle.row_parity.proofs.syndromes.p_sums.Goals as goal

pub loop-strip-preserved : goal.loop-strip-preserved
loop-strip-preserved c = record {
  long = c.store.ensures.long ∙ c.loop-strip.invariant.long;
  bytes =
      columns_more (λ x. slice_index c.store.new.to x ≡ sum_at in_p c.args.cells.now (region_column (length c.args.cells.now) c.args.stride c.args.sectors.now c.args.j) x) c.loop-strip.strip
      (λ x below. c.store.ensures.before x below ∙ c.loop-strip.invariant.bytes x below)
      (λ lane below. c.store.ensures.lanes lane below ∙ c.p_sum.ensures.lanes lane below
      ∙ ap (λ (column : List ℕ). known_sum in_p c.args.cells.now column)
      (lane_column c.args.sectors.now (length c.args.cells.now) c.args.stride c.args.j _ lane (64 * c.loop-strip.strip + lane) (omega arith)));
}

pub returns-clause-columns : goal.returns-clause-columns
returns-clause-columns c = region_columns c.args.cells.now c.args.sectors.now c.args.stride c.args.j c.type_inv.sectors

pub returns-clause-p : goal.returns-clause-p
returns-clause-p c = record { long = c.loop-strip.invariant.long; bytes = λ x below. c.loop-strip.invariant.bytes x (omega arith) }
