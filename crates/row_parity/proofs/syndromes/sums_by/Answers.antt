use Rattle.std.proofs.Common.{◌≡◌, ◌∙◌, length, slice_index, arith}
use Rattle.raid_terms.specs.Parity.{in_p, in_q}
use Rattle.row_parity.specs.Regions.{region_column}
use Rattle.row_parity.specs.Syndromes.{sum_at}
use Rattle.row_parity.proofs.Soundness.{region_columns}
use Rattle.row_parity.proofs.StripSums.{columns_more}
use Rattle.row_parity.proofs.syndromes.sums_by.Goals as goal

pub loop-strip-preserved : goal.loop-strip-preserved
loop-strip-preserved c = record {
  p_long = c.store.ensures.long ∙ c.loop-strip.invariant.p_long;
  q_long = c.store-in-loop-strip.ensures.long ∙ c.loop-strip.invariant.q_long;
  p =
      columns_more (λ x. slice_index c.store.new.to x ≡ sum_at in_p c.args.cells.now (region_column (length c.args.cells.now) c.args.stride c.args.sectors.now c.args.j) x) c.loop-strip.strip
      (λ x below. c.store.ensures.before x below ∙ c.loop-strip.invariant.p x below) (λ lane below. c.store.ensures.lanes lane below ∙ c.strip_sums.ensures.p lane below);
  q =
      columns_more (λ x. slice_index c.store-in-loop-strip.new.to x ≡ sum_at in_q c.args.cells.now (region_column (length c.args.cells.now) c.args.stride c.args.sectors.now c.args.j) x) c.loop-strip.strip
      (λ x below. c.store-in-loop-strip.ensures.before x below ∙ c.loop-strip.invariant.q x below) (λ lane below. c.store-in-loop-strip.ensures.lanes lane below ∙ c.strip_sums.ensures.q lane below);
}

pub returns-clause-columns : goal.returns-clause-columns
returns-clause-columns c = region_columns c.args.cells.now c.args.sectors.now c.args.stride c.args.j c.type_inv.sectors

pub returns-clause-p : goal.returns-clause-p
returns-clause-p c = record { long = c.loop-strip.invariant.p_long; bytes = λ x below. c.loop-strip.invariant.p x (omega arith) }

pub returns-clause-q : goal.returns-clause-q
returns-clause-q c = record { long = c.loop-strip.invariant.q_long; bytes = λ x below. c.loop-strip.invariant.q x (omega arith) }
