use Rattle.std.proofs.Common.{ℕ, List, ◌≡◌, ◌+◌, ◌*◌, ◌∙◌, length, slice_index, ap, refl, arith}
use Rattle.raid_terms.specs.Parity.{in_p}
use Rattle.row_parity.specs.Regions.{region_column}
use Rattle.row_parity.specs.Syndromes.{known_sum, sum_at}
use Rattle.pq_parity.proofs.FilledRows.{strip_column, strips_kept}
use Rattle.row_parity.proofs.StripSums.{columns_more, lane_column}
use Rattle.pq_parity.proofs.fills.fill_row_by_p.Goals as goal

pub loop-strip-init : goal.loop-strip-init
loop-strip-init c = record {
  sums = λ x below. absurd (omega arith);
  others = λ p apart. refl;
}

pub loop-strip-preserved : goal.loop-strip-preserved
loop-strip-preserved c = record {
  sums =
      columns_more (λ x. slice_index c.store.new.to (c.args.stride * c.args.place + (512 * c.args.j + x)) ≡ sum_at in_p c.args.cells.now (region_column (length c.args.cells.now) c.args.stride c.args.sectors.now c.args.j) x) c.loop-strip.strip
      (λ x below. c.store.ensures.before (c.args.stride * c.args.place + (512 * c.args.j + x)) (omega arith) ∙ c.loop-strip.invariant.sums x below)
      (λ lane below.
      ap (λ (k : ℕ). slice_index c.store.new.to k) (placed (c.args.stride * c.args.place) (512 * c.args.j) (64 * c.loop-strip.strip) lane)
      ∙ c.store.ensures.lanes lane below ∙ c.p_sum-p.ensures.lanes lane below
      ∙ ap (λ (column : List ℕ). known_sum in_p c.args.cells.now column)
      (lane_column c.loop-strip.sectors (length c.args.cells.now) c.args.stride c.args.j _ lane (64 * c.loop-strip.strip + lane) (omega arith)
      ∙ strip_column c.args.stride c.args.j c.args.place c.loop-strip.strip (length c.args.cells.now) lane c.args.sectors.now c.loop-strip.sectors c.requires.j (omega arith) below c.loop-strip.invariant.others));
  others =
      strips_kept c.args.stride c.args.j c.args.place c.loop-strip.strip _ c.args.sectors.now c.loop-strip.sectors c.store.new.to (omega arith) c.loop-strip.invariant.others c.store.ensures.before c.store.ensures.after;
}
  where
    placed : (a b s lane : ℕ) → a + (b + (s + lane)) ≡ a + (b + s) + lane
    placed a b s lane = omega arith

pub returns-clause-sums : goal.returns-clause-sums
returns-clause-sums c = λ x below. c.loop-strip.invariant.sums x (omega arith)

pub returns-clause-others : goal.returns-clause-others
returns-clause-others c = λ p apart. c.loop-strip.invariant.others p (λ x below. apart x (omega arith))
