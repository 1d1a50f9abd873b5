use Rattle.std.proofs.Common.{ℕ, ◌≡◌, ◌+◌, ◌*◌, ◌∙◌, List, ap, sym, length, arith}
use Rattle.std.proofs.lemmas.Bool.{false≢true}
use Rattle.raid_terms.specs.Parity.{in_p}
use Rattle.row_parity.specs.Regions.{region_column}
use Rattle.row_parity.specs.Syndromes.{sum_at, known_sum}
use Rattle.row_parity.proofs.StripSums.{columns_more, lane_column}
use Rattle.row_parity.proofs.rows.p_cancels.Goals as goal

pub returns-then-not-is_zero : goal.returns-then-not-is_zero
returns-then-not-is_zero c = (
  λ e. absurd (false≢true e),
  λ all. sym c.if-not-is_zero.true
      ∙ c.is_zero.ensures.1
      (λ lane below. c.p_sum.ensures.lanes lane below
      ∙ ap (λ (column : List ℕ). known_sum in_p c.args.cells.now column)
      (lane_column c.args.sectors.now (length c.args.cells.now) c.args.stride c.args.j _ lane (64 * c.loop-strip.strip + lane) (omega arith))
      ∙ all (64 * c.loop-strip.strip + lane) (omega arith)),
)

pub loop-strip-preserved : goal.loop-strip-preserved
loop-strip-preserved c =
    columns_more (λ x. sum_at in_p c.args.cells.now (region_column (length c.args.cells.now) c.args.stride c.args.sectors.now c.args.j) x ≡ 0) c.loop-strip.strip c.loop-strip.invariant
    (λ lane below. sym (c.p_sum.ensures.lanes lane below
    ∙ ap (λ (column : List ℕ). known_sum in_p c.args.cells.now column)
    (lane_column c.args.sectors.now (length c.args.cells.now) c.args.stride c.args.j _ lane (64 * c.loop-strip.strip + lane) (omega arith)))
    ∙ c.is_zero.ensures.0 c.if-not-is_zero.false lane below)
