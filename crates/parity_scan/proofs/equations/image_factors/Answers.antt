use Rattle.std.proofs.Common.{arith}
use Rattle.parity_scan.proofs.Factors.{factors_next, none_added}
use Rattle.parity_scan.proofs.equations.image_factors.Goals as goal

pub loop-place-init : goal.loop-place-init
loop-place-init c = record { long = omega arith; sums = λ f. none_added f c.args.mix _ }

pub loop-place-preserved : goal.loop-place-preserved
loop-place-preserved c = record {
  long = c.add_factor.ensures.long;
  sums = λ f. factors_next f c.args.mix c.args.cells.now c.args.slots.now c.loop-place.factors c.add_factor.new.factors c.loop-place.place c.cell_factor.result _
      c.requires.p c.requires.q (omega arith) c.requires.slots c.cell_factor.ensures (c.add_factor.ensures.added c.if-not-add_factor.false f) (c.loop-place.invariant.sums f);
}
