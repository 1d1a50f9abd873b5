use Rattle.std.proofs.Common.{◌∙◌, ap, sym, arith, slice_index}
use Rattle.gf256.specs.Field.{double}
use Rattle.row_parity.proofs.Horner.{scaled_next, scaled_none}
use Rattle.row_parity.proofs.Lanes.{lane_fits}
use Rattle.row_parity.proofs.strips.times_power.Goals as goal

pub loop-init : goal.loop-init
loop-init c = record {
  long = c.requires.long;
  fits = c.requires.fits;
  lanes = λ lane below. sym (scaled_none (slice_index c.args.x lane) (lane_fits c.args.x lane c.requires.fits (let h = c.requires.long in omega arith)));
}

pub loop-preserved : goal.loop-preserved
loop-preserved c = record {
  long = c.twice-product.ensures.long;
  fits = c.twice-product.ensures.fits;
  lanes = λ lane below.
      c.twice-product.ensures.lanes lane below ∙ ap double (c.loop.invariant.lanes lane below)
      ∙ sym (scaled_next c.loop.counter (slice_index c.args.x lane) (lane_fits c.args.x lane c.requires.fits (let h = c.requires.long in omega arith)));
}
