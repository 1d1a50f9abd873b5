use Rattle.std.proofs.Common.{◌+◌, ◌∙◌, ap, ap₂, bit_xor, arith}
use Rattle.gf256.specs.Field.{double}
use Rattle.row_parity.specs.Known.{same}
use Rattle.row_parity.specs.Regions.{region_byte}
use Rattle.row_parity.proofs.Horner.{falling_more, falling_start}
use Rattle.row_parity.proofs.strips.both_sums.Goals as goal

pub loop-step-init : goal.loop-step-init
loop-step-init c = record {
  p_long = c.zeros-p.ensures.long;
  p_fits = c.zeros-p.ensures.fits;
  q_long = c.zeros-q.ensures.long;
  q_fits = c.zeros-q.ensures.fits;
  p = λ lane below. c.zeros-p.ensures.lanes lane ∙ falling_start same _ _ _;
  q = λ lane below. c.zeros-q.ensures.lanes lane ∙ falling_start double _ _ _;
}

pub loop-step-preserved : goal.loop-step-preserved
loop-step-preserved c = record {
  p_long = c.sum-p.ensures.long;
  p_fits = c.sum-p.ensures.fits;
  q_long = c.sum-q.ensures.long;
  q_fits = c.sum-q.ensures.fits;
  p = λ lane below.
      c.sum-p.ensures.lanes lane below ∙ ap₂ bit_xor (c.loop-step.invariant.p lane below) (c.load_of-bytes.ensures.lanes lane below)
      ∙ falling_more same c.args.known.now.data_places c.args.known.now.end c.loop-step.step (region_byte c.args.sectors.now c.args.stride (c.args.at + lane)) _ (omega arith);
  q = λ lane below.
      c.sum-q.ensures.lanes lane below ∙ ap₂ bit_xor (c.twice.ensures.lanes lane below ∙ ap double (c.loop-step.invariant.q lane below)) (c.load_of-bytes.ensures.lanes lane below)
      ∙ falling_more double c.args.known.now.data_places c.args.known.now.end c.loop-step.step (region_byte c.args.sectors.now c.args.stride (c.args.at + lane)) _ (omega arith);
}
