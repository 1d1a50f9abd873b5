use Rattle.std.proofs.Common.{refl, rules, arith}
use Rattle.parity_scan.proofs.ImageSums.{added_next, all_unmarked, one_more_held}
use Rattle.parity_scan.proofs.left_out.added_images.Goals as goal

pub loop-place-init : goal.loop-place-init
loop-place-init c = record { long = refl; held = λ i d below. absurd (omega arith); sums = λ f. all_unmarked f _ c.args.images }

pub loop-place-preserved : goal.loop-place-preserved
loop-place-preserved c = record {
  long = search rules;
  held = one_more_held c.args.slots.now c.loop-place.place c.args.images c.in_ok-image.field-0 c.loop-place.invariant.held (omega arith) c.in_ok-image.was c.if-images-image.false;
  sums = λ f. added_next f c.args.cells.now c.args.slots.now c.loop-place.marks c.turn_mark.new.marks c.args.images c.loop-place.place c.in_ok-image.field-0 _ c.is_added.result
      (omega arith) c.requires.slots c.in_ok-image.was c.is_added.ensures (c.turn_mark.ensures.sums f c.args.images (omega arith) (omega arith)) (c.loop-place.invariant.sums f);
}
