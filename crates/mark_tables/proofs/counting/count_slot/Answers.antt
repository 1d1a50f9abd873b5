use Rattle.std.proofs.Common.{◌≡◌, ◌+◌, ◌<◌, length, arith, sym, ap₂, ◌∙◌, get_or}
use Rattle.std.proofs.Math.ListN.{length-set}
use Rattle.std.specs.Prelude.{max}
use Rattle.raid_params.specs.declared.limits.TheConstants.{MOST}
use Rattle.mark_tables.specs.Marks.{fits_at, misfits_at, most_from}
use Rattle.mark_tables.specs.declared.counts.SlotCount.{SlotCount}
use Rattle.slot_math.proofs.Lists.{each_set}
use Rattle.mark_tables.proofs.Adding.{most_next}
use Rattle.mark_tables.proofs.counting.count_slot.Goals as goal

zero_count : SlotCount
zero_count = record { fits = 0; misfits = 0; most = 0 }

pub loop-image-preserved : goal.loop-image-preserved
unfolding zero_count
loop-image-preserved c =
    let before = c.loop-image.invariant.counts c.loop-image.image zero_count c.loop-image-test.true in
    let within : c.loop-image.image < length c.loop-image.counts = let room = c.loop-image.invariant.room in omega arith in
    let more : SlotCount = record { fits = (get_or c.loop-image.counts c.loop-image.image zero_count).fits; misfits = (get_or c.loop-image.counts c.loop-image.image zero_count).misfits; most = c.max.result } in
    record {
      counts = λ image none lt. each_set
          (λ i count. (count.fits ≡ fits_at c.args.head.now c.args.end c.args.marks.now c.args.origin c.args.slot i) × (count.misfits ≡ misfits_at c.args.head.now c.args.end c.args.marks.now c.args.origin c.args.slot i))
          c.loop-image.counts MOST c.loop-image.image more none within before (λ i lt ne. c.loop-image.invariant.counts i none lt) image lt;
      most = λ image none lt. each_set
          (λ i count. count.most ≡ most_from (fits_at c.args.head.now c.args.end c.args.marks.now c.args.origin) c.args.head.now.members c.args.slot i)
          c.loop-image.counts (c.loop-image.image + 1) c.loop-image.image more none within
          (c.max.ensures
          ∙ ap₂ max before.0 (c.requires.later c.loop-image.image zero_count c.loop-image-test.true)
          ∙ sym (most_next (fits_at c.args.head.now c.args.end c.args.marks.now c.args.origin) c.args.head.now.members c.args.slot c.loop-image.image c.requires.slot))
          (λ i lt ne. c.loop-image.invariant.most i none (omega arith)) image lt;
      room = length-set c.loop-image.counts c.loop-image.image more ∙ c.loop-image.invariant.room;
    }
