use Rattle.std.proofs.Common.{◌+◌, length, take, set, rules, sym, ap, subst, ◌∙◌, List}
use Rattle.std.proofs.Math.ListN.{length-set}
use Rattle.mark_tables.specs.Tables.{CountMarks}
use Rattle.mark_tables.specs.declared.counts.SlotCount.{SlotCount}
use Rattle.mark_tables.proofs.Adding.{counts_add, counts_skip}
use Rattle.mark_tables.proofs.counting.count_fits.Goals as goal
use Rattle.mark_tables.proofs.counting.count_fits.Goals.{in-Some, in_default}

pub loop-mark-preserved : goal.loop-mark-preserved
loop-mark-preserved c =
    let Known : List SlotCount → Type 0 = λ counts. CountMarks c.args.head.now c.args.end (take (c.loop-mark.mark-index + 1) c.args.marks.now) c.args.origin c.args.slot counts in
    elim c.match-sector_in.branch [
      | in-Some w ↦
          let is = w.counts-is ∙ ap (λ (x : SlotCount). set c.loop-mark.counts _ x) w.count_mark.ensures in
          record {
            counts = subst Known (sym is) (counts_add c.args.head.now c.args.end c.args.marks.now c.args.origin c.args.slot c.loop-mark.mark-index w.in-Some.sector _ w.fits.result _ c.loop-mark.counts
                c.loop-mark-test.true (sym c.sector_in.ensures ∙ w.in-Some.is) w.fits.ensures c.loop-mark.invariant.room (search rules) c.loop-mark.invariant.counts);
            room = ap length w.counts-is ∙ length-set c.loop-mark.counts _ w.count_mark.result ∙ c.loop-mark.invariant.room;
          }
      | in_default w ↦ record {
        counts = subst Known (sym w.counts-is) (counts_skip c.args.head.now c.args.end c.args.marks.now c.args.origin c.args.slot c.loop-mark.mark-index _ c.loop-mark.counts
            c.loop-mark-test.true (sym c.sector_in.ensures ∙ w.in_default.is) c.loop-mark.invariant.counts);
        room = ap length w.counts-is ∙ c.loop-mark.invariant.room;
      }
    ]
