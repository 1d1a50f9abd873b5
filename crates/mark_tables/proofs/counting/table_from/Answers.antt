use Rattle.std.proofs.Common.{◌≡◌, ℕ, ◌+◌, ◌-◌, ◌≤◌, ◌<◌, [], List, length, arith, refl, sym, subst, ◌∙◌}
use Rattle.std.proofs.Math.ListN.{length-set}
use Rattle.raid_layouts.proofs.Levels.{at_most}
use Rattle.mark_tables.specs.Marks.{fits_at}
use Rattle.mark_tables.specs.Tables.{AreMost, CountMarks}
use Rattle.mark_tables.specs.declared.counts.SlotCount.{SlotCount}
use Rattle.slot_math.proofs.Lists.{each_set}
use Rattle.mark_tables.proofs.Reserves.{most_none}
use Rattle.mark_tables.proofs.counting.table_from.Goals as goal

pub loop-back-init : goal.loop-back-init
loop-back-init c = record {
  each = λ slot le lt. absurd (omega arith);
  later = λ image none lt. c.nothing-later.ensures image none lt
      ∙ sym (most_none (fits_at c.args.head.now c.args.end c.args.marks.now c.args.origin) c.args.head.now.members (c.args.head.now.members - 0) image (omega arith));
  room = refl;
}

pub loop-back-preserved : goal.loop-back-preserved
loop-back-preserved c =
    let same : c.args.head.now.members - 1 - c.loop-back.back ≡ c.args.head.now.members - (c.loop-back.back + 1) = omega arith in
    let room = c.loop-back.invariant.room in
    let few = at_most c.args.head.now c.requires.head in
    let within : c.args.head.now.members - 1 - c.loop-back.back < length c.loop-back.table = omega arith in
    record {
      each = λ slot le lt. each_set {X = List SlotCount}
          (λ i row. c.args.head.now.members - (c.loop-back.back + 1) ≤ i → CountMarks c.args.head.now c.args.end c.args.marks.now c.args.origin i row × AreMost (fits_at c.args.head.now c.args.end c.args.marks.now c.args.origin) c.args.head.now.members i row)
          c.loop-back.table c.args.head.now.members (c.args.head.now.members - 1 - c.loop-back.back) c.count_slot-later.result [] within
          (λ low. (c.count_slot-later.ensures.counts, c.count_slot-later.ensures.most))
          (λ i below ne low. c.loop-back.invariant.each i (omega arith) below) slot lt le;
      later = subst (λ (s : ℕ). AreMost (fits_at c.args.head.now c.args.end c.args.marks.now c.args.origin) c.args.head.now.members s c.count_slot-later.result) same c.count_slot-later.ensures.most;
      room = length-set c.loop-back.table (c.args.head.now.members - 1 - c.loop-back.back) c.count_slot-later.result ∙ room;
    }

pub returns : goal.returns
returns c = λ slot lt. c.loop-back.invariant.each slot (omega arith) lt
