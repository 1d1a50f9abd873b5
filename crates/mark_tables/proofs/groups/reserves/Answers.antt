use Rattle.std.proofs.Common.{ℕ, ◌+◌, get_or, false, if◌then◌else◌, arith, ap₂, sym, ◌∙◌}
use Rattle.mark_tables.specs.Tables.{count_at}
use Rattle.slot_math.proofs.Held.{sum_more}
use Rattle.mark_tables.proofs.groups.reserves.Goals as goal

pub loop-image-preserved : goal.loop-image-preserved
loop-image-preserved c = record {
  sum = ap₂ (λ (a b : ℕ). a + b) c.loop-image.invariant.sum c.reserve-sum.ensures.value
      ∙ sym (sum_more (λ image. if get_or c.args.standing.now image false then 0 else (count_at c.args.table.now c.args.slot image).most) c.loop-image.image);
  few = let few = c.loop-image.invariant.few in let more = c.reserve-sum.ensures.few in omega arith;
}
