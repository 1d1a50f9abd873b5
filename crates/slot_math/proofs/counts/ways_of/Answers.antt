use Rattle.std.proofs.Common.{ℕ, ◌≢◌, ◌<◌, ◌+◌, ◌-◌, ◌*◌, length, arith, ap, ◌∙◌, get_or, get_or-set_other, get_or-set_same, below_more}
use Rattle.std.proofs.Math.ListN.{length-set}
use Rattle.slot_math.proofs.Bound.{ways_next}
use Rattle.slot_math.proofs.counts.ways_of.Goals as goal

pub loop-start-preserved : goal.loop-start-preserved
loop-start-preserved c =
    let i = c.loop-start.start in
    record {
      room = length-set c.loop-start.row i c.last_way.result ∙ c.loop-start.invariant.room;
      done = below_more _ _
          (λ k h. let ne : k ≢ c.loop-start.start = omega arith in rw get_or-set_other (c.loop-start.invariant.done k h))
          (let lt : c.loop-start.start < length c.loop-start.row = omega arith in rw get_or-set_same (c.last_way.ensures (c.args.free + i + 0 - c.args.left)));
    }

pub loop-k-preserved : goal.loop-k-preserved
loop-k-preserved c =
    let j = c.loop-k.k in
    let m = c.loop-m.m in
    let a = c.args in
    record {
      room = length-set c.loop-k.row j c.more_ways.result ∙ c.loop-k.invariant.room;
      done = below_more _ _
          (λ k h. let ne : k ≢ c.loop-k.k = omega arith in rw get_or-set_other (c.loop-k.invariant.done k h))
          (let lt : c.loop-k.k < length c.loop-k.row = omega arith in rw get_or-set_same (
          c.more_ways.ensures ∙ ap (λ (u : ℕ). u * get_or c.loop-k.row j 0 + get_or c.loop-k.row (j + 1) 0) c.saturating_sub-unused.ensures
          ∙ ways_next a.low a.high a.free a.left j m a.empty (get_or c.loop-k.row j 0) (get_or c.loop-k.row (j + 1) 0) (omega arith)
          (c.loop-k.invariant.rest j (omega arith) (omega arith)) (c.loop-k.invariant.rest (j + 1) (omega arith) (omega arith))));
      rest = λ k h w. let ne : k ≢ c.loop-k.k = omega arith in rw get_or-set_other (c.loop-k.invariant.rest k (omega arith) w);
    }
