use Rattle.std.proofs.Common.{◌≡◌, ℕ, ◌+◌, ◌-◌, ◌*◌, ◌^◌, ◌<◌, min, List, [], set, Some, None, length, arith, ap, sym, ◌∙◌}
use Rattle.std.proofs.lemmas.List.{length-set}
use Rattle.std.specs.List.{range_with_len, slice_index_or, sum_by}
use Rattle.raid_terms.specs.Role.{q_of}
use Rattle.slot_math.proofs.Held.{sum_more}
use Rattle.xor_tables.specs.Heads.{broken_by}
use Rattle.xor_tables.specs.Xors.{beside_q, RowTable}
use Rattle.xor_tables.proofs.Placed.{more_broken, none_broken, off_q_at, on_q_at, q_within}
use Rattle.xor_tables.proofs.row_tally.RowTally.placed_on_q.Goals.{in-Some, in_default}
use Rattle.xor_tables.proofs.row_tally.RowTally.placed_on_q.Goals as goal

pub loop-turn-init : goal.loop-turn-init
loop-turn-init c = record { long = c.nowhere-placed.ensures.long; sum = λ prefix images. let none = none_broken c.nowhere-placed.result prefix c.nowhere-placed.ensures.none in omega arith }

pub loop-turn-preserved : goal.loop-turn-preserved
loop-turn-preserved c =
    let table : RowTable = record { all = c.self.inside.all; beside = c.self.inside.beside } in
    let asked : c.q_slot.result ≡ q_of c.args.head.now (c.loop-turn.turn * c.args.head.now.delay) = c.q_slot.ensures ∙ ap (q_of c.args.head.now) c.first_row.ensures in
    elim c.match-q_slot.branch [
      | in-Some w ↦
          let at : q_of c.args.head.now (c.loop-turn.turn * c.args.head.now.delay) ≡ Some w.in-Some.slot = sym asked ∙ w.in-Some.is in
          let there : w.in-Some.slot < length c.loop-turn.placed = let low = q_within c.args.head.now (c.loop-turn.turn * c.args.head.now.delay) w.in-Some.slot c.requires.head at in let long = c.loop-turn.invariant.long in omega arith in
          record {
            long = ap length w.placed-is ∙ length-set c.loop-turn.placed w.in-Some.slot w.sums_of.result ∙ c.loop-turn.invariant.long;
            sum = λ prefix images.
                let before = c.loop-turn.invariant.sum prefix images in
                let now : sum_by (beside_q table c.args.head.now prefix) (range_with_len 0 c.loop-turn.turn) ≡ sum_by (beside_q c.args.self.now c.args.head.now prefix) (range_with_len 0 c.loop-turn.turn)
                = ap (λ (t : RowTable). sum_by (beside_q t c.args.head.now prefix) (range_with_len 0 c.loop-turn.turn)) c.self.view_is in
                let then : sum_by (beside_q table c.args.head.now prefix) (range_with_len 0 (c.loop-turn.turn + 1)) ≡ sum_by (beside_q c.args.self.now c.args.head.now prefix) (range_with_len 0 (c.loop-turn.turn + 1))
                = ap (λ (t : RowTable). sum_by (beside_q t c.args.head.now prefix) (range_with_len 0 (c.loop-turn.turn + 1))) c.self.view_is in
                let next = sum_more (beside_q table c.args.head.now prefix) c.loop-turn.turn in
                let here = on_q_at table c.args.head.now prefix c.loop-turn.turn w.in-Some.slot at in
                let more = more_broken c.loop-turn.placed w.sums_of.result (slice_index_or c.self.inside.beside c.loop-turn.turn []) w.in-Some.slot prefix there images w.sums_of.ensures in
                let same : min (broken_by c.match-q_slot.placed prefix) (2 ^ 64 - 1) ≡ min (broken_by (set c.loop-turn.placed w.in-Some.slot w.sums_of.result) prefix) (2 ^ 64 - 1)
                = ap (λ (l : List (List ℕ)). min (broken_by l prefix) (2 ^ 64 - 1)) w.placed-is in
                omega arith;
          }
      | in_default w ↦
          let at : q_of c.args.head.now (c.loop-turn.turn * c.args.head.now.delay) ≡ None = sym asked ∙ w.in_default.is in
          record {
            long = ap length w.placed-is ∙ c.loop-turn.invariant.long;
            sum = λ prefix images.
                let before = c.loop-turn.invariant.sum prefix images in
                let next = sum_more (beside_q c.args.self.now c.args.head.now prefix) c.loop-turn.turn in
                let here = off_q_at c.args.self.now c.args.head.now prefix c.loop-turn.turn at in
                let same : min (broken_by c.match-q_slot.placed prefix) (2 ^ 64 - 1) ≡ min (broken_by c.loop-turn.placed prefix) (2 ^ 64 - 1)
                = ap (λ (l : List (List ℕ)). min (broken_by l prefix) (2 ^ 64 - 1)) w.placed-is in
                omega arith;
          }
    ]
