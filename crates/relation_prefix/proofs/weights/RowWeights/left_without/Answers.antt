use Rattle.std.proofs.Common.{◌<◌, ◌∙◌, length, arith, rules, get_or-set_other, get_or-set_same, below_more}
use Rattle.raid_terms.specs.Cells.{part_of}
use Rattle.relation_prefix.proofs.weights.RowWeights.left_without.Goals as goal

pub loop-slot-preserved : goal.loop-slot-preserved
loop-slot-preserved c =
    let left = c.loop-slot.left in
    let slot = c.loop-slot.slot in
    let inside : slot < length left = omega (arith, c.loop-slot.invariant.long, c.loop-slot-test.true, c.requires.count) in
    record {
      long = search rules;
      done = λ head row are lost count.
          let there : slot < head.members = omega (arith, c.loop-slot-test.true, count) in
          below_more _ _
          (λ k h. get_or-set_other left slot k c.left_weight.result 0 (omega arith) ∙ c.loop-slot.invariant.done head row are lost count k h)
          (get_or-set_same left slot c.left_weight.result 0 inside
          ∙ c.left_weight.ensures (part_of head row slot) (part_of head row c.args.lost) (are.p slot there) (are.q slot there) (are.p c.args.lost lost) (are.q c.args.lost lost));
    }

pub returns-clause-weights : goal.returns-clause-weights
returns-clause-weights c head row are lost count = λ slot lt. c.loop-slot.invariant.done head row are lost count slot (omega (arith, c.loop-slot-test.false))
