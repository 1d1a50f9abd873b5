use Rattle.std.proofs.Common.{◌≡◌, ◌≤◌, ◌+◌, ◌*◌, ◌++◌, ◌∙◌, ℕ, List, [], ◌∷◌, Some, filter, length, take, slice_get, ap, ap₂, sym, arith}
use Rattle.std.proofs.lemmas.List.{take_all}
use Rattle.arrayvec.specs.ArrayVec.{ArrayVec}
use Rattle.raid_params.specs.declared.types.Pattern.{Pattern}
use Rattle.set_product.specs.Blocks.{suits as suits_level}
use Rattle.set_product.specs.Pairs.{pairs}
use Rattle.set_product.proofs.Pairs.{length_pairs}
use Rattle.set_product.proofs.Rotations.{kept_none, kept_one}
use Rattle.set_product.proofs.block.rotations_of.Goals as goal
use Rattle.set_product.proofs.block.rotations_of.Goals.{then-suits, else-suits}

pub loop-rank-preserved : goal.loop-rank-preserved
loop-rank-preserved c =
    let rotation = c.rotation_at-rotation.result in
    let test = suits_level c.args.level c.args.members in
    let all = pairs c.args.plan.now.bounds.patterns.items c.args.plan.now.bounds.delays.items in
    let at = c.rotation_at-rotation.ensures in
    let kept = c.loop-rank.invariant.kept in
    let few = c.loop-rank.invariant.few in
    elim c.if-suits.branch [
      | then-suits w ↦
          let items = ap (λ (v : ArrayVec (Pattern × ℕ)). v.items) w.kept-is in
          let long = w.push.ensures.len in
          let same = ap length items in
          record {
            kept = items ∙ w.push.ensures.items ∙ ap (λ (l : List (Pattern × ℕ)). l ++ rotation ∷ []) kept ∙ sym (kept_one test all c.loop-rank.rank rotation at (sym c.suits.ensures ∙ w.if-suits.true));
            few = omega arith;
          }
      | else-suits w ↦
          let items = ap (λ (v : ArrayVec (Pattern × ℕ)). v.items) w.kept-is in
          let same = ap length items in
          record {
            kept = items ∙ kept ∙ sym (kept_none test all c.loop-rank.rank rotation at (sym c.suits.ensures ∙ w.if-suits.false));
            few = omega arith;
          }
    ]

pub returns : goal.returns
returns c =
    let all = pairs c.args.plan.now.bounds.patterns.items c.args.plan.now.bounds.delays.items in
    let long = length_pairs c.args.plan.now.bounds.patterns.items c.args.plan.now.bounds.delays.items in
    let count = c.count_rotations-rank-end.ensures.count in
    let end = c.loop-rank-test.false in
    c.loop-rank.invariant.kept ∙ ap (filter (suits_level c.args.level c.args.members)) (take_all c.loop-rank.rank all (omega arith))
