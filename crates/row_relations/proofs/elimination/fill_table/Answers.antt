use Rattle.std.proofs.Common.{◌<◌, length, ◌∙◌, arith}
use Rattle.std.proofs.Math.ListN.{length-set}
use Rattle.row_relations.proofs.elimination.fill_table.Goals as goal

pub loop-image-preserved : goal.loop-image-preserved
loop-image-preserved c =
    let was = c.loop-image.invariant in
    let i = c.loop-image.image in
    let placed = c.place-placed in
    let here : i < length c.loop-image.standings = omega (arith, was.standings, c.loop-image-test.true) in
    record {
      standings = length-set c.loop-image.standings i placed.result.standing ∙ was.standings;
      weights = length-set c.loop-image.weights i placed.result.weights ∙ was.weights;
      kept = placed.ensures.long ∙ was.kept;
      rank = omega (arith, placed.ensures.rank, was.rank);
      pivots = placed.ensures.pivots;
      stage = placed.ensures.stage (record { standings = c.loop-image.standings; weights = c.loop-image.weights }) here (omega (arith, was.weights, was.standings, c.requires.weights, here)) was.stage;
    }
