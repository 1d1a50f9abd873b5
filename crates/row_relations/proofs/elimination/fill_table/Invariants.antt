use Rattle.std.proofs.Common.{◌≡◌, ◌<◌, ◌≤◌, length, take}
use Rattle.std.specs.List.{All}
use Rattle.row_relations.specs.declared.combination.Combination.{Combination}
use Rattle.row_relations.specs.Stages.{IsStage}
use Rattle.row_relations.proofs.elimination.fill_table.Given as goal

abbrev pub invariant-loop-image : goal.invariant-loop-image
invariant-loop-image l = record {
  standings : length l.standings ≡ length l.fn.standings;
  weights : length l.weights ≡ length l.fn.weights;
  kept : length l.kept ≡ length l.fn.kept;
  rank : l.rank ≤ l.image;
  pivots : All (λ (x : Combination). x.pivot < 512) (take l.rank l.kept);
  stage : IsStage l.sectors (record { standings = l.standings; weights = l.weights }) l.image (take l.rank l.kept);
}
