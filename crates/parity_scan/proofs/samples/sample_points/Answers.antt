use Rattle.std.proofs.Common.{ℕ, arith}
use Rattle.std.proofs.lemmas.List.{length-set}
use Rattle.std.proofs.lemmas.List.Sorted.{IsNonDecreasingBy-from_sort}
use Rattle.parity_scan.proofs.Points.{points_are, points_more, sample_inside}
use Rattle.parity_scan.proofs.samples.sample_points.Goals as goal

pub sample_point-requires-clause-set : goal.sample_point-requires-clause-set
sample_point-requires-clause-set c = c.requires.sets _ _ (sample_inside c.loop-k.k _ c.loop-k-test.true c.requires.some)

pub loop-k-preserved : goal.loop-k-preserved
loop-k-preserved c = record {
  long = omega (arith, length-set {A = ℕ});
  points = points_more c.args.scanned.now.scope.now c.args.scanned.now.sets.now c.loop-k.points c.loop-k.k c.sample_point.result _ c.loop-k.invariant.long c.loop-k-test.true c.requires.some c.loop-k.invariant.points c.sample_point.ensures.point;
}

pub returns-clause-points : goal.returns-clause-points
returns-clause-points c = λ none.
    points_are c.args.scanned.now.scope.now c.args.scanned.now.sets.now c.loop-k.points c.sort_unstable.new.self none c.loop-k.invariant.long
    (λ d j below. c.loop-k.invariant.points d j (omega arith)) c.sort_unstable.ensures.permutation

pub returns-clause-rising : goal.returns-clause-rising
returns-clause-rising c = IsNonDecreasingBy-from_sort (λ (n : ℕ). n) _ c.sort_unstable.ensures.sorted
