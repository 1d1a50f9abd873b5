use Rattle.std.proofs.Common.{◌≡◌, ◌≤◌, ◌+◌}
use Rattle.candidate_enum.specs.Survivors.{question}
use Rattle.candidate_enum.specs.Kept.{AreKept, IsKept}
use Rattle.candidate_enum.specs.Left.{left_from, MayStand}
use Rattle.candidate_enum.proofs.search.Search.to_leaf_counted.Given as goal

abbrev pub invariant-loop-walk : goal.invariant-loop-walk
invariant-loop-walk g l =
    let q = question l.self.space (g.F.Family.admits l.self.family.now) l.self.from l.self.stop in
    record {
      same : (left_from q l.fn.walk).leaves ≡ (left_from q l.walk).leaves;
      cost : l.steps + (left_from q l.walk).allowance ≡ l.fn.steps + (left_from q l.fn.walk).allowance;
      counts : l.fn.steps ≤ l.steps;
      kept : IsKept l.walk.slots.items l.walk.free l.walk.empty;
      stack : AreKept (g.F.Family.keeps l.self.family.now) l.walk.slots.items l.stack;
      stands : MayStand q l.walk;
    }

abbrev pub decreases-loop-walk : goal.decreases-loop-walk
decreases-loop-walk g l =
    let q = question l.self.space (g.F.Family.admits l.self.family.now) l.self.from l.self.stop in
    (left_from q l.walk).allowance
