use Rattle.std.proofs.Common.{◌≡◌, true, length}
use Rattle.candidate_enum.specs.Survivors.{question}
use Rattle.candidate_enum.specs.Kept.{IsKept}
use Rattle.candidate_enum.specs.Left.{left_after, IsDone}
use Rattle.candidate_enum.proofs.Stacks.{Begins}
use Rattle.candidate_enum.proofs.search.Search.climb.Given as goal

abbrev pub invariant-loop-last : goal.invariant-loop-last
invariant-loop-last g l =
    let q = question l.self.space (g.F.Family.admits l.self.family.now) l.self.from l.self.stop in
    record {
      same : left_after q l.fn.walk.slots.items l.fn.walk.rank ≡ left_after q l.walk.slots.items l.walk.rank;
      done : IsDone q l.walk.slots.items l.walk.rank;
      kept : IsKept l.walk.slots.items l.walk.free l.walk.empty;
      going : l.walk.going ≡ true;
      begins : Begins l.walk.slots.items l.fn.walk.slots.items;
    }

abbrev pub decreases-loop-last : goal.decreases-loop-last
decreases-loop-last g l = length l.walk.slots.items
