use Rattle.std.proofs.Common.{◌≡◌, ◌≤◌, ◌<◌, ◌-◌}
use Rattle.std.specs.Int.{bit_at}
use Rattle.candidate_enum.specs.Survivors.{question}
use Rattle.candidate_enum.specs.Left.{left_children, Looked}
use Rattle.candidate_enum.proofs.search.Search.next_image.Given as goal

abbrev pub invariant-loop-image : goal.invariant-loop-image
invariant-loop-image g l =
    let q = question l.self.space (g.F.Family.admits l.self.family.now) l.self.from l.self.stop in
    record {
      within : l.image ≤ l.self.space.images;
      free : l.image < l.self.space.images → bit_at l.walk.free l.image ≡ 1;
      looked : Looked q l.walk.slots.items (left_children q l.walk.slots.items l.first l.walk.rank) l.image l.at;
    }

abbrev pub decreases-loop-image : goal.decreases-loop-image
decreases-loop-image g l = l.self.space.images - l.image
