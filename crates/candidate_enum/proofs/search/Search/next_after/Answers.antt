use Rattle.std.proofs.Common.{ℕ, ◌+◌, refl, ap, Option}
use Rattle.candidate_enum.specs.Survivors.{question}
use Rattle.candidate_enum.specs.Left.{left_children, index_of}
use Rattle.candidate_enum.proofs.Looks.{look_done}
use Rattle.candidate_enum.proofs.search.Search.next_after.Goals as goal

pub returns-in-None-clause-passed : goal.returns-in-None-clause-passed
returns-in-None-clause-passed g c = λ _.
    let q = question c.args.self.now.space (g.F.Family.admits c.args.self.now.family.now) c.args.self.now.from c.args.self.now.stop in
    let p = c.args.walk.now.slots.items in
    let j = index_of c.args.self.now.space.images c.args.last + 1 in
    look_done q p p (left_children q p j c.args.walk.now.rank) j c.args.walk.now.rank (record { same = refl; parent = c.requires.parent })
    (ap (λ (x : Option ℕ). index_of c.args.self.now.space.images x + 1) c.in-None.is) refl
