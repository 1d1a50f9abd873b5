use Rattle.std.proofs.Common.{◌≤◌, ◌<◌, ◌++◌, ◌∷◌, [], length, refl, arith, Some}
use Rattle.slot_math.specs.Ways.{ends}
use Rattle.candidate_enum.specs.Survivors.{question}
use Rattle.candidate_enum.specs.Left.{left_children}
use Rattle.candidate_enum.proofs.Looks.{look_found}
use Rattle.candidate_enum.proofs.search.Search.next_child.Goals as goal

pub returns-clause-found : goal.returns-clause-found
returns-clause-found g c = λ _.
    let q = question c.args.self.now.space (g.F.Family.admits c.args.self.now.family.now) c.args.self.now.from c.args.self.now.stop in
    let p = c.args.walk.now.slots.items in
    let image = c.next_image-image.result.0 in
    let within : image ≤ c.args.self.now.space.images = c.next_image-image.ensures.within in
    let lt : image < c.args.self.now.space.images = (let other = c.if-image-self.false in omega arith) in
    look_found q p c.push_image.new.self.slots.items (left_children q p c.args.first c.args.walk.now.rank) image c.next_image-image.result.1 c.push_image.new.self.rank (length (ends q.space (p ++ Some image ∷ []))) (Some image)
    c.next_image-image.ensures.looked (record { place = lt; index = refl; lists = refl }) (c.next_image-image.ensures.found lt) c.push_image.ensures.slots c.push_image.ensures.rank
