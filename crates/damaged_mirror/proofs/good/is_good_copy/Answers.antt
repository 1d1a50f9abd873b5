use Rattle.std.proofs.Common.{◌≡◌, ◌+◌, ℕ, List, Option, None, get_or, ap, ◌∙◌}
use Rattle.near_mirror.specs.Volume.{copy_image}
use Rattle.damaged_mirror.specs.Damaged.{is_good_held}
use Rattle.damaged_mirror.proofs.good.is_good_copy.Goals as goal

pub returns-in-Some : goal.returns-in-Some
returns-in-Some c =
    let damage = c.args.damage.now in
    let place = c.in-Some.ensures in
    let same : get_or c.deref.result.now c.in-Some.place.slot None ≡ get_or damage.set.now.slots.items c.in-Some.place.slot None
    = ap (λ (l : List (Option ℕ)). get_or l c.in-Some.place.slot None) c.deref.ensures.0 in
    let is : get_or c.deref.result.now c.in-Some.place.slot None ≡ copy_image damage.set.now c.args.copy c.args.sector
    = same ∙ ap (λ (k : ℕ). get_or damage.set.now.slots.items k None) place.slot in
    c.is_good_held.ensures ∙ ap (λ (o : Option ℕ). is_good_held damage.rescue.now o (damage.set.now.head.offset + c.in-Some.place.sector)) is
    ∙ ap (λ (t : ℕ). is_good_held damage.rescue.now (copy_image damage.set.now c.args.copy c.args.sector) (damage.set.now.head.offset + t)) place.sector
