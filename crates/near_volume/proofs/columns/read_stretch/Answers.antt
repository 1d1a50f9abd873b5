use Rattle.std.proofs.Common.{◌≡◌, ℕ, ◌+◌, ◌/◌, ◌≤◌, List, length, get_or, Option, None, ap, ◌∙◌, arith}
use Rattle.std.specs.Option.{is_some}
use Rattle.outside.specs.Attached.{told_all}
use Rattle.near_mirror.specs.Volume.{copy_image}
use Rattle.near_volume.proofs.Mirrors.{slot_held}
use Rattle.near_volume.proofs.Runs.{stretch_told}
use Rattle.near_volume.proofs.columns.read_stretch.Goals as goal

pub read_member-requires-clause-held : goal.read_member-requires-clause-held
read_member-requires-clause-held g c =
    let place = c.in-Some.ensures in
    let at = place.sector in
    let reach = c.requires.reach in
    let near : c.args.set.now.head.offset + (c.in-Some.place.sector + length c.args.to.now / 512) ≤ c.args.end = omega arith in
    let same : get_or c.deref.result.now c.in-Some.place.slot None ≡ get_or c.args.set.now.slots.items c.in-Some.place.slot None
    = ap (λ (l : List (Option ℕ)). get_or l c.in-Some.place.slot None) c.deref.ensures.0 in
    let below = place.held in
    let members = c.requires.set.members in
    slot_held (g.I.Images.seen c.args.images.now).attached c.args.end (c.args.set.now.head.offset + (c.in-Some.place.sector + length c.args.to.now / 512)) c.in-Some.place.slot c.args.set.now.slots.items
    (get_or c.deref.result.now c.in-Some.place.slot None) c.requires.held (omega arith) same near

pub returns-in-Some-clause-told : goal.returns-in-Some-clause-told
returns-in-Some-clause-told g c =
    let place = c.in-Some.ensures in
    let same : get_or c.deref.result.now c.in-Some.place.slot None ≡ get_or c.args.set.now.slots.items c.in-Some.place.slot None
    = ap (λ (l : List (Option ℕ)). get_or l c.in-Some.place.slot None) c.deref.ensures.0 in
    let is : get_or c.deref.result.now c.in-Some.place.slot None ≡ copy_image c.args.set.now c.args.copy c.args.first
    = same ∙ ap (λ (k : ℕ). get_or c.args.set.now.slots.items k None) place.slot in
    let held = ap (λ (o : Option ℕ). is_some o) is ∙ c.requires.there in
    stretch_told (told_all (g.I.Images.seen c.args.images.now).attached) c.args.set.now c.args.end c.args.first c.args.copy c.in-Some.place.sector (get_or c.deref.result.now c.in-Some.place.slot None)
    c.read_member.result c.read_member.new.to is place.sector held c.read_member.ensures.told
