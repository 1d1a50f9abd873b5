use Rattle.std.proofs.Common.{◌≡◌, ap, ◌∙◌, arith}
use Rattle.slot_math.specs.declared.space.Space.{Space}
use Rattle.near_search.proofs.HeadPlaces.{heads_sound, sound_members}
use Rattle.near_search.proofs.Spaces.{space_images, space_members}
use Rattle.near_search.proofs.ask.NearAsk.count_at.Goals as goal

pub space-requires-clause-members : goal.space-requires-clause-members
space-requires-clause-members c =
    sound_members c.head_at.result (heads_sound c.args.self.now c.args.place c.head_at.result c.requires.ask c.head_at.ensures)

pub total-requires-clause-images : goal.total-requires-clause-images
total-requires-clause-images c =
    let same : c.space.result.images ≡ c.args.images = ap (λ (s : Space). s.images) c.space.ensures ∙ space_images c.args.images c.args.self.now c.head_at.result in
    let few = c.requires.images in
    omega arith

pub total-requires-clause-members : goal.total-requires-clause-members
total-requires-clause-members c =
    let same : c.space.result.members ≡ c.head_at.result.members = ap (λ (s : Space). s.members) c.space.ensures ∙ space_members c.args.images c.args.self.now c.head_at.result in
    let few = sound_members c.head_at.result (heads_sound c.args.self.now c.args.place c.head_at.result c.requires.ask c.head_at.ensures) in
    omega arith
