use Rattle.std.proofs.Common.{◌≡◌, ◌+◌, ◌-◌, ◌<◌, ◌≤◌, [], ◌∷◌, ◌++◌, length, get_or, ◌∙◌, rules}
use Rattle.image_padding.specs.Padded.{greatest_base}
use Rattle.padded_images.proofs.Lengths.{lengths_more, lengths_whole}
use Rattle.padded_images.proofs.plans.padded_lengths.Goals as goal

pub loop-image-preserved : goal.loop-image-preserved
loop-image-preserved c =
    let bases = c.args.bases.now in
    let lengths = c.args.lengths.now.items in
    let image = c.loop-image.image in
    let within : image < length lengths = search rules in
    let pushed : c.push.new.self.items ≡ c.loop-image.padded.items ++ (greatest_base bases - get_or bases image (greatest_base bases) + get_or lengths image 0) ∷ [] = search rules in
    (search rules, pushed ∙ lengths_more (greatest_base bases) bases lengths c.loop-image.padded.items image within c.loop-image.invariant.1)

pub returns : goal.returns
returns c =
    let bases = c.args.bases.now in
    let lengths = c.args.lengths.now.items in
    let past : length lengths ≤ c.loop-image.image = search rules in
    lengths_whole (greatest_base bases) bases lengths c.loop-image.padded.items c.loop-image.image past c.loop-image.invariant.1
