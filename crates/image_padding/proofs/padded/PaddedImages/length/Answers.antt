use Rattle.std.proofs.Common.{◌^◌, ◌∙◌, arith, rules}
use Rattle.image_padding.specs.Padded.{greatest_base, padded_images}
use Rattle.image_padding.proofs.Images.{padded_sectors, padded_missing, padded_below}
use Rattle.image_padding.proofs.padded.PaddedImages.length.Goals as goal

pub overflow_add-result : goal.overflow_add-result
overflow_add-result g c =
    let bases = c.args.self.now.bases.items in
    let seen = g.I.Images.seen c.args.self.now.images.now in
    let there = padded_sectors (greatest_base bases) bases seen.attached c.args.image c.in_ok-sectors.sectors (search rules) in
    let below = padded_below (2 ^ 55) (padded_images bases seen.attached) c.args.image _ c.args.self.now.are_padded.small there in
    omega (arith, below, c.padding.ensures)

pub returns-in_err-sectors : goal.returns-in_err-sectors
returns-in_err-sectors g c =
    let bases = c.args.self.now.bases.items in
    let seen = g.I.Images.seen c.args.self.now.images.now in
    let none = padded_missing (greatest_base bases) bases seen.attached c.args.image (search rules) in
    c.from_residual.ensures ∙ none

pub returns : goal.returns
returns g c =
    let bases = c.args.self.now.bases.items in
    let seen = g.I.Images.seen c.args.self.now.images.now in
    let there = padded_sectors (greatest_base bases) bases seen.attached c.args.image c.in_ok-sectors.sectors (search rules) in
    rw c.padding.ensures there
