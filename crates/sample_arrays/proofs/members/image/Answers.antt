use Rattle.std.proofs.Common.{◌≡◌, ◌*◌, arith}
use Rattle.sample_arrays.proofs.Images.{image_is}
use Rattle.sample_arrays.specs.Marks.{volume_sector}
use Rattle.sample_arrays.proofs.members.image.Goals as goal

pub returns-clause-bytes : goal.returns-clause-bytes
returns-clause-bytes c =
    let end = c.loop-sector-test.false in
    let within = c.loop-sector.auto.sector-end in
    let all : c.loop-sector.sector ≡ c.args.rows * c.args.head.now.chunk = omega arith in
    image_is (volume_sector c.args.filling.now.number c.args.filling.now.blocks) c.args.head.now c.args.rows c.args.slot c.loop-sector.sector c.loop-sector.image.items all c.loop-sector.invariant.0
