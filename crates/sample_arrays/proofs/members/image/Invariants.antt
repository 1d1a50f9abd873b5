use Rattle.std.proofs.Common.{◌≡◌, ◌+◌, ◌*◌, length}
use Rattle.sample_arrays.proofs.Images.{image_front}
use Rattle.sample_arrays.specs.Marks.{volume_sector}
use Rattle.sample_arrays.proofs.members.image.Given as goal

abbrev pub invariant-loop-sector : goal.invariant-loop-sector
invariant-loop-sector l =
    (l.image.items ≡ image_front (volume_sector l.filling.number l.filling.blocks) l.head l.slot l.sector)
    × (length l.image.items ≡ 512 * l.head.offset + 512 * l.sector)
