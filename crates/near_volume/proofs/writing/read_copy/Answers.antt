use Rattle.std.proofs.Common.{◌/◌, length, refl, arith}
use Rattle.outside.specs.Attached.{told_all}
use Rattle.near_mirror.proofs.Chunks.{valid_chunk}
use Rattle.near_mirror.proofs.Heads.{copy_inside}
use Rattle.near_mirror.specs.Copies.{copy_sector}
use Rattle.near_volume.proofs.Runs.{run_inside, run_told}
use Rattle.near_volume.proofs.writing.read_copy.Goals as goal

pub read_stretch-requires-clause-reach : goal.read_stretch-requires-clause-reach
read_stretch-requires-clause-reach g c =
    run_inside c.args.set.now.head c.args.end c.args.first (length c.args.to.now / 512) c.args.copy (copy_sector c.args.set.now.head c.args.end c.args.copy c.args.first)
    (valid_chunk c.args.set.now.head c.requires.set.head) refl (copy_inside c.args.set.now.head c.args.end c.args.first c.args.copy c.requires.set.head c.requires.copy c.requires.inside) c.requires.chunk

pub returns-clause-told : goal.returns-clause-told
returns-clause-told g c =
    run_told (told_all (g.I.Images.seen c.args.images.now).attached) c.args.set.now c.args.end c.args.first (length c.args.to.now / 512) c.args.copy
    c.read_stretch.result c.read_stretch.new.to (omega arith) c.requires.chunk c.read_stretch.ensures.told
