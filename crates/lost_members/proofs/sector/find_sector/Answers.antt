use Rattle.std.proofs.Common.{◌≡◌, length, arith}
use Rattle.outside.proofs.Reading.{reads_up}
use Rattle.outside.specs.Attached.{told_all}
use Rattle.lost_members.proofs.NeededRows.{reads_data}
use Rattle.lost_members.proofs.OneSector.{sector_told}
use Rattle.lost_members.proofs.sector.find_sector.Goals as goal

pub returns-clause-told : goal.returns-clause-told
returns-clause-told g c =
    let long : length c.copy_from_slice.new.self ≡ 512 = omega arith in
    sector_told (told_all (g.I.Images.seen c.args.images.now).attached) c.args.geo.now c.args.slot c.args.sector c.read_needed.new.sectors c.find_data.new.sectors c.copy_from_slice.new.self
    c.requires.slot c.requires.data c.find_data.ensures long c.copy_from_slice.ensures.after c.in_ok-read_needed.ensures.told

pub returns-clause-reads : goal.returns-clause-reads
returns-clause-reads g c =
    reads_up (g.I.Images.seen c.args.images.now) (g.I.Images.seen c.read_needed.new.images)
    (reads_data (g.I.Images.seen c.args.images.now) (g.I.Images.seen c.read_needed.new.images) c.args.geo.now c.args.sector 1 c.requires.set c.read_needed.ensures.reads) (omega arith)

pub returns-in_err-read_needed-clause-reads : goal.returns-in_err-read_needed-clause-reads
returns-in_err-read_needed-clause-reads g c =
    reads_up (g.I.Images.seen c.args.images.now) (g.I.Images.seen c.read_needed.new.images)
    (reads_data (g.I.Images.seen c.args.images.now) (g.I.Images.seen c.read_needed.new.images) c.args.geo.now c.args.sector 1 c.requires.set c.read_needed.ensures.reads) (omega arith)
