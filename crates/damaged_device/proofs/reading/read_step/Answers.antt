use Rattle.std.proofs.Common.{◌/◌, length}
use Rattle.outside.specs.Attached.{told_all}
use Rattle.outside.proofs.Reading.{reads_up}
use Rattle.volume_device.specs.Cost.{range_cost}
use Rattle.damaged_device.proofs.Again.{again_kept, again_row, mendable_of, readable_of}
use Rattle.damaged_device.proofs.GoodRows.{range_less}
use Rattle.damaged_device.proofs.Told.{good_told}
use Rattle.damaged_device.proofs.reading.read_step.Goals as goal

pub returns-then-rows_are_good-clause-told : goal.returns-then-rows_are_good-clause-told
returns-then-rows_are_good-clause-told g c =
    let damage = c.args.damage.now in
    good_told (told_all (g.I.Images.seen c.args.images.now).attached) damage.rescue.now damage.set.now damage.end c.args.first (length c.args.to.now / 512) c.read_range.result c.read_range.new.to (mendable_of damage.set.now damage.end (g.I.Images.seen c.args.images.now).attached c.requires.can.can.set)
    (c.rows_are_good.ensures c.if-rows_are_good.true) c.read_range.ensures.told

pub returns-then-rows_are_good-clause-can : goal.returns-then-rows_are_good-clause-can
returns-then-rows_are_good-clause-can g c =
    let damage = c.args.damage.now in
    again_kept damage.set.now damage.end (range_cost damage.set.now.geo c.args.first (length c.args.to.now / 512)) (g.I.Images.seen c.args.images.now) (g.I.Images.seen c.read_range.new.images) c.args.kept.now c.read_range.new.kept c.args.row.now c.requires.can c.read_range.ensures.read

pub returns-then-rows_are_good-clause-reads : goal.returns-then-rows_are_good-clause-reads
returns-then-rows_are_good-clause-reads g c =
    let damage = c.args.damage.now in
    record {
      only = reads_up (g.I.Images.seen c.args.images.now) (g.I.Images.seen c.read_range.new.images) c.read_range.ensures.read.reads
          (range_less damage.rescue.now damage.set.now damage.end c.args.first (length c.args.to.now / 512) (mendable_of damage.set.now damage.end (g.I.Images.seen c.args.images.now).attached c.requires.can.can.set) (c.rows_are_good.ensures c.if-rows_are_good.true));
      cause = c.read_range.ensures.cause;
    }

pub returns-clause-can : goal.returns-clause-can
returns-clause-can g c =
    let damage = c.args.damage.now in
    again_row damage.set.now damage.end _ (g.I.Images.seen c.args.images.now) (g.I.Images.seen c.read_salvaged.new.images) c.args.kept.now c.args.row.now c.read_salvaged.new.row c.requires.can c.read_salvaged.ensures.reads.only c.read_salvaged.ensures.row

pub rows_are_good-requires-clause-set : goal.rows_are_good-requires-clause-set
rows_are_good-requires-clause-set g c = mendable_of c.args.damage.now.set.now c.args.damage.now.end (g.I.Images.seen c.args.images.now).attached c.requires.can.can.set

pub read_salvaged-requires-clause-set : goal.read_salvaged-requires-clause-set
read_salvaged-requires-clause-set g c = readable_of c.args.damage.now.set.now c.args.damage.now.end (g.I.Images.seen c.args.images.now).attached c.requires.can.can.set
