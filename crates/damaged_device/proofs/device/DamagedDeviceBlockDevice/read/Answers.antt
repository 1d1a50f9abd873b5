use Rattle.std.proofs.Common.{◌∙◌, ◌/◌, length, refl, sym, arith}
use Rattle.outside.specs.Attached.{told_all}
use Rattle.damaged_device.proofs.Again.{answers_kept, answers_lost, mendable_of}
use Rattle.damaged_device.proofs.Told.{device_told}
use Rattle.damaged_device.proofs.device.DamagedDeviceBlockDevice.read.Goals as goal

pub has_lost-requires-clause-set : goal.has_lost-requires-clause-set
has_lost-requires-clause-set g c =
    let d = c.args.self.now in
    mendable_of d.damage.now.set.now d.damage.now.end (g.I.Images.seen d.images.now).attached d.can.can.set

pub returns-then-has_lost-clause-reads : goal.returns-then-has_lost-clause-reads
returns-then-has_lost-clause-reads g c =
    let d = c.args.self.now in
    (answers_lost d.damage.now.rescue.now d.damage.now.set.now (record { first = c.args.first; count = length c.args.to.now / 512 }) (g.I.Images.seen d.images.now) (sym c.has_lost.ensures ∙ c.if-has_lost.true), refl)

pub returns-clause-told : goal.returns-clause-told
returns-clause-told g c =
    let d = c.args.self.now in
    device_told (told_all (g.I.Images.seen d.images.now).attached) d.damage.now.rescue.now d.damage.now.set.now d.damage.now.end c.args.first (length c.args.to.now / 512) (length c.args.to.now) c.read_steps.result c.read_steps.new.to
    (omega arith) c.requires.inside c.read_steps.ensures.told

pub returns-clause-reads : goal.returns-clause-reads
returns-clause-reads g c =
    let d = c.args.self.now in (
      answers_kept d.damage.now.rescue.now d.damage.now.set.now (record { first = c.args.first; count = length c.args.to.now / 512 }) (g.I.Images.seen d.images.now) (g.I.Images.seen c.read_steps.new.images) c.read_steps.result
          (sym c.has_lost.ensures ∙ c.if-has_lost.false) c.read_steps.ensures.reads,
      refl,
    )
