use Rattle.std.proofs.Common.{◌∙◌}
use Rattle.outside.specs.Attached.{told_all}
use Rattle.member_regions.proofs.IfTold.{if_told}
use Rattle.rescue_map.specs.Salvaged.{AreSalvaged}
use Rattle.rescue_map.specs.Ways.{AreFound, sectors_of}
use Rattle.rescue_map.proofs.Steps.{found_finished}
use Rattle.rescue_map.proofs.device.read_finished.Goals as goal

pub fill_step-requires-clause-part : goal.fill_step-requires-clause-part
fill_step-requires-clause-part g c = record {
  within = c.requires.part.within;
  members = c.read_step.ensures.lengths.rows ∙ c.requires.part.members;
  long = c.read_step.ensures.lengths.block ∙ c.requires.part.long;
}

pub returns-clause-told : goal.returns-clause-told
returns-clause-told g c =
    let damage = c.args.damage.now in
    let n = sectors_of c.args.way.now in
    if_told (told_all (g.I.Images.seen c.args.images.now).attached)
    (λ bytes. AreFound bytes damage.rescue.now damage.set.now c.args.first n c.read_step.new.row c.read_step.new.to)
    (λ bytes. AreSalvaged bytes damage.rescue.now damage.set.now c.args.first n c.fill_step.new.to)
    (λ bytes found. found_finished bytes damage.rescue.now damage.set.now c.args.first n c.read_step.new.row c.read_step.new.to c.fill_step.new.to found c.fill_step.ensures.finished)
    c.in_ok-read_step.ensures.told
