use Rattle.std.proofs.Common.{arith}
use Rattle.image_padding.specs.Padded.{greatest_base}
use Rattle.image_padding.proofs.Images.{padded_length, attaches, stay_padded}
use Rattle.image_padding.proofs.padded.PaddedImages.attach.Goals as goal

pub attach-requires-clause-room : goal.attach-requires-clause-room
attach-requires-clause-room g c =
    let seen = g.I.Images.seen c.args.self.now.images.now in
    let bases = c.args.self.now.bases.items in
    omega (arith, c.requires.room, padded_length (greatest_base bases) bases seen.attached)

pub invariant_of-self : goal.invariant_of-self
invariant_of-self g c = record {
  is_greatest = c.args.self.now.is_greatest;
  are_padded = stay_padded c.args.self.now.bases.items c.args.name.now (g.I.Images.seen c.args.self.now.images.now) (g.I.Images.seen c.attach.new.self) c.attach.result c.attach.ensures.attached c.args.self.now.are_padded;
}

pub returns-clause-attached : goal.returns-clause-attached
returns-clause-attached g c =
    attaches c.args.self.now.images.ghost_name c.args.self.now.bases.items c.args.name.now (g.I.Images.seen c.args.self.now.images.now) (g.I.Images.seen c.attach.new.self) c.attach.result c.args.self.now.are_padded.each c.attach.ensures.attached
