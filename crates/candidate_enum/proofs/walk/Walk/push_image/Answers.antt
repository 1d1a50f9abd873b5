use Rattle.std.proofs.Common.{arith}
use Rattle.candidate_enum.proofs.Keeping.{kept_image}
use Rattle.candidate_enum.proofs.walk.Walk.push_image.Goals as goal

pub returns-clause-kept : goal.returns-clause-kept
returns-clause-kept c =
    let walk = c.args.self.now in
    kept_image walk.slots.items c.push.new.self.items walk.free walk.empty c.args.image c.requires.kept (omega arith) c.push.ensures.items
