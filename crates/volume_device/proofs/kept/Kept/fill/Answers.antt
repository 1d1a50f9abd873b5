use Rattle.std.proofs.Common.{rules}
use Rattle.lost_members.proofs.NeededRows.{reads_data}
use Rattle.volume_device.proofs.kept.Kept.fill.Goals as goal

pub returns-in_err-read_needed-clause-read : goal.returns-in_err-read_needed-clause-read
returns-in_err-read_needed-clause-read g c = record {
  reads = reads_data (g.I.Images.seen c.args.images.now) (g.I.Images.seen c.read_needed.new.images) c.args.geo.now c.args.first c.args.count c.requires.can.set c.read_needed.ensures.reads;
  room = search rules;
  kept = search rules;
}

pub returns-clause-read : goal.returns-clause-read
returns-clause-read g c = record {
  reads = reads_data (g.I.Images.seen c.args.images.now) (g.I.Images.seen c.read_needed.new.images) c.args.geo.now c.args.first c.args.count c.requires.can.set c.read_needed.ensures.reads;
  room = search rules;
  kept = search rules;
}
