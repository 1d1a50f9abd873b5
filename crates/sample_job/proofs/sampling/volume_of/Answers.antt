use Rattle.member_regions.specs.Members.{held}
use Rattle.sample_job.proofs.Refusals.{once_valid}
use Rattle.sample_job.proofs.sampling.volume_of.Goals as goal

pub volume_sectors-requires-clause-head : goal.volume_sectors-requires-clause-head
volume_sectors-requires-clause-head c = once_valid c.args.set.now (held c.args.set.now.slots.items) c.args.end c.requires.kept
