use Rattle.member_regions.proofs.Members.{member_read}
use Rattle.member_regions.proofs.reading.read_member.Goals as goal

pub returns-in-Some-clause-told : goal.returns-in-Some-clause-told
returns-in-Some-clause-told g c = member_read (g.I.Images.seen c.args.images.now).attached c.in-Some.image _ c.args.offset c.args.first c.args.held c.read.result c.read.new.to c.in-Some.is c.requires.held c.read.ensures.told
