use Rattle.std.proofs.Common.{rules}
use Rattle.outside.specs.Attached.{told_all}
use Rattle.parity_scan.proofs.Parity.{told_after}
use Rattle.parity_scan.proofs.one_set.count_block.Goals as goal

pub returns-clause-told : goal.returns-clause-told
returns-clause-told g c =
    told_after (told_all (g.I.Images.seen c.args.images.now).attached) c.args.geo.now c.args.first c.args.count c.unsound_of.result c.read.new.self (search rules) c.unsound_of.ensures.count
