use Rattle.std.proofs.Common.{◌≡◌, ◌∙◌, length, true, sym, rules}
use Rattle.outside.specs.Attached.{told_all}
use Rattle.outside.specs.Seen.{AreTold}
use Rattle.mft_survey.specs.Records.{has_record}
use Rattle.mft_survey.proofs.Reading.{file_known, not_there, reads_eight, record_within, whole_known}
use Rattle.mft_survey.proofs.records.read_whole.Goals as goal

pub returns-then-not-has_record-clause-is : goal.returns-then-not-has_record-clause-is
returns-then-not-has_record-clause-is g c = not_there (told_all (g.I.Images.seen c.args.images.now).attached) c.args.lengths.now c.args.one.now (search rules)

pub read-requires : goal.read-requires
read-requires g c = record_within (g.I.Images.seen c.args.images.now).attached c.args.lengths.now c.args.one.now (length c.args.file.now) c.requires.file c.requires.lengths c.requires.one (search rules)

pub returns-in_err-read-clause-reads : goal.returns-in_err-read-clause-reads
returns-in_err-read-clause-reads g c =
    reads_eight (g.I.Images.seen c.args.images.now) (g.I.Images.seen c.read.new.self) c.args.lengths.now c.args.one.now (length c.args.file.now) c.requires.file c.requires.one (search rules) c.read.ensures.reads

pub returns-clause-reads : goal.returns-clause-reads
returns-clause-reads g c =
    reads_eight (g.I.Images.seen c.args.images.now) (g.I.Images.seen c.read.new.self) c.args.lengths.now c.args.one.now (length c.args.file.now) c.requires.file c.requires.one (search rules) c.read.ensures.reads

pub returns-clause-is : goal.returns-clause-is
returns-clause-is g c =
    let attached = (g.I.Images.seen c.args.images.now).attached in
    let are : AreTold attached c.args.one.now.image c.args.one.now.sector c.read.new.to = search rules in
    let there : has_record c.args.lengths.now c.args.one.now ≡ true = search rules in
    whole_known (told_all attached) c.args.lengths.now c.args.one.now c.read.new.to c.is_whole.result there c.is_whole.ensures
    (file_known attached c.args.lengths.now c.args.one.now c.read.new.to c.requires.lengths c.requires.one are (search rules))

pub returns-clause-file : goal.returns-clause-file
returns-clause-file g c is =
    let attached = (g.I.Images.seen c.args.images.now).attached in
    let are : AreTold attached c.args.one.now.image c.args.one.now.sector c.read.new.to = search rules in
    file_known attached c.args.lengths.now c.args.one.now c.read.new.to c.requires.lengths c.requires.one are (search rules)
