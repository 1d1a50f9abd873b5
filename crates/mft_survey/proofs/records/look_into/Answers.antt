use Rattle.std.proofs.Common.{◌≡◌, IfSome, true, rules}
use Rattle.outside.specs.Attached.{told_all}
use Rattle.mft_survey.specs.Records.{is_whole_in, record_bytes}
use Rattle.mft_survey.proofs.Reading.{some_told}
use Rattle.mft_survey.proofs.records.look_into.Goals as goal

pub returns-in_ok-map_err-clause-tables : goal.returns-in_ok-map_err-clause-tables
returns-in_ok-map_err-clause-tables g c =
    let attached = (g.I.Images.seen c.args.images.now).attached in
    let whole : IfSome (told_all attached) (λ images. c.in_ok-whole.whole ≡ is_whole_in c.args.lengths.now images c.args.one.now) = search rules in
    let read : c.in_ok-whole.whole ≡ true → IfSome (told_all attached) (λ images. c.read_whole.new.file ≡ record_bytes images c.args.one.now) = search rules in
    some_told (told_all attached) c.args.lengths.now c.args.boots.now c.args.one.now c.read_whole.new.file c.in_ok-whole.whole c.args.records.now.tables c.add.new.records.tables c.if-whole.true whole (read c.if-whole.true) (search rules)
