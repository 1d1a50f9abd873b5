use Rattle.std.proofs.Common.{◌+◌, arith, rules}
use Rattle.outside.specs.Seen.{AreTold}
use Rattle.outside.proofs.Reading.{reads_none, reads_up}
use Rattle.survey_engine.proofs.Firsts.{image_there, next_within, no_entries, no_header, one_read, told_none, told_read}
use Rattle.survey_engine.proofs.hints.add_hints.Goals as goal

pub returns-then-not-has_entries-clause-told : goal.returns-then-not-has_entries-clause-told
returns-then-not-has_entries-clause-told g c =
    told_none _ c.args.lengths.now c.args.origins.now.items c.args.sighting.now c.requires.origins.few
    (λ images. no_entries c.args.lengths.now images c.args.sighting.now c.in-Gpt.table c.in-Gpt.is (search rules))

pub read-requires : goal.read-requires
read-requires g c =
    next_within (g.I.Images.seen c.args.images.now).attached c.args.lengths.now c.in-Gpt.table c.args.sighting.now.image c.args.sighting.now.sector c.requires.lengths c.requires.sighting.sector (search rules)

pub returns-in_ok-read-in-Gpt-clause-told : goal.returns-in_ok-read-in-Gpt-clause-told
returns-in_ok-read-in-Gpt-clause-told g c =
    let are : AreTold (g.I.Images.seen c.args.images.now).attached c.args.sighting.now.image (c.args.sighting.now.sector + c.in-Gpt.table.unit) c.read.new.to = search rules in
    told_read (g.I.Images.seen c.args.images.now).attached c.args.lengths.now c.args.origins.now.items c.add_firsts.new.origins.items c.read.new.to c.first_sectors.result c.args.sighting.now c.in-Gpt.table
    (image_there (g.I.Images.seen c.args.images.now).attached c.args.lengths.now c.args.sighting.now.image c.args.sighting.now.sector c.requires.lengths c.requires.sighting.sector)
    are (omega arith) c.first_sectors.ensures.firsts c.add_firsts.ensures.items c.in-Gpt.is (search rules)

pub returns-in_default : goal.returns-in_default
returns-in_default g c = record {
  told = told_none _ c.args.lengths.now c.args.origins.now.items c.args.sighting.now c.requires.origins.few (λ images. no_header c.args.lengths.now images c.args.sighting.now c.in_default.not-Gpt);
  origins = c.requires.origins;
  reads = reads_up (g.I.Images.seen c.args.images.now) (g.I.Images.seen c.args.images.now) (reads_none (g.I.Images.seen c.args.images.now)) (omega arith);
  cause = search rules;
}

pub returns-in_ok-read-in-Gpt-clause-reads : goal.returns-in_ok-read-in-Gpt-clause-reads
returns-in_ok-read-in-Gpt-clause-reads g c =
    one_read (g.I.Images.seen c.args.images.now) (g.I.Images.seen c.read.new.self) c.args.lengths.now c.args.sighting.now c.in-Gpt.table c.in-Gpt.is (search rules) (search rules)

pub returns-in_err-read-in-Gpt-clause-reads : goal.returns-in_err-read-in-Gpt-clause-reads
returns-in_err-read-in-Gpt-clause-reads g c =
    one_read (g.I.Images.seen c.args.images.now) (g.I.Images.seen c.read.new.self) c.args.lengths.now c.args.sighting.now c.in-Gpt.table c.in-Gpt.is (search rules) (search rules)
