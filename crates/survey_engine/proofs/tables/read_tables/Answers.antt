use Rattle.std.proofs.Common.{◌≡◌, All, rules, subst, sym}
use Rattle.mft_survey.specs.Records.{IsPart, IsSeen}
use Rattle.mft_survey.specs.declared.records.RecordSeen.{RecordSeen}
use Rattle.std.specs.Prelude.{List}
use Rattle.survey_engine.specs.Tables.{records_of}
use Rattle.survey_engine.proofs.TableLaw.{are_records, are_seen}
use Rattle.survey_engine.proofs.tables.read_tables.Goals as goal

pub read_records-requires-clause-seen : goal.read_records-requires-clause-seen
read_records-requires-clause-seen g c =
    let seen : c.as_slice-2.result.now ≡ records_of c.args.asked c.args.found.now = search rules in
    subst (λ (l : List RecordSeen). All (IsSeen c.args.lengths.now) l) (sym seen) (are_seen c.args.lengths.now c.args.asked c.args.found.now c.requires.found.each)

pub returns-in-Ok-clause-are : goal.returns-in-Ok-clause-are
returns-in-Ok-clause-are g c =
    let seen : c.as_slice-2.result.now ≡ records_of c.args.asked c.args.found.now = search rules in
    are_records c.args.lengths.now c.args.asked c.args.found.now c.in-Ok.records c.requires.found
    (subst (λ (l : List RecordSeen). IsPart l c.in-Ok.records.whole) seen c.in-Ok.ensures.part) c.in-Ok.ensures.sound c.in-Ok.ensures.few
