use Rattle.std.proofs.Common.{◌≡◌, ◌*◌, ◌≤◌, All, IfSome, length, take}
use Rattle.std.specs.Prelude.{count_by}
use Rattle.mft.specs.Places.{IsTable}
use Rattle.outside.specs.Attached.{told_all}
use Rattle.outside.specs.Seen.{OnlyReads}
use Rattle.mft_survey.specs.Records.{has_record, IsPart}
use Rattle.mft_survey.proofs.Reading.{TablesTo, WholeTo}
use Rattle.mft_survey.proofs.records.read_records.Given as goal

abbrev pub invariant-loop-one : goal.invariant-loop-one
invariant-loop-one g l = record {
  whole : WholeTo (told_all (g.I.Images.seen l.fn.images).attached) l.lengths l.seen l.one-index l.records.whole;
  tables : TablesTo (told_all (g.I.Images.seen l.fn.images).attached) l.lengths l.boots l.seen l.one-index l.records.tables;
  part : IsPart (take l.one-index l.seen) l.records.whole;
  sound : All IsTable l.records.tables;
  few : length l.records.tables ≤ 32;
  reads : OnlyReads (g.I.Images.seen l.fn.images) (g.I.Images.seen l.images) (8 * count_by (has_record l.lengths) (take l.one-index l.seen));
  stays : (g.I.Images.seen l.images).faults ≡ (g.I.Images.seen l.fn.images).faults;
}
