use Rattle.std.proofs.Common.{◌≡◌, ◌≤◌, All, length}
use Rattle.mft.specs.Places.{IsTable}
use Rattle.mft_survey.proofs.Reading.{heard_to}
use Rattle.mft_survey.proofs.records.hear.Given as goal

abbrev pub invariant-loop-boot : goal.invariant-loop-boot
invariant-loop-boot l = record {
  tables : l.tables ≡ heard_to l.file l.boots l.fn.tables l.boot-index;
  sound : All IsTable l.tables;
  few : length l.tables ≤ 32;
}
