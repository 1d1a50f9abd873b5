use Rattle.std.proofs.Common.{◌≡◌, All}
use Rattle.mft_survey.specs.Marks.{IsNearMark}
use Rattle.mft_survey.proofs.Marked.{marks_to}
use Rattle.mft_survey.proofs.marks.marks_by.Given as goal

abbrev pub invariant-loop-one : goal.invariant-loop-one
invariant-loop-one l = record {
  marks : l.marks ≡ marks_to l.most l.whole l.table l.one-index;
  near : All IsNearMark l.marks;
}
