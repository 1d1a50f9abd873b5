use Rattle.std.proofs.Common.{◌≡◌, ◌*◌}
use Rattle.outside.specs.Seen.{OnlyReads}
use Rattle.survey_engine.proofs.Reading.{HoldFirst}
use Rattle.survey_engine.proofs.sweep.read_blocks.Given as goal

abbrev pub invariant-loop-image : goal.invariant-loop-image
invariant-loop-image g l = record {
  reads : OnlyReads (g.I.Images.seen l.fn.images) (g.I.Images.seen l.images) (l.image * l.count);
  stays : (g.I.Images.seen l.images).faults ≡ (g.I.Images.seen l.fn.images).faults;
  told : HoldFirst (g.I.Images.seen l.fn.images).attached l.image l.first l.count l.bytes;
}
