use Rattle.std.proofs.Common.{◌≡◌, ◌*◌, drop, map, take}
use Rattle.std.specs.Prelude.{count_by}
use Rattle.outside.specs.Attached.{told_all}
use Rattle.outside.specs.Seen.{OnlyReads}
use Rattle.survey_engine.specs.Sizing.{has_run}
use Rattle.survey_engine.specs.Telling.{bare}
use Rattle.survey_engine.proofs.Sizes.{SizedTo}
use Rattle.survey_engine.proofs.sizing.size_inodes.Given as goal

abbrev pub invariant-loop-place : goal.invariant-loop-place
invariant-loop-place g l = record {
  sized : SizedTo (told_all (g.I.Images.seen l.fn.images).attached) l.asked l.lengths l.fn.found l.place l.found;
  alike : map bare l.found ≡ map bare l.fn.found;
  later : drop l.place l.found ≡ drop l.place l.fn.found;
  reads : OnlyReads (g.I.Images.seen l.fn.images) (g.I.Images.seen l.images) (4 * count_by (has_run l.asked l.lengths) (take l.place l.fn.found));
  stays : (g.I.Images.seen l.images).faults ≡ (g.I.Images.seen l.fn.images).faults;
}
