use Rattle.std.proofs.Common.{◌≡◌, map, take}
use Rattle.outside.specs.Attached.{told_all}
use Rattle.outside.specs.Seen.{OnlyReads}
use Rattle.survey_engine.specs.Telling.{bare}
use Rattle.survey_engine.proofs.Told.{sectors_to, ToldTo}
use Rattle.survey_engine.proofs.telling.tell.Given as goal

abbrev pub invariant-loop-place : goal.invariant-loop-place
invariant-loop-place g l = record {
  told : ToldTo (told_all (g.I.Images.seen l.fn.images).attached) l.asked l.lengths l.fn.found l.place l.found;
  alike : map bare l.found ≡ map bare l.fn.found;
  reads : OnlyReads (g.I.Images.seen l.fn.images) (g.I.Images.seen l.images) (sectors_to l.asked l.lengths (take l.place l.fn.found));
  stays : (g.I.Images.seen l.images).faults ≡ (g.I.Images.seen l.fn.images).faults;
}
