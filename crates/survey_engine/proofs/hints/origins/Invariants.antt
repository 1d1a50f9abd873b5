use Rattle.std.specs.Prelude.{count_by}
use Rattle.std.proofs.Common.{◌≡◌, take}
use Rattle.outside.specs.Seen.{OnlyReads}
use Rattle.survey_engine.specs.Origins.{is_followed, AreOrigins}
use Rattle.survey_engine.proofs.Firsts.{Hinted}
use Rattle.survey_engine.proofs.hints.origins.Given as goal

abbrev pub invariant-loop-sighting : goal.invariant-loop-sighting
invariant-loop-sighting g l = record {
  reads : OnlyReads (g.I.Images.seen l.fn.images) (g.I.Images.seen l.images) (count_by (is_followed l.lengths) (take l.sighting-index l.found));
  told : Hinted (g.I.Images.seen l.fn.images).attached l.asked l.lengths l.found l.sighting-index l.origins.items;
  origins : AreOrigins l.origins.items;
  stays : (g.I.Images.seen l.images).faults ≡ (g.I.Images.seen l.fn.images).faults;
}
