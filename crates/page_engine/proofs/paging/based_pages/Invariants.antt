use Rattle.std.proofs.Common.{◌≡◌, ◌≤◌, length}
use Rattle.outside.specs.Attached.{told_all}
use Rattle.outside.specs.Seen.{OnlyReads}
use Rattle.common_pages.proofs.PageByPage.{Begun, ends_of, Going}
use Rattle.page_engine.specs.Reads.{based_to}
use Rattle.page_engine.proofs.paging.based_pages.Given as goal

abbrev pub invariant-loop : goal.invariant-loop
invariant-loop g l = record {
  going : Going (told_all (g.I.Images.seen l.fn.images).attached) l.paging.plan.now l.paging.size l.span l.from l.at l.made;
  made : length l.made ≡ l.counter;
  quiet : (g.I.Images.seen l.images).faults ≡ (g.I.Images.seen l.fn.images).faults;
  forward : l.from ≤ l.at;
  begun : Begun l.paging.plan.now l.from l.counter l.at (g.I.Images.seen l.fn.images) (g.I.Images.seen l.images);
  reads : OnlyReads (g.I.Images.seen l.fn.images) (g.I.Images.seen l.images) (based_to (told_all (g.I.Images.seen l.fn.images).attached) l.paging.plan.now l.from (ends_of l.made));
}
