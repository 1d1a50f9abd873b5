use Rattle.std.proofs.Common.{◌≤◌, false}
use Rattle.page_loop.specs.Parts.{Added, Same}
use Rattle.page_loop.proofs.paging.make_whole.Given as goal

abbrev pub invariant-loop-at : goal.invariant-loop-at
invariant-loop-at g l = record {
  low : l.from ≤ l.at;
  high : l.at ≤ l.stop;
  same : Same (g.W.PageWalk.total_of l.fn.walk) (g.W.PageWalk.size_of l.fn.walk) (g.W.PageWalk.passes l.fn.walk (g.I.Images.seen l.fn.images))
      (g.W.PageWalk.total_of l.walk) (g.W.PageWalk.size_of l.walk) (g.W.PageWalk.passes l.walk (g.I.Images.seen l.images));
  tested : g.W.PageWalk.tested l.fn.walk l.fn.page ≤ g.W.PageWalk.tested l.walk l.page;
  added : Added (g.W.PageWalk.passes l.fn.walk (g.I.Images.seen l.fn.images)) (g.W.PageWalk.tested l.fn.walk l.fn.page) (g.W.PageWalk.tested l.walk l.page)
      (g.W.PageWalk.ranks_of l.fn.walk l.fn.page) (g.W.PageWalk.ranks_of l.walk l.page);
  reads : g.W.PageWalk.reads l.fn.walk (g.I.Images.seen l.fn.images) (g.W.PageWalk.tested l.fn.walk l.fn.page) l.walk (g.I.Images.seen l.images) (g.W.PageWalk.tested l.walk l.page) false;
  holds : g.W.PageWalk.holds l.walk l.page;
  stands : g.W.PageWalk.stands l.walk (g.I.Images.seen l.images) l.page l.at;
}

abbrev pub decreases-loop-at : goal.decreases-loop-at
decreases-loop-at g l = g.W.PageWalk.parts_left l.walk
