use Rattle.std.proofs.Common.{◌≡◌, ◌≤◌, ◌*◌, [], All, length}
use Rattle.outside.specs.Attached.{told_all}
use Rattle.head_walk.specs.Counts.{most_scanned}
use Rattle.common_pages.specs.Pages.{scans_to}
use Rattle.head_walk.specs.Walk.{left_reads, IsKept, Spends}
use Rattle.common_pages.proofs.PageByPage.{Begun, ends_of, Going}
use Rattle.common_pages.proofs.paging.pages.Given as goal

abbrev pub invariant-loop : goal.invariant-loop
invariant-loop g l = record {
  going : Going (told_all (g.I.Images.seen l.fn.images).attached) l.plan l.size l.span l.from l.at l.made;
  made : length l.made ≡ l.counter;
  quiet : (g.I.Images.seen l.images).faults ≡ (g.I.Images.seen l.fn.images).faults;
  forward : l.from ≤ l.at;
  begun : Begun l.plan l.from l.counter l.at (g.I.Images.seen l.fn.images) (g.I.Images.seen l.images);
  reads : Spends (left_reads l.plan []) (left_reads l.plan l.kept) (g.I.Images.seen l.fn.images) (g.I.Images.seen l.images)
      (scans_to (told_all (g.I.Images.seen l.fn.images).attached) l.plan l.from (ends_of l.made) * most_scanned l.plan);
  kept : All (IsKept (told_all (g.I.Images.seen l.fn.images).attached) l.plan) l.kept;
}
