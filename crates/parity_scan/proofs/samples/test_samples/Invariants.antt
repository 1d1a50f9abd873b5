use Rattle.std.proofs.Common.{◌≡◌, ◌*◌, length, IfSome}
use Rattle.outside.specs.Attached.{told_all}
use Rattle.outside.specs.Seen.{OnlyReads}
use Rattle.member_regions.specs.Regions.{KeepsRoom}
use Rattle.parity_scan.specs.Pass.{TalliesSome}
use Rattle.parity_scan.specs.Tallies.{AllTallies, KeepSettled}
use Rattle.parity_scan.proofs.samples.test_samples.Given as goal

abbrev pub invariant-loop-k : goal.invariant-loop-k
invariant-loop-k g l = record {
  reads : OnlyReads (g.I.Images.seen l.fn.images) (g.I.Images.seen l.images) (length (g.I.Images.seen l.fn.images).attached * l.k);
  quiet : (g.I.Images.seen l.images).faults ≡ (g.I.Images.seen l.fn.images).faults;
  told : IfSome (told_all (g.I.Images.seen l.fn.images).attached) (λ bytes. AllTallies (TalliesSome bytes l.scanned.scope.now l.at) l.scanned.sets.now l.tallies);
  long : length l.tallies ≡ length l.scanned.sets.now;
  settled : KeepSettled l.fn.tallies l.tallies;
  room : KeepsRoom l.fn.regions l.regions;
}
