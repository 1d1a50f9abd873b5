use Rattle.std.proofs.Common.{◌≡◌, ◌*◌, ◌/◌, length}
use Rattle.outside.specs.Attached.{told_all}
use Rattle.outside.specs.Seen.{OnlyReads}
use Rattle.member_regions.specs.Regions.{IsRoomFor}
use Rattle.row_samples.proofs.Begun.{AreFar}
use Rattle.row_samples.specs.Spreads.{HaveFew, LieBelow}
use Rattle.row_samples.proofs.reading.fill.Given as goal

abbrev pub invariant-loop-number : goal.invariant-loop-number
invariant-loop-number g l = record {
  far : AreFar (told_all (g.I.Images.seen l.fn.images).attached) (length l.scope.lengths.items) l.offset (l.rows / l.tries * l.number) l.sampler;
  few : HaveFew l.fn.sampler l.sampler;
  within : LieBelow l.rows l.sampler;
  faults : (g.I.Images.seen l.images).faults ≡ (g.I.Images.seen l.fn.images).faults;
  reads : OnlyReads (g.I.Images.seen l.fn.images) (g.I.Images.seen l.images) (length l.scope.lengths.items * l.number);
  room : IsRoomFor (length l.scope.lengths.items) 1 l.regions;
}
