use Rattle.std.proofs.Common.{ℕ, ◌≡◌, ◌+◌, ◌*◌, ◌<◌, length, IfSome}
use Rattle.outside.specs.Attached.{told_all}
use Rattle.outside.specs.Seen.{OnlyReads}
use Rattle.near_volume.specs.Columns.{HoldsChunk}
use Rattle.near_volume.specs.Sectors.{near_sector}
use Rattle.near_volume.proofs.rows.read_rows.Given as goal

abbrev pub invariant-loop-column : goal.invariant-loop-column
invariant-loop-column g l = record {
  long : length l.to ≡ length l.fn.to;
  room : length l.room ≡ 32768;
  told : IfSome (told_all (g.I.Images.seen l.fn.images).attached) (λ bytes. (row column : ℕ) → row < l.rows → column < l.column →
      HoldsChunk (λ j. near_sector bytes l.set l.end (l.first + j)) l.set.head.chunk l.to (row * l.set.head.members + column));
  reads : OnlyReads (g.I.Images.seen l.fn.images) (g.I.Images.seen l.images) (l.column * (l.rows * l.set.head.chunk));
  stays : (g.I.Images.seen l.images).faults ≡ (g.I.Images.seen l.fn.images).faults;
}
