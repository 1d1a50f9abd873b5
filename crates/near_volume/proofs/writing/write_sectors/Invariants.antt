use Rattle.std.proofs.Common.{◌≡◌, ◌-◌, ◌≤◌, IfSome, length}
use Rattle.std.specs.Io.KnownBytes.{Appends}
use Rattle.outside.specs.Attached.{told_all}
use Rattle.outside.specs.Seen.{OnlyReads}
use Rattle.near_volume.specs.Sectors.{sectors_of}
use Rattle.near_volume.proofs.writing.write_sectors.Given as goal

abbrev pub invariant-loop-first : goal.invariant-loop-first
invariant-loop-first g l = record {
  put : IfSome (told_all (g.I.Images.seen l.fn.images).attached) (λ bytes. Appends (g.K.Sink.gained l.fn.sink) (g.K.Sink.gained l.sink) (sectors_of bytes l.set l.end 0 l.first));
  reads : OnlyReads (g.I.Images.seen l.fn.images) (g.I.Images.seen l.images) l.first;
  images_stay : (g.I.Images.seen l.images).faults ≡ (g.I.Images.seen l.fn.images).faults;
  sink_stays : g.K.Sink.faults l.sink ≡ g.K.Sink.faults l.fn.sink;
  later : g.K.Sink.faults l.fn.sink ≤ g.K.Sink.faults l.sink;
  within : l.first ≤ l.sectors;
  room : length l.room ≡ length l.fn.room;
}

abbrev pub decreases-loop-first : goal.decreases-loop-first
decreases-loop-first g l = l.sectors - l.first
