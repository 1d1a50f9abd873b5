use Rattle.std.proofs.Common.{◌≡◌, ◌-◌, ◌*◌, ◌≤◌, IfSome, length}
use Rattle.member_regions.specs.declared.regions.TheConstants.{BLOCK}
use Rattle.outside.specs.Attached.{told_all}
use Rattle.outside.specs.Seen.{OnlyReads}
use Rattle.lost_members.specs.Needs.{needed_sectors}
use Rattle.virtual_volume.specs.Parts.{rows_of}
use Rattle.member_regions.specs.Regions.{KeepsRoom}
use Rattle.virtual_volume.specs.Waiting.{Passes}
use Rattle.virtual_volume.proofs.volume.write_rows.Given as goal

abbrev pub invariant-loop-first : goal.invariant-loop-first
invariant-loop-first g l = record {
  passes : IfSome (told_all (g.I.Images.seen l.fn.images).attached) (λ bytes. Passes (g.K.Sink.gained l.fn.sink) (g.K.Sink.gained l.sink) l.fn.pending l.pending (rows_of bytes l.geo 0 l.first));
  reads : OnlyReads (g.I.Images.seen l.fn.images) (g.I.Images.seen l.images) (needed_sectors l.geo 0 (l.first * l.geo.head.chunk));
  few : length l.pending ≤ 512 * BLOCK;
  images_stay : (g.I.Images.seen l.images).faults ≡ (g.I.Images.seen l.fn.images).faults;
  sink_stays : g.K.Sink.faults l.sink ≡ g.K.Sink.faults l.fn.sink;
  later : g.K.Sink.faults l.fn.sink ≤ g.K.Sink.faults l.sink;
  within : l.first ≤ l.rows;
  room : KeepsRoom l.fn.regions l.regions;
}

abbrev pub decreases-loop-first : goal.decreases-loop-first
decreases-loop-first g l = l.rows - l.first
