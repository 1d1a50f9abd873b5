use Rattle.std.proofs.Common.{◌≡◌, ◌-◌, ◌*◌, ◌≤◌, IfSome}
use Rattle.std.specs.Io.KnownBytes.{Appends}
use Rattle.outside.specs.Attached.{told_all}
use Rattle.outside.specs.Seen.{OnlyReads}
use Rattle.raid_params.specs.Size.{data_blocks}
use Rattle.member_regions.specs.Regions.{KeepsRoom}
use Rattle.member_rebuild.specs.Sectors.{sectors_of}
use Rattle.member_rebuild.proofs.member.write_sectors.Given as goal

abbrev pub invariant-loop-first : goal.invariant-loop-first
invariant-loop-first g l = record {
  put : IfSome (told_all (g.I.Images.seen l.fn.images).attached) (λ bytes. Appends (g.K.Sink.gained l.fn.sink) (g.K.Sink.gained l.sink) (sectors_of bytes l.geo l.slot 0 l.first));
  reads : OnlyReads (g.I.Images.seen l.fn.images) (g.I.Images.seen l.images) (data_blocks l.geo.head * l.first);
  images_stay : (g.I.Images.seen l.images).faults ≡ (g.I.Images.seen l.fn.images).faults;
  sink_stays : g.K.Sink.faults l.sink ≡ g.K.Sink.faults l.fn.sink;
  later : g.K.Sink.faults l.fn.sink ≤ g.K.Sink.faults l.sink;
  within : l.first ≤ l.sectors;
  room : KeepsRoom l.fn.regions l.regions;
}

abbrev pub decreases-loop-first : goal.decreases-loop-first
decreases-loop-first g l = l.sectors - l.first
