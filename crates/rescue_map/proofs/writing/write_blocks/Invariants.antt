use Rattle.std.proofs.Common.{◌≡◌, ◌-◌, ◌≤◌, IfSome, length}
use Rattle.std.specs.Io.KnownBytes.{Appends}
use Rattle.outside.specs.Attached.{told_all}
use Rattle.outside.specs.Seen.{OnlyReads}
use Rattle.rescue_map.specs.Salvaged.{reads_for_all, salvaged_sectors}
use Rattle.rescue_map.proofs.writing.write_blocks.Given as goal

abbrev pub invariant-loop-first : goal.invariant-loop-first
invariant-loop-first g l = record {
  put : IfSome (told_all (g.I.Images.seen l.fn.images).attached) (λ bytes. Appends (g.K.Sink.gained l.fn.sink) (g.K.Sink.gained l.sink) (salvaged_sectors bytes l.damage.rescue.now l.damage.set.now 0 l.first));
  reads : OnlyReads (g.I.Images.seen l.fn.images) (g.I.Images.seen l.images) (reads_for_all l.damage.rescue.now l.damage.set.now 0 l.first);
  images_stay : (g.I.Images.seen l.images).faults ≡ (g.I.Images.seen l.fn.images).faults;
  sink_stays : g.K.Sink.faults l.sink ≡ g.K.Sink.faults l.fn.sink;
  later : g.K.Sink.faults l.fn.sink ≤ g.K.Sink.faults l.sink;
  within : l.first ≤ l.sectors;
  block_long : length l.block ≡ length l.fn.block;
  rows_long : length l.rows ≡ length l.fn.rows;
}

abbrev pub decreases-loop-first : goal.decreases-loop-first
decreases-loop-first g l = l.sectors - l.first
