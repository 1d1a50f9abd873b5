use Rattle.std.proofs.Common.{◌≡◌, ℕ, ◌*◌, ◌≤◌, List, length}
use Rattle.member_regions.specs.declared.regions.TheConstants.{BLOCK}
use Rattle.virtual_volume.specs.Parts.{rows_of}
use Rattle.lost_members.specs.Needs.{HoldData}
use Rattle.virtual_volume.specs.Waiting.{Passes}
use Rattle.virtual_volume.proofs.volume.put_rows.Given as goal

abbrev pub invariant-loop-r : goal.invariant-loop-r
invariant-loop-r g l = record {
  passes : (images : List (List ℕ)) → HoldData images l.geo l.regions.stride (l.first * l.geo.head.chunk) (l.rows * l.geo.head.chunk) l.regions.bytes →
      Passes (g.K.Sink.gained l.fn.sink) (g.K.Sink.gained l.sink) l.fn.pending l.pending (rows_of images l.geo l.first l.r);
  few : length l.pending ≤ 512 * BLOCK;
  stays : g.K.Sink.faults l.sink ≡ g.K.Sink.faults l.fn.sink;
  later : g.K.Sink.faults l.fn.sink ≤ g.K.Sink.faults l.sink;
}
