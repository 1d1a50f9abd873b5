use Rattle.std.proofs.Common.{◌≡◌, ℕ, ◌+◌, ◌*◌, ◌≤◌, List, length}
use Rattle.member_regions.specs.declared.regions.TheConstants.{BLOCK}
use Rattle.virtual_volume.specs.Parts.{items_of}
use Rattle.lost_members.specs.Needs.{HoldData}
use Rattle.virtual_volume.specs.Waiting.{Passes}
use Rattle.virtual_volume.proofs.volume.put_row.Given as goal

abbrev pub invariant-loop-item : goal.invariant-loop-item
invariant-loop-item g l = record {
  passes : (images : List (List ℕ)) (first count : ℕ) → first + l.at ≡ l.row * l.geo.head.chunk → l.at + l.geo.head.chunk ≤ count →
      HoldData images l.geo l.regions.stride first count l.regions.bytes →
      Passes (g.K.Sink.gained l.fn.sink) (g.K.Sink.gained l.sink) l.fn.pending l.pending (items_of images l.geo l.row l.item);
  few : length l.pending ≤ 512 * BLOCK;
  stays : g.K.Sink.faults l.sink ≡ g.K.Sink.faults l.fn.sink;
  later : g.K.Sink.faults l.fn.sink ≤ g.K.Sink.faults l.sink;
}
