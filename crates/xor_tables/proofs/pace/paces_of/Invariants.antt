use Rattle.std.proofs.Common.{◌≡◌, ◌++◌, take}
use Rattle.std.specs.List.{flat_map}
use Rattle.xor_tables.proofs.Paces.{with_chunk}
use Rattle.xor_tables.proofs.pace.paces_of.Given as goal

abbrev pub invariant-loop-chunk : goal.invariant-loop-chunk
invariant-loop-chunk l = l.paces.items ≡ flat_map (with_chunk l.plan.bounds.delays.items) (take l.chunk-index l.plan.bounds.chunks.items)

abbrev pub invariant-loop-delay : goal.invariant-loop-delay
invariant-loop-delay l =
    l.paces.items ≡ flat_map (with_chunk l.plan.bounds.delays.items) (take l.chunk-index l.plan.bounds.chunks.items) ++ with_chunk (take l.delay-index l.plan.bounds.delays.items) l.chunk
