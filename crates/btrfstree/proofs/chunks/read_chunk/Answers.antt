use Rattle.std.proofs.Common.{◌≡◌, ◌∙◌, sym, true}
use Rattle.btrfstree.specs.Chunks.{is_chunk}
use Rattle.btrfstree.proofs.Within.{chunk_within}
use Rattle.btrfstree.proofs.chunks.read_chunk.Goals as goal

pub returns-then-is_chunk-clause-within : goal.returns-then-is_chunk-clause-within
returns-then-is_chunk-clause-within c =
    let is : is_chunk c.args.device c.args.logical c.args.item.now ≡ true = sym c.is_chunk.ensures ∙ c.if-is_chunk.true in
    rw c.chunk_of.ensures (chunk_within c.args.device c.args.logical c.args.item.now is)
