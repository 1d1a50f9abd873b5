use Rattle.std.proofs.Common.{◌≡◌, arith}
use Rattle.value_text.proofs.Spellings.{none_then}
use Rattle.near_mirror.proofs.NearWords.{same_layout, same_chunk, same_offset}
use Rattle.near_mirror.proofs.word.read_near.Goals as goal
use Rattle.near_mirror.proofs.word.read_near.Goals.{else-chunk-from-via-then-chunk-from+else-offset-lt-SECTORS_END, else-chunk-from-via-else-chunk-from}

pub returns-in_err-chunk : goal.returns-in_err-chunk
returns-in_err-chunk c =
    none_then _ _ c.from_residual-in_err-chunk.result c.from_residual-in_err-chunk.ensures (λ set has e.
    let layout = same_layout set has c.args.text.now c.in_ok-layout.layout c.in_ok-layout.after_layout.now c.in_ok-layout.ensures e in
    c.in_err-chunk.ensures set.head.chunk _ (omega (arith, has.chunk)) layout.1)

pub returns-in_err-offset : goal.returns-in_err-offset
returns-in_err-offset c =
    none_then _ _ c.from_residual-in_err-offset.result c.from_residual-in_err-offset.ensures (λ set has e.
    let layout = same_layout set has c.args.text.now c.in_ok-layout.layout c.in_ok-layout.after_layout.now c.in_ok-layout.ensures e in
    let chunk = same_chunk set has c.in_ok-layout.after_layout.now c.in_ok-chunk.chunk c.in_ok-chunk.after_chunk.now c.in_ok-chunk.ensures layout.1 in
    c.in_err-offset.ensures set.head.offset _ (omega (arith, has.offset)) chunk.1)

pub returns-in_err-slots : goal.returns-in_err-slots
returns-in_err-slots c =
    none_then _ _ c.from_residual-in_err-slots.result c.from_residual-in_err-slots.ensures (λ set has e.
    let layout = same_layout set has c.args.text.now c.in_ok-layout.layout c.in_ok-layout.after_layout.now c.in_ok-layout.ensures e in
    let chunk = same_chunk set has c.in_ok-layout.after_layout.now c.in_ok-chunk.chunk c.in_ok-chunk.after_chunk.now c.in_ok-chunk.ensures layout.1 in
    let offset = same_offset set has c.in_ok-chunk.after_chunk.now c.in_ok-offset.offset c.in_ok-offset.after_offset.now c.in_ok-offset.ensures chunk.1 in
    c.in_err-slots.ensures set.slots.items has.some has.most has.images offset.1)

pub returns-else-chunk-from : goal.returns-else-chunk-from
returns-else-chunk-from c set has e =
    let layout = same_layout set has c.args.text.now c.in_ok-layout.layout c.in_ok-layout.after_layout.now c.in_ok-layout.ensures e in
    let chunk = same_chunk set has c.in_ok-layout.after_layout.now c.in_ok-chunk.chunk c.in_ok-chunk.after_chunk.now c.in_ok-chunk.ensures layout.1 in
    let offset = same_offset set has c.in_ok-chunk.after_chunk.now c.in_ok-offset.offset c.in_ok-offset.after_offset.now c.in_ok-offset.ensures chunk.1 in
    let chunk_is : c.in_ok-chunk.chunk ≡ set.head.chunk = chunk.0 in
    let offset_is : c.in_ok-offset.offset ≡ set.head.offset = offset.0 in
    elim c.else-chunk-from.branch [ else-chunk-from-via-then-chunk-from+else-offset-lt-SECTORS_END w ↦ omega (arith, w.if-offset-lt-SECTORS_END.false, has.offset) | else-chunk-from-via-else-chunk-from w ↦ omega (arith, w.if-chunk-from.false, has.chunk, c.from.ensures) ]
