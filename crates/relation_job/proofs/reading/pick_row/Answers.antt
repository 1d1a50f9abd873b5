use Rattle.std.proofs.Common.{◌≡◌, ◌*◌, ◌+◌, ◌-◌, ◌<◌, ◌++◌, List, ℕ, length, take, ap, sym, ◌∙◌, arith}
use borrow.Rule.Slice.PartMut.{put_mid}
use Rattle.std.specs.List.{flat_map, range_with_len}
use Rattle.std.proofs.lemmas.Slice.{take-put_mid}
use Rattle.relation_job.specs.Blocks.{block_sector}
use Rattle.relation_job.proofs.BlockBytes.{flat_next, part_long}
use Rattle.relation_job.proofs.reading.pick_row.Goals as goal

pub loop-image-preserved : goal.loop-image-preserved
loop-image-preserved c =
    let i = c.loop-image.image in
    let f = block_sector c.args.block.now c.args.rows c.args.place in
    let part = c.copy_from_slice.new.self in
    let lt : i < c.args.count = omega arith in
    let whole = part_long c.loop-image.to 512 i c.args.count lt (omega arith) in
    let full : length part ≡ 512 = c.copy_from_slice.auto.self ∙ whole in
    let after : take (512 * (i + 1)) (put_mid (512 * i) (512 * i + 512 - 512 * i) c.loop-image.to part) ≡ take (512 * i) c.loop-image.to ++ part =
    take-put_mid (512 * i) (512 * i + 512 - 512 * i) c.loop-image.to part (512 * (i + 1)) (omega (arith, full)) (omega arith) in
    after ∙ ap (λ (l : List ℕ). l ++ part) c.loop-image.invariant ∙ ap (λ (l : List ℕ). flat_map f (range_with_len 0 i) ++ l) c.copy_from_slice.ensures.after ∙ sym (flat_next f i)
