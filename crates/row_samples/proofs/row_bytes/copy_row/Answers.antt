use Rattle.std.proofs.Common.{rules, ◌≡◌, ◌*◌, ◌+◌, ◌-◌, ◌++◌, List, ℕ, length, take, ap, ◌∙◌, arith}
use borrow.Rule.Slice.PartMut.{put_mid}
use Rattle.std.proofs.lemmas.Slice.{take-put_mid}
use Rattle.row_samples.proofs.Copied.{copied_more}
use Rattle.row_samples.proofs.row_bytes.copy_row.Goals as goal

pub loop-image-preserved : goal.loop-image-preserved
loop-image-preserved c =
    let i = c.loop-image.image in
    let part = c.copy_from_slice.new.self in
    let long = c.loop-image.invariant.long in
    let full : length part ≡ 512 = c.copy_from_slice.auto.self ∙ omega (arith, c.region.ensures.long) in
    let after : take (512 * i + 512) (put_mid (512 * i) (512 * i + 512 - 512 * i) c.loop-image.to part) ≡ take (512 * i) c.loop-image.to ++ part
    = take-put_mid (512 * i) (512 * i + 512 - 512 * i) c.loop-image.to part (512 * i + 512) (omega (arith, full)) (omega arith) in
    record {
      long = search rules;
      copied = copied_more c.args.regions.now c.args.place i c.region.result.now c.loop-image.to _ c.region.ensures.sectors (omega arith)
          (after ∙ ap (λ (l : List ℕ). take (512 * i) c.loop-image.to ++ l) c.copy_from_slice.ensures.after) c.loop-image.invariant.copied;
    }
