use Rattle.std.proofs.Common.{ℕ, ◌+◌, List, arith, refl, subst, ◌∙◌}
use Rattle.row_samples.proofs.Begun.{lie_later}
use Rattle.row_samples.specs.Rows.{HoldSector}
use Rattle.row_samples.specs.Spreads.{AreSampled}
use Rattle.xor_tables.proofs.Sampled.{sector_of}
use Rattle.xor_tables.proofs.sampling.offer_rows.Goals as goal

pub loop-j-init : goal.loop-j-init
loop-j-init c = record {
  telling_images = refl;
  others_images = refl;
  below = lie_later c.args.first (c.args.first + 0) c.args.sampler.now (omega arith) c.requires.below;
  kept = λ bytes offset hold are. are;
}

pub offer_row-requires-clause-room : goal.offer_row-requires-clause-room
offer_row-requires-clause-room c =
    let many = c.requires.room.many in
    let long = c.requires.room.long in
    let same = c.loop-j.invariant.telling_images in
    let lt = c.loop-j-test.true in
    let few = c.requires.count in
    record { many = omega arith; long = omega arith }

pub loop-j-preserved : goal.loop-j-preserved
loop-j-preserved c =
    let P : ℕ → Type 0 = λ n. (bytes : List (List ℕ)) (offset : ℕ) → HoldSector bytes n (offset + (c.args.first + c.loop-j.j)) c.loop-j.j c.args.regions.now →
    AreSampled bytes n offset c.loop-j.sampler → AreSampled bytes n offset c.offer_row.new.sampler in
    let grows : P c.args.sampler.now.telling.kept.images = subst P c.loop-j.invariant.telling_images c.offer_row.ensures.kept in
    record {
      telling_images = c.offer_row.ensures.telling_images ∙ c.loop-j.invariant.telling_images;
      others_images = c.offer_row.ensures.others_images ∙ c.loop-j.invariant.others_images;
      below = lie_later (c.args.first + c.loop-j.j + 1) (c.args.first + (c.loop-j.j + 1)) c.offer_row.new.sampler (omega arith) c.offer_row.ensures.below;
      kept = λ bytes offset hold are. grows bytes offset
          (sector_of bytes c.args.sampler.now.telling.kept.images offset c.args.first c.args.count c.loop-j.j c.args.regions.now hold c.loop-j-test.true)
          (c.loop-j.invariant.kept bytes offset hold are);
    }
