use Rattle.std.proofs.Common.{◌≡◌, ◌*◌, ℕ, List, [], ◌∷◌, ◌++◌, All, Option, Some, decimal, length, sym, ap, ◌∙◌, subst, arith}
use Rattle.image_source.specs.Memory.{Shelf, no_images, told_bytes}
use Rattle.member_regions.specs.Members.{held}
use Rattle.sample_arrays.proofs.Sampled.{all_sampled, one_long_more, one_sampled_more, sampled_front}
use Rattle.sample_arrays.specs.Arrays.{IsFile, end_of, image_of, slot_of}
use Rattle.sample_arrays.specs.Marks.{volume_sector}
use Rattle.sample_arrays.proofs.arrays.sample.Goals as goal

pub loop-image-preserved : goal.loop-image-preserved
loop-image-preserved c =
    let F : Option ℕ → List ℕ = λ blocks. image_of (volume_sector c.args.number blocks) c.args.geo.now.head c.args.rows (slot_of c.args.geo.now c.loop-image.image) in
    let front = sampled_front c.args.number c.args.geo.now c.args.rows c.args.xfs c.loop-image.image in
    let is = c.groups-blocks.ensures.blocks in (
      c.in_ok-add_image.ensures.files
          ∙ ap (λ (s : Shelf). record s { files = s.files ++ (decimal c.loop-image.image, F c.groups-blocks.result) ∷ [] }) c.loop-image.invariant.0
          ∙ ap (λ (blocks : Option ℕ). record no_images { files = front ++ (decimal c.loop-image.image, F blocks) ∷ [] }) is
          ∙ ap (λ (files : List (List ℕ × List ℕ)). record no_images { files = files }) (sym (one_sampled_more c.args.number c.args.geo.now c.args.rows c.args.xfs c.loop-image.image)),
      one_long_more c.args.number c.args.geo.now c.args.rows c.args.xfs c.loop-image.image c.loop-image.invariant.1
          (subst (λ (blocks : Option ℕ). length (F blocks) ≡ 512 * end_of c.args.geo.now.head c.args.rows) is c.in_ok-add_image.ensures.long)
          (subst (λ (blocks : Option ℕ). told_bytes (F blocks) ≡ Some (F blocks)) is c.in_ok-add_image.ensures.told),
    )

pub returns-clause-images : goal.returns-clause-images
returns-clause-images c =
    let end = c.loop-image-test.false in
    let within = c.loop-image.auto.image-end in
    let count : c.count_held-image-end.result ≡ held c.args.geo.now.slots.items = c.count_held-image-end.ensures ∙ ap held c.deref.ensures.0 in
    let all : c.loop-image.image ≡ held c.args.geo.now.slots.items = omega arith in
    c.loop-image.invariant.0
    ∙ ap (λ (files : List (List ℕ × List ℕ)). record no_images { files = files }) (all_sampled c.args.number c.args.geo.now c.args.rows c.args.xfs c.loop-image.image all)

pub returns-clause-long : goal.returns-clause-long
returns-clause-long c =
    let end = c.loop-image-test.false in
    let within = c.loop-image.auto.image-end in
    let count : c.count_held-image-end.result ≡ held c.args.geo.now.slots.items = c.count_held-image-end.ensures ∙ ap held c.deref.ensures.0 in
    let all : c.loop-image.image ≡ held c.args.geo.now.slots.items = omega arith in
    subst (λ (files : List (List ℕ × List ℕ)). All (IsFile (end_of c.args.geo.now.head c.args.rows)) files)
    (all_sampled c.args.number c.args.geo.now c.args.rows c.args.xfs c.loop-image.image all) c.loop-image.invariant.1
