use Rattle.std.proofs.Common.{◌≡◌, ◌+◌, ℕ, List, ◌++◌, ◌∷◌, [], length, ap, ◌∙◌, arith, sym, decimal}
use Rattle.std.proofs.Math.Numerals.{add-one}
use Rattle.std.proofs.lemmas.List.FromFn.{length-range_with_len}
use Rattle.std.specs.List.{range_with_len}
use Rattle.image_source.specs.Memory.{Shelf, number_of}
use Rattle.member_regions.specs.Members.{held}
use Rattle.sample_arrays.proofs.Ranges.{range_more}
use Rattle.raid_params.proofs.Ruled.{ruled_shape}
use Rattle.sample_arrays.specs.Arrays.{end_of}
use Rattle.sample_job.proofs.Asked.{few_held}
use Rattle.sample_job.proofs.Attached.{attached_are, number_is}
use Rattle.sample_job.proofs.sampling.array_images.Goals as goal

pub attach-requires-clause-there : goal.attach-requires-clause-there
attach-requires-clause-there c =
    let count : c.count_held-image-end.result ≡ held c.args.set.now.slots.items = c.count_held-image-end.ensures ∙ ap held c.deref.ensures.0 in
    let below = c.loop-image-test.true in
    ap (λ (files : List (List ℕ × List ℕ)). number_of files (decimal c.loop-image.image)) c.loop-image.invariant.0
    ∙ number_is c.args.number c.args.set.now c.args.rows c.args.xfs c.loop-image.image (omega arith)
    (few_held c.args.set.now (held c.args.set.now.slots.items) (ruled_shape c.args.set.now (held c.args.set.now.slots.items) (end_of c.args.set.now.head c.args.rows) c.requires.ruled))

pub attach-requires-clause-room : goal.attach-requires-clause-room
attach-requires-clause-room c =
    let below = c.loop-image-test.true in
    let few = c.count_held-image-end.type_inv in
    let long : length c.loop-image.images.attached ≡ c.loop-image.image = ap (λ (ks : List ℕ). length ks) c.loop-image.invariant.1 ∙ length-range_with_len 0 c.loop-image.image in
    omega arith

pub loop-image-preserved : goal.loop-image-preserved
loop-image-preserved c = (
  c.attach.ensures.files ∙ c.loop-image.invariant.0,
  c.attach.ensures.attached ∙ ap (λ (ks : List ℕ). ks ++ c.loop-image.image ∷ []) c.loop-image.invariant.1
      ∙ ap (λ (k : ℕ). range_with_len 0 c.loop-image.image ++ k ∷ []) (let e : c.loop-image.image ≡ 0 + c.loop-image.image = omega arith in e)
      ∙ sym (range_more 0 c.loop-image.image) ∙ ap (λ (n : ℕ). range_with_len 0 n) (sym (add-one c.loop-image.image)),
  c.attach.ensures.failing,
)

pub returns-clause-images : goal.returns-clause-images
returns-clause-images c =
    let count : c.count_held-image-end.result ≡ held c.args.set.now.slots.items = c.count_held-image-end.ensures ∙ ap held c.deref.ensures.0 in
    let end = c.loop-image-test.false in
    let within = c.loop-image.auto.image-end in
    let all : c.loop-image.image ≡ held c.args.set.now.slots.items = omega arith in
    attached_are c.args.number c.args.set.now c.args.rows c.args.xfs c.of.result c.loop-image.image
    (ap (λ (s : Shelf). s.files) c.of.ensures ∙ c.loop-image.invariant.0) (ap (λ (s : Shelf). s.attached) c.of.ensures ∙ c.loop-image.invariant.1) all
