use Rattle.std.proofs.Common.{◌≡◌, ◌∙◌, min, ap, length, map, take, arith, ℕ}
use Rattle.std.specs.List.{range_with_len}
use Rattle.std.proofs.lemmas.List.FromFn.{take-map-range_with_len}
use Rattle.run_ends.specs.Agreement.{shortest}
use Rattle.relation_job.specs.Sampling.{rows_in}
use Rattle.relation_job.proofs.CommonRows.{least_first, least_more, small_at}
use Rattle.relation_job.proofs.sampling.common_rows.Goals as goal

pub loop-image-init : goal.loop-image-init
loop-image-init g c =
    let attached = (g.I.Images.seen c.args.images.now).attached in
    let near = small_at attached 0 c.requires.small in
    record { least = c.rows_in-least.ensures ∙ least_first (rows_in c.args.offsets.now attached) (length attached) (omega arith); near = omega (arith, near, c.rows_in-least.ensures) }

pub loop-image-preserved : goal.loop-image-preserved
loop-image-preserved g c =
    let attached = (g.I.Images.seen c.args.images.now).attached in
    record {
      least = c.min-least.ensures ∙ ap (min c.loop-image.least) c.rows_in.ensures ∙ least_more (rows_in c.args.offsets.now attached) (length attached) c.loop-image.image c.loop-image.least (omega arith) (omega arith) c.loop-image.invariant.least;
      near = omega (arith, c.min-least.ensures, c.loop-image.invariant.near);
    }

pub returns-clause-rows : goal.returns-clause-rows
returns-clause-rows g c =
    let attached = (g.I.Images.seen c.args.images.now).attached in
    let all : c.loop-image.image ≡ length attached = omega arith in
    c.loop-image.invariant.least ∙ ap (λ (n : ℕ). shortest (take n (map (rows_in c.args.offsets.now attached) (range_with_len 0 (length attached))))) all
    ∙ ap shortest (take-map-range_with_len (rows_in c.args.offsets.now attached) 0 (length attached) (length attached) (omega arith))
