use Rattle.std.proofs.Common.{◌≡◌, ℕ, ◌+◌, ◌&&◌, Bool, true, false, min, length, get_or, if◌then◌else◌, nat_le, arith, ap, sym, ◌∙◌}
use Rattle.std.proofs.lemmas.Bool.Decides.{nat_tests}
use Rattle.std.specs.List.{range_with_len, sum_by}
use Rattle.landmark_rules.specs.Groups.{bounds_of}
use Rattle.landmark_rules.specs.declared.marks.MarkBounds.{MarkBounds}
use Rattle.mark_tables.specs.Tables.{count_at}
use Rattle.raid_params.specs.declared.limits.TheConstants.{MOST}
use Rattle.mark_tables.proofs.Prefixes.{holds_from}
use Rattle.slot_math.proofs.Held.{more_images}
use Rattle.mark_tables.proofs.groups.may_hold_from.Goals as goal

pub count_placed-count-requires-clause-images : goal.count_placed-count-requires-clause-images
count_placed-count-requires-clause-images c = more_images (length c.args.beginning.now.plan.now.lengths.items) MOST c.args.beginning.now.prefix.now c.requires.plan.lengths.most c.requires.prefix.images

pub returns-then-count-bounds : goal.returns-then-count-bounds
returns-then-count-bounds c = λ origin known.
    let most = ap (λ (b : MarkBounds). b.misfits) c.bounds_for-bounds.ensures in
    let low : nat_le c.count_placed-count.result.misfits (bounds_of c.args.beginning.now.plan.now.tests c.args.group.now).misfits ≡ true = grind (arith, nat_tests, most, c.if-count-bounds.true) in
    ap (λ (b : Bool). b && nat_le c.min-asked.result (c.count_placed-count.result.fits + c.reserves-reserves.result)) (sym low)
    ∙ holds_from c.args.beginning.now.plan.now c.args.beginning.now.head.now c.args.beginning.now.prefix.now c.args.group.now origin c.args.table.now c.args.beginning.now.standing
    c.count_placed-count.result.fits c.count_placed-count.result.misfits c.reserves-reserves.result c.min-asked.result
    c.requires.plan c.requires.prefix known c.requires.standing c.count_placed-count.ensures.fits c.count_placed-count.ensures.misfits
    (λ lt. c.reserves-reserves.ensures.some lt
    ∙ ap (λ (n : ℕ). sum_by (λ image. if get_or c.args.beginning.now.standing image false then 0 else (count_at c.args.table.now (length c.args.beginning.now.prefix.now) image).most) (range_with_len 0 n)) c.len.ensures.value)
    c.reserves-reserves.ensures.none
    (c.min-asked.ensures ∙ ap (λ (b : MarkBounds). min b.least (length c.as_slice.result.now)) c.bounds_for-bounds.ensures
    ∙ ap (λ (n : ℕ). min (bounds_of c.args.beginning.now.plan.now.tests c.args.group.now).least n) (ap length c.as_slice.ensures))

pub returns-else-count-bounds : goal.returns-else-count-bounds
returns-else-count-bounds c = λ origin known.
    let most = ap (λ (b : MarkBounds). b.misfits) c.bounds_for-bounds.ensures in
    let low : nat_le c.count_placed-count.result.misfits (bounds_of c.args.beginning.now.plan.now.tests c.args.group.now).misfits ≡ false = grind (arith, nat_tests, most, c.if-count-bounds.false) in
    ap (λ (b : MarkBounds). nat_le c.count_placed-count.result.misfits b.misfits) c.bounds_for-bounds.ensures ∙ low ∙ ap (λ (b : Bool). b && nat_le c.min-asked.result (c.count_placed-count.result.fits + c.reserves-reserves.result)) (sym low)
    ∙ holds_from c.args.beginning.now.plan.now c.args.beginning.now.head.now c.args.beginning.now.prefix.now c.args.group.now origin c.args.table.now c.args.beginning.now.standing
    c.count_placed-count.result.fits c.count_placed-count.result.misfits c.reserves-reserves.result c.min-asked.result
    c.requires.plan c.requires.prefix known c.requires.standing c.count_placed-count.ensures.fits c.count_placed-count.ensures.misfits
    (λ lt. c.reserves-reserves.ensures.some lt
    ∙ ap (λ (n : ℕ). sum_by (λ image. if get_or c.args.beginning.now.standing image false then 0 else (count_at c.args.table.now (length c.args.beginning.now.prefix.now) image).most) (range_with_len 0 n)) c.len.ensures.value)
    c.reserves-reserves.ensures.none
    (c.min-asked.ensures ∙ ap (λ (b : MarkBounds). min b.least (length c.as_slice.result.now)) c.bounds_for-bounds.ensures
    ∙ ap (λ (n : ℕ). min (bounds_of c.args.beginning.now.plan.now.tests c.args.group.now).least n) (ap length c.as_slice.ensures))
