use Rattle.std.proofs.Common.{ℕ, ◌≡◌, ◌-◌, get_or, length, ap, sym, ◌∙◌, arith}
use Rattle.std.proofs.Math.Nat.{zero-mul}
use Rattle.wide_product.specs.Bases.{base_lists}
use Rattle.wide_product.proofs.Lists.{no_bases, no_front, one_front, slot, whole_front}
use Rattle.wide_product.proofs.base_lists.bases_rank.Goals as goal

pub loop-base-init : goal.loop-base-init
loop-base-init c = record {
  place = no_bases c.args.offsets.now c.args.bases.now;
  few = let none = zero-mul (length (base_lists c.args.offsets.now (length c.args.bases.now - 0))) in let all = ap (λ (n : ℕ). length (base_lists c.args.offsets.now n)) (let e : length c.args.bases.now - 0 ≡ length c.args.bases.now = omega arith in e) in omega arith;
}

pub returns-in_err-place : goal.returns-in_err-place
returns-in_err-place c =
    c.from_residual.ensures
    ∙ sym (c.loop-base.invariant.place ∙ no_front c.args.offsets.now c.args.bases.now c.loop-base.rank c.loop-base.base-index (get_or c.args.bases.now c.loop-base.base-index 0) c.loop-base-test.true (slot c.args.bases.now c.loop-base.base-index c.loop-base-test.true) (sym (c.in_err-place.ensures)))

pub overflow_mul-rank : goal.overflow_mul-rank
overflow_mul-rank c =
    let step = one_front c.args.offsets.now c.args.bases.now c.loop-base.rank c.loop-base.base-index (get_or c.args.bases.now c.loop-base.base-index 0) c.in_ok-place.place c.loop-base-test.true (slot c.args.bases.now c.loop-base.base-index c.loop-base-test.true) (sym (c.in_ok-place.ensures)) c.loop-base.invariant.few c.requires.few in
    let fits = step.fits in
    omega arith

pub overflow_add-rank : goal.overflow_add-rank
overflow_add-rank c =
    let step = one_front c.args.offsets.now c.args.bases.now c.loop-base.rank c.loop-base.base-index (get_or c.args.bases.now c.loop-base.base-index 0) c.in_ok-place.place c.loop-base-test.true (slot c.args.bases.now c.loop-base.base-index c.loop-base-test.true) (sym (c.in_ok-place.ensures)) c.loop-base.invariant.few c.requires.few in
    let fits = step.fits in
    omega arith

pub loop-base-preserved : goal.loop-base-preserved
loop-base-preserved c =
    let step = one_front c.args.offsets.now c.args.bases.now c.loop-base.rank c.loop-base.base-index (get_or c.args.bases.now c.loop-base.base-index 0) c.in_ok-place.place c.loop-base-test.true (slot c.args.bases.now c.loop-base.base-index c.loop-base-test.true) (sym (c.in_ok-place.ensures)) c.loop-base.invariant.few c.requires.few in
    record { place = c.loop-base.invariant.place ∙ step.goes; few = step.few }

pub returns : goal.returns
returns c = sym (c.loop-base.invariant.place ∙ whole_front c.args.offsets.now c.args.bases.now c.loop-base.rank c.loop-base.base-index c.loop-base-test.false)
