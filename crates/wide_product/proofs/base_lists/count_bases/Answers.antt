use Rattle.std.proofs.Common.{ℕ, ◌≡◌, ◌+◌, ◌^◌, min, length, suc, ap, sym, ◌∙◌, arith}
use Rattle.wide_product.specs.Bases.{base_lists}
use Rattle.wide_product.proofs.Lists.{count_more, count_none}
use Rattle.wide_product.proofs.base_lists.count_bases.Goals as goal

pub loop-init : goal.loop-init
loop-init c = let one = count_none c.args.offsets.now in omega arith

pub loop-preserved : goal.loop-preserved
loop-preserved c =
    let few = c.requires in
    c.count_pairs-count.ensures (length c.args.offsets.now) (length (base_lists c.args.offsets.now c.loop.counter)) (omega arith) c.loop.invariant
    ∙ ap (λ (n : ℕ). min n (2 ^ 64)) (sym (count_more c.args.offsets.now c.loop.counter) ∙ ap (λ (n : ℕ). length (base_lists c.args.offsets.now n)) (let e : suc c.loop.counter ≡ c.loop.counter + 1 = omega arith in e))
