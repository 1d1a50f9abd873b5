use Rattle.std.proofs.Common.{◌≡◌, ◌*◌, ◌^◌, min, ℕ, length, sym, ap, ◌∙◌, arith}
use Rattle.set_product.proofs.BlockRanks.{few_heads, heads_count}
use Rattle.set_product.proofs.block.Block.count_heads.Goals as goal

pub returns-clause-count : goal.returns-clause-count
returns-clause-count c =
    let rotations = length c.args.self.now.rotations.items in
    let syndromes = length c.args.self.now.syndromes.items in
    let ends = length c.args.plan.now.bounds.chunks.items * length c.args.plan.now.bounds.offsets.items in
    let first : c.len.result ≡ min (length c.args.self.now.rotations.items) (2 ^ 64) = omega (arith, c.len.ensures.value, c.len.ensures.fits) in
    let second : c.len-2.result ≡ min (length c.args.self.now.syndromes.items) (2 ^ 64) = omega (arith, c.len-2.ensures.value, c.len-2.ensures.fits) in
    c.count_pairs.ensures (rotations * syndromes) ends (c.count_pairs-starts.ensures rotations syndromes first second) c.count_ends.ensures.count
    ∙ ap (λ (k : ℕ). min k (2 ^ 64)) (sym (heads_count c.args.plan.now c.args.self.now c.requires.plan c.requires.block))

pub returns-clause-few : goal.returns-clause-few
returns-clause-few c =
    let count = heads_count c.args.plan.now c.args.self.now c.requires.plan c.requires.block in
    let few = few_heads (length c.args.self.now.rotations.items) (length c.args.self.now.syndromes.items) (length c.args.plan.now.bounds.chunks.items * length c.args.plan.now.bounds.offsets.items)
    (omega (arith, c.len.ensures.value, c.len.ensures.fits)) (omega (arith, c.len-2.ensures.value, c.len-2.ensures.fits)) c.count_ends.ensures.few in
    omega arith
