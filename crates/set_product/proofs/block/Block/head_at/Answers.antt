use Rattle.std.proofs.Common.{◌*◌, ℕ, length, slice_get, refl, sym, ap, ◌∙◌, arith}
use Rattle.set_product.specs.Pairs.{pairs}
use Rattle.set_product.proofs.BlockRanks.{head_found, heads_count}
use Rattle.set_product.proofs.Pairs.{row_within}
use Rattle.set_product.proofs.block.Block.head_at.Goals as goal

pub start_at-syndrome-requires : goal.start_at-syndrome-requires
start_at-syndrome-requires c =
    let ends = length c.args.plan.now.bounds.chunks.items * length c.args.plan.now.bounds.offsets.items in
    let count = heads_count c.args.plan.now c.args.self.now c.requires.plan c.requires.block in
    let below = c.requires.rank in
    let first = c.split_rank-first.ensures.first ends c.count_ends.ensures.count in
    let within = row_within c.args.rank (length c.args.self.now.rotations.items * length c.args.self.now.syndromes.items) ends (omega arith) in
    omega arith

pub returns-clause-head : goal.returns-clause-head
returns-clause-head c =
    let ends = length c.args.plan.now.bounds.chunks.items * length c.args.plan.now.bounds.offsets.items in
    let first = c.split_rank-first.ensures.first ends c.count_ends.ensures.count in
    let last = c.split_rank-first.ensures.second ends c.count_ends.ensures.count in
    head_found c.args.plan.now c.args.self.now c.args.rank ends c.start_at-syndrome.result c.end_at-chunk.result c.requires.plan c.requires.block refl
    (ap (λ (k : ℕ). slice_get (pairs c.args.self.now.rotations.items c.args.self.now.syndromes.items) k) (sym first) ∙ c.start_at-syndrome.ensures)
    (ap (λ (k : ℕ). slice_get (pairs c.args.plan.now.bounds.chunks.items c.args.plan.now.bounds.offsets.items) k) (sym last) ∙ c.end_at-chunk.ensures)
