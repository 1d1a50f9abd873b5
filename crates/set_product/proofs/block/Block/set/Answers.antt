use Rattle.std.proofs.Common.{ℕ, length, slice_get, refl, sym, ap, ◌∙◌, arith}
use Rattle.slot_math.specs.Space.{lists_of}
use Rattle.set_product.specs.Blocks.{heads_with}
use Rattle.set_product.proofs.BlockRanks.{set_found, set_split}
use Rattle.set_product.proofs.Pairs.{column_within, row_within, second_some}
use Rattle.set_product.proofs.block.Block.set.Goals as goal

pub split_rank-head-requires : goal.split_rank-head-requires
split_rank-head-requires c =
    let lists = length (lists_of c.args.self.now.space) in
    let some = second_some c.args.rank (length (heads_with c.args.plan.now.bounds c.args.self.now.level c.args.self.now.members)) lists
    (set_split c.args.plan.now c.args.self.now c.args.rank lists c.requires.plan c.requires.block refl c.requires.rank) in
    let is = c.count_lists.ensures in
    omega arith

pub head_at-requires-clause-rank : goal.head_at-requires-clause-rank
head_at-requires-clause-rank c =
    let lists = length (lists_of c.args.self.now.space) in
    let first = c.split_rank-head.ensures.first lists c.count_lists.ensures in
    let within = row_within c.args.rank (length (heads_with c.args.plan.now.bounds c.args.self.now.level c.args.self.now.members)) lists
    (set_split c.args.plan.now c.args.self.now c.args.rank lists c.requires.plan c.requires.block refl c.requires.rank) in
    omega arith

pub unrank-requires-clause-rank : goal.unrank-requires-clause-rank
unrank-requires-clause-rank c =
    let lists = length (lists_of c.args.self.now.space) in
    let last = c.split_rank-head.ensures.second lists c.count_lists.ensures in
    let within = column_within c.args.rank (length (heads_with c.args.plan.now.bounds c.args.self.now.level c.args.self.now.members)) lists
    (set_split c.args.plan.now c.args.self.now c.args.rank lists c.requires.plan c.requires.block refl c.requires.rank) in
    let same = c.from.ensures in
    omega arith

pub returns : goal.returns
returns c =
    let lists = length (lists_of c.args.self.now.space) in
    let first = c.split_rank-head.ensures.first lists c.count_lists.ensures in
    let last = c.split_rank-head.ensures.second lists c.count_lists.ensures in
    set_found c.args.plan.now c.args.self.now c.args.rank lists c.head_at.result c.unrank.result.items c.requires.plan c.requires.block refl
    (ap (λ (k : ℕ). slice_get (heads_with c.args.plan.now.bounds c.args.self.now.level c.args.self.now.members) k) (sym first) ∙ c.head_at.ensures.head)
    (ap (λ (k : ℕ). slice_get (lists_of c.args.self.now.space) k) (sym (c.from.ensures ∙ last)) ∙ c.unrank.ensures)
