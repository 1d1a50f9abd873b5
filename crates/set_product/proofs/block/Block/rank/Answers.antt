use Rattle.std.proofs.Common.{◌≡◌, ◌*◌, ℕ, None, Option, Some, length, sym, ap, ap₂, ◌∙◌, arith}
use Rattle.std.specs.List.{position}
use Rattle.slot_math.specs.Space.{lists_of, same_slots}
use Rattle.plan_sets.specs.Sets.{is_same_head}
use Rattle.set_product.specs.Blocks.{heads_with}
use Rattle.set_product.specs.Pairs.{joined}
use Rattle.set_product.proofs.BlockRanks.{found_fits, joined_none, set_place}
use Rattle.set_product.proofs.block.Block.rank.Goals as goal

pub returns-in_err-slots : goal.returns-in_err-slots
returns-in_err-slots c =
    let heads = position (is_same_head c.args.geo.now.head) (heads_with c.args.plan.now.bounds c.args.self.now.level c.args.self.now.members) in
    let lists = length (lists_of c.args.self.now.space) in
    let none : position (same_slots c.args.geo.now.slots.items) (lists_of c.args.self.now.space) ≡ None = sym c.rank.ensures ∙ c.in_err-slots.was in
    c.from_residual.ensures ∙ sym (set_place c.args.plan.now c.args.self.now c.args.geo.now c.requires.plan c.requires.block ∙ ap (joined lists heads) none ∙ joined_none lists heads)

pub returns-in_err-head : goal.returns-in_err-head
returns-in_err-head c =
    let slots = position (same_slots c.args.geo.now.slots.items) (lists_of c.args.self.now.space) in
    let lists = length (lists_of c.args.self.now.space) in
    let none : position (is_same_head c.args.geo.now.head) (heads_with c.args.plan.now.bounds c.args.self.now.level c.args.self.now.members) ≡ None = sym c.head_rank.ensures ∙ c.in_err-head.was in
    c.from_residual-in_err-head.ensures ∙ sym (set_place c.args.plan.now c.args.self.now c.args.geo.now c.requires.plan c.requires.block ∙ ap (λ (o : Option ℕ). joined lists o slots) none)

pub overflow_cast-slots : goal.overflow_cast-slots
overflow_cast-slots c =
    let fit = found_fits c.args.plan.now c.args.self.now c.args.geo.now c.in_ok-head.head c.in_ok-slots.slots c.requires.plan c.requires.block
    (sym c.head_rank.ensures ∙ c.in_ok-head.was) (sym c.rank.ensures ∙ c.in_ok-slots.was) c.requires.few in
    let short = fit.0 in
    let within = fit.1 in
    omega arith

pub join_rank-requires : goal.join_rank-requires
join_rank-requires c =
    let fit = found_fits c.args.plan.now c.args.self.now c.args.geo.now c.in_ok-head.head c.in_ok-slots.slots c.requires.plan c.requires.block
    (sym c.head_rank.ensures ∙ c.in_ok-head.was) (sym c.rank.ensures ∙ c.in_ok-slots.was) c.requires.few in
    let short = fit.0 in
    let below = fit.2 in
    let is = c.count_lists.ensures in
    let lists : c.count_lists.result ≡ length (lists_of c.args.self.now.space) = omega arith in
    let same = ap (λ (n : ℕ). c.in_ok-head.head * n) lists in
    omega arith

pub returns : goal.returns
returns c =
    let fit = found_fits c.args.plan.now c.args.self.now c.args.geo.now c.in_ok-head.head c.in_ok-slots.slots c.requires.plan c.requires.block
    (sym c.head_rank.ensures ∙ c.in_ok-head.was) (sym c.rank.ensures ∙ c.in_ok-slots.was) c.requires.few in
    let short = fit.0 in
    let is = c.count_lists.ensures in
    let lists : c.count_lists.result ≡ length (lists_of c.args.self.now.space) = omega arith in
    c.join_rank.ensures
    ∙ ap (λ (n : ℕ). joined n (Some c.in_ok-head.head) (Some c.in_ok-slots.slots)) lists
    ∙ ap₂ (joined (length (lists_of c.args.self.now.space))) (sym c.in_ok-head.was ∙ c.head_rank.ensures) (sym c.in_ok-slots.was ∙ c.rank.ensures)
    ∙ sym (set_place c.args.plan.now c.args.self.now c.args.geo.now c.requires.plan c.requires.block)
