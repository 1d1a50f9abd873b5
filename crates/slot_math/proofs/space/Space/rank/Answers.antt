use Rattle.std.proofs.Common.{◌≡◌, ◌≤◌, ◌+◌, ◌^◌, None, take, get_or, ap, sym, ◌∙◌, arith, true}
use Rattle.raid_params.specs.declared.limits.TheConstants.{MOST}
use Rattle.slot_math.specs.Space.{rank_in}
use Rattle.slot_math.specs.Ways.{is_listed, before}
use Rattle.slot_math.proofs.Blocks.{rank_found, next_front, rank_fits}
use Rattle.slot_math.proofs.space.Space.rank.Goals as goal

pub overflow_add-rank : goal.overflow_add-rank
overflow_add-rank c =
    let listed : is_listed c.args.self.now c.as_slice-list.result.now ≡ true = sym c.holds.ensures ∙ c.if-not-holds.false in
    let fits : c.loop-at.rank + before c.args.self.now (take c.loop-at.at c.as_slice-list.result.now) (get_or c.as_slice-list.result.now c.loop-at.at None) ≤ (MOST + 1) ^ MOST
    = rank_fits c.args.self.now c.as_slice-list.result.now c.loop-at.at c.loop-at.rank None c.loop-at.invariant listed c.loop-at-test.true c.requires.images c.requires.members in
    let e = c.before-rank.ensures in omega arith

pub loop-at-preserved : goal.loop-at-preserved
loop-at-preserved c =
    let listed : is_listed c.args.self.now c.as_slice-list.result.now ≡ true = sym c.holds.ensures ∙ c.if-not-holds.false in
    rw c.before-rank.ensures (next_front c.args.self.now c.as_slice-list.result.now c.loop-at.at c.loop-at.rank None c.loop-at.invariant listed c.loop-at-test.true)

pub returns : goal.returns
returns c =
    let listed : is_listed c.args.self.now c.as_slice-list.result.now ≡ true = sym c.holds.ensures ∙ c.if-not-holds.false in
    rank_found c.args.self.now c.as_slice-list.result.now c.loop-at.at c.loop-at.rank c.loop-at.invariant listed (omega arith)
    ∙ ap (rank_in c.args.self.now) c.as_slice-list.ensures.value
