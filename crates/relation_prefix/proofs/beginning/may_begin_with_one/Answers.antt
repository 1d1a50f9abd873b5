use Rattle.std.proofs.Common.{ℕ, Bool, ◌&&◌, Some, ap, sym, ◌∙◌, arith, below_more}
use Rattle.relation_prefix.specs.Sampled.{few_refuse, may_begin_with}
use Rattle.relation_prefix.proofs.Bytes.{any_at, any_none}
use Rattle.relation_prefix.proofs.beginning.may_begin_with_one.Goals as goal

pub returns-then-may_begin_with : goal.returns-then-may_begin_with
returns-then-may_begin_with c =
    sym (any_at (λ (slot : ℕ). may_begin_with c.args.rows.now c.args.test.now c.args.slots.now (Some slot)) 0 c.args.test.now.head.members c.loop-slot.slot (omega arith) (omega (arith, c.loop-slot-test.true))
    (sym c.may_begin_with.ensures ∙ c.if-may_begin_with.true))

pub loop-slot-preserved : goal.loop-slot-preserved
loop-slot-preserved c = below_more _ _ c.loop-slot.invariant (sym c.may_begin_with.ensures ∙ c.if-may_begin_with.false)

pub returns : goal.returns
returns c =
    sym (any_none (λ (slot : ℕ). may_begin_with c.args.rows.now c.args.test.now c.args.slots.now (Some slot)) 0 c.args.test.now.head.members
    (λ slot low high. c.loop-slot.invariant slot (omega (arith, c.loop-slot-test.false))))

pub returns-then-not-may_lose_one : goal.returns-then-not-may_lose_one
returns-then-not-may_lose_one c =
    sym (any_none (λ (slot : ℕ). may_begin_with c.args.rows.now c.args.test.now c.args.slots.now (Some slot)) 0 c.args.test.now.head.members
    (λ slot low high. ap (λ (b : Bool). b && few_refuse c.args.rows.now c.args.test.now c.args.slots.now (Some slot)) (c.may_lose_one.ensures c.if-not-may_lose_one.true slot (omega arith))))
