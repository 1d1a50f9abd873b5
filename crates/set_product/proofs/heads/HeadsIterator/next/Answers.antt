use Rattle.std.proofs.Common.{◌+◌, ◌∷◌, length, Option, sym, ap, ◌∙◌, arith}
use Rattle.set_product.specs.Heads.{count_in, numbered}
use Rattle.set_product.specs.Left.{left_heads}
use Rattle.set_product.specs.declared.opened.Opened.{Opened}
use Rattle.set_product.specs.declared.heads.HeadSets.{HeadSets}
use Rattle.set_product.proofs.HeadByHead.{count_next, opened_is, next_is}
use Rattle.set_product.proofs.heads.HeadsIterator.next.Goals as goal

pub overflow_add-self : goal.overflow_add-self
overflow_add-self c = let all = count_next c.self.inside.plan.now c.self.inside.first c.self.inside.opened c.in-Some.block c.self.invariant.0 c.in-Some.ensures.value c.self.invariant.2 c.self.invariant.3 in let few = c.self.invariant.1 in omega arith

pub invariant_of-self-in-Some : goal.invariant_of-self-in-Some
invariant_of-self-in-Some c = (
  c.self.invariant.0,
  c.self.invariant.1,
  c.pass_heads-self-inside.ensures.opened,
  (let all = count_next c.self.inside.plan.now c.self.inside.first c.self.inside.opened c.in-Some.block c.self.invariant.0 c.in-Some.ensures.value c.self.invariant.2 c.self.invariant.3 in let left = ap (count_in c.self.inside.plan.now) c.pass_heads-self-inside.ensures.left in omega arith),
)

pub returns-in-None-clause-steps : goal.returns-in-None-clause-steps
unfolding numbered
returns-in-None-clause-steps c = (
  sym c.self.view_is ∙ ap (λ (o : Option Opened). numbered c.self.inside.plan.now c.self.inside.first (left_heads c.self.inside.plan.now o)) (sym c.in-None.ensures.value),
  ap (λ (o : Option Opened). numbered c.self.inside.plan.now c.self.inside.first (left_heads c.self.inside.plan.now o)) c.take.ensures.after,
)

pub returns-in-Some-clause-steps : goal.returns-in-Some-clause-steps
returns-in-Some-clause-steps c =
    sym c.self.view_is
    ∙ ap (λ (o : Option Opened). numbered c.self.inside.plan.now c.self.inside.first (left_heads c.self.inside.plan.now o)) (sym c.in-Some.ensures.value)
    ∙ next_is c.self.inside.plan.now c.self.inside.first c.in-Some.block c.head_at.result (opened_is c.self.inside.plan.now c.self.inside.opened c.in-Some.block c.in-Some.ensures.value c.self.invariant.2) c.head_at.ensures.head c.head_at.ensures.level c.head_at.ensures.members
    ∙ ap (λ hs. (let sets : HeadSets = record { head = c.head_at.result; space = c.in-Some.block.block.space; first = c.self.inside.first; count = c.in-Some.block.lists } in sets) ∷ numbered c.self.inside.plan.now (c.self.inside.first + c.in-Some.block.lists) hs) (sym c.pass_heads-self-inside.ensures.left)

pub returns-in-Some-clause-goes : goal.returns-in-Some-clause-goes
returns-in-Some-clause-goes c =
    let shorter = ap length (returns-in-Some-clause-steps c) in
    record { on = λ finite. (tt, tt, (omega arith)); keeps = tt; rests = λ finite. tt }
