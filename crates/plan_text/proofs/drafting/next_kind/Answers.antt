use Rattle.std.proofs.Common.{◌≡◌, ◌∙◌, sym, subst, arith, inl, inr}
use Rattle.std.specs.List.{slice_index_or}
use Rattle.std.proofs.lemmas.Bool.{cases_lt, false≢true}
use Rattle.std.proofs.lemmas.List.{get_or_default}
use Rattle.plan_text.specs.Drafts.{MayBegin}
use Rattle.mark_kinds.specs.declared.table.GroupKind.TheVariants.{Gpt}
use Rattle.plan_text.proofs.drafting.next_kind.Goals as goal

pub loop-kind-preserved : goal.loop-kind-preserved
loop-kind-preserved c = λ k below any may. elim (cases_lt k c.loop-kind.kind-index) [
  | inl before ↦ c.loop-kind.invariant k before any may
  | inr after ↦
      (let same : k ≡ c.loop-kind.kind-index = omega (arith, below, after) in
      let there = subst (λ n. MayBegin c.args.draft.now (slice_index_or c.args.kinds.now n any)) same may in
      let here = subst (MayBegin c.args.draft.now) (get_or_default c.args.kinds.now c.loop-kind.kind-index any Gpt (omega arith)) there in
      absurd (false≢true (sym c.if-may_begin.false ∙ c.may_begin.ensures.1 here)))
]
