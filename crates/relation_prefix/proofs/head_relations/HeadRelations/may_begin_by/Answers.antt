use Rattle.std.proofs.Common.{ℕ, ◌≡◌, ◌+◌, ◌-◌, List, drop, take, subst, sym, ap, ◌∙◌, arith}
use Rattle.std.proofs.lemmas.List.Elements.{All-drop, All-take}
use Rattle.relation_prefix.specs.declared.sampled.SampledRow.{SampledRow}
use Rattle.relation_prefix.specs.declared.weights.RowWeights.{RowWeights}
use Rattle.relation_prefix.specs.Sampled.{may_begin, Asked, CanTest}
use Rattle.relation_prefix.specs.Ties.{AreThere}
use Rattle.relation_prefix.proofs.Keeping.{can_part, there_each}
use Rattle.relation_prefix.proofs.head_relations.HeadRelations.may_begin_by.Goals as goal

pub may_begin-requires-clause-can : goal.may_begin-requires-clause-can
may_begin-requires-clause-can c =
    let n = c.args.first + c.args.count - c.args.first in
    let P : List SampledRow → List RowWeights → Type 0 = λ rows weights. CanTest c.self.inside.test.head (take n (drop c.args.first rows)) (take n (drop c.args.first weights)) in
    subst (P c.as_slice.result.now) (sym c.deref.ensures.value)
    (subst (λ (rows : List SampledRow). P rows c.self.inside.weights.items) (sym c.as_slice.ensures.rows)
    (can_part c.self.inside.test.head c.self.inside.rows.now.list c.self.inside.weights.items c.args.first n c.self.invariant.0))

pub may_begin-requires-clause-slots : goal.may_begin-requires-clause-slots
may_begin-requires-clause-slots c =
    All-take (λ s. AreThere s.ties.images c.args.slots.now) (c.args.first + c.args.count - c.args.first) (drop c.args.first c.as_slice.result.now)
    (All-drop (λ s. AreThere s.ties.images c.args.slots.now) c.args.first c.as_slice.result.now
    (there_each c.self.inside.rows.now.images c.args.slots.now c.as_slice.result.now c.as_slice.ensures.images (subst (λ (a : Asked). AreThere a.rows.images c.args.slots.now) (sym c.self.view_is) c.requires.images)))

pub returns : goal.returns
returns c =
    let count : c.args.first + c.args.count - c.args.first ≡ c.args.count = omega arith in
    c.may_begin.ensures
    ∙ ap (λ (l : List SampledRow). may_begin (take (c.args.first + c.args.count - c.args.first) (drop c.args.first l)) c.self.inside.test c.args.slots.now) c.as_slice.ensures.rows
    ∙ ap (λ (n : ℕ). may_begin (take n (drop c.args.first c.self.inside.rows.now.list)) c.self.inside.test c.args.slots.now) count
    ∙ ap (λ (a : Asked). may_begin (take c.args.count (drop c.args.first a.rows.list)) a.test c.args.slots.now) c.self.view_is
