use Rattle.std.proofs.Common.{List, subst, sym, ap, ◌∙◌}
use Rattle.relation_prefix.specs.declared.sampled.SampledRow.{SampledRow}
use Rattle.relation_prefix.specs.Sampled.{may_begin, Asked}
use Rattle.relation_prefix.specs.Ties.{AreThere}
use Rattle.relation_prefix.proofs.Keeping.{there_each}
use Rattle.relation_prefix.proofs.head_relations.HeadRelations.may_begin.Goals as goal

pub may_begin-requires-clause-slots : goal.may_begin-requires-clause-slots
may_begin-requires-clause-slots c =
    there_each c.self.inside.rows.now.images c.args.slots.now c.as_slice.result.now c.as_slice.ensures.images (subst (λ (a : Asked). AreThere a.rows.images c.args.slots.now) (sym c.self.view_is) c.requires.images)

pub returns : goal.returns
returns c =
    c.may_begin.ensures ∙ ap (λ (l : List SampledRow). may_begin l c.self.inside.test c.args.slots.now) c.as_slice.ensures.rows ∙ ap (λ (a : Asked). may_begin a.rows.list a.test c.args.slots.now) c.self.view_is
