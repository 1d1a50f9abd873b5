use Rattle.std.proofs.Common.{◌-◌, ◌∙◌, not, sym, ap}
use Rattle.candidate_enum.specs.Survivors.{question, survivors}
use Rattle.head_walk.specs.Walk.{Asked}
use Rattle.mark_tables.specs.Marks.{groups_may_hold}
use Rattle.page_engine.proofs.RuledOut.{is_asked, none_left, none_pass}
use Rattle.page_engine.proofs.marked.is_ruled_out.Goals as goal

pub new-requires : goal.new-requires
new-requires c = is_asked c.args.plan.now c.args.part.now c.args.padded.now c.requires.part c.requires.padded

pub returns-in-Ok-clause-out : goal.returns-in-Ok-clause-out
returns-in-Ok-clause-out c = λ out.
    none_pass c.args.plan.now c.args.part.now c.args.padded.now c.args.from c.args.stop c.requires.plan c.requires.part c.requires.padded c.requires.from c.requires.range c.requires.stop
    (sym (c.start-walk.ensures.leaves ∙ ap (λ (asked : Asked). survivors (question asked.space (groups_may_hold asked.plan asked.head) (c.args.from - c.args.part.now.first) (c.args.stop - c.args.part.now.first))) c.in-Ok.ensures)
    ∙ none_left c.start-walk.result c.next.new.self c.next.result c.next.ensures.steps (c.is_none.ensures ∙ ap not out))
