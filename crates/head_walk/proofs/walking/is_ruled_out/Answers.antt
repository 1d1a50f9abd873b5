use Rattle.std.proofs.Common.{◌-◌, ◌∙◌, not, sym, ap}
use Rattle.candidate_enum.specs.Survivors.{question, survivors}
use Rattle.head_walk.specs.Walk.{Asked, is_admitted}
use Rattle.head_walk.proofs.Sifting.{none_given, none_left_over}
use Rattle.head_walk.proofs.walking.is_ruled_out.Goals as goal

pub returns : goal.returns
returns c = λ out told.
    none_given told c.args.plan.now c.args.sets.now c.in_ok-family.family c.args.from c.args.stop c.requires.plan c.requires.head c.requires.part (sym c.needs_table.ensures ∙ c.if-needs_table.false)
    c.in_ok-family.ensures.asked c.in_ok-family.ensures.rows
    (sym (c.start-walk.ensures.leaves ∙ ap (λ (asked : Asked). survivors (question asked.space (is_admitted c.in_ok-family.family) (c.args.from - c.args.sets.now.first) (c.args.stop - c.args.sets.now.first))) c.in_ok-family.ensures.asked)
    ∙ none_left_over c.start-walk.result c.next.new.self c.next.result c.next.ensures.steps (c.is_none.ensures ∙ ap not out))
