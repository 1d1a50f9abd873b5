use Rattle.std.proofs.Common.{sym, subst, IfSome}
use Rattle.relation_prefix.specs.Sampled.{Asked as AskedRows}
use Rattle.std.specs.declared.option.Option.{Option}
use Rattle.prune_filters.specs.Heads.{HeadTable}
use Rattle.prune_filters.specs.Tables.{IsMarkTable}
use Rattle.head_walk.specs.Relations.{AreRelationsOf}
use Rattle.head_walk.specs.Walk.{IsAsked}
use Rattle.head_walk.proofs.Relating.{relations_made, rows_kept}
use Rattle.head_walk.proofs.hopeful.Hopeful.new.Goals as goal

pub invariant_of-result : goal.invariant_of-result
invariant_of-result c =
    let P : HeadTable → Type 0 = λ of. IsAsked of.plan of.head c.args.sets.now.space × IsMarkTable of.plan of.head c.in_ok-marks.marks
    × IfSome c.in_ok-relations.relations (AreRelationsOf of.plan of.head) in
    let asked : IsAsked c.args.plan.now c.args.sets.now.head c.args.sets.now.space = record {
      is_plan = c.requires.plan;
      valid = c.requires.head.head;
      images = c.requires.head.images;
      members = c.requires.head.members;
      level = c.requires.head.among.level;
    } in
    let R : Option AskedRows → Type 0 = λ relations. IfSome relations (AreRelationsOf c.args.plan.now c.args.sets.now.head) in
    let relations : R c.in_ok-relations.relations = subst R (sym c.in_ok-relations.ensures) (relations_made (λ r. r.now) c.args.plan.now c.args.sets.now.head c.args.rows c.requires.row_images) in
    subst P (sym c.new.ensures) (asked, c.in_ok-marks.ensures, relations)

pub returns-clause-rows : goal.returns-clause-rows
returns-clause-rows c = rows_kept (λ r. r.now) c.args.plan.now c.args.sets.now.head c.args.rows c.in_ok-relations.relations c.in_ok-relations.ensures
