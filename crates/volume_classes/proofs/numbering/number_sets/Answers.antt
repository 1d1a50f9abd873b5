use Rattle.std.proofs.Common.{◌+◌, ℕ, List, length, sym, subst, arith, refl}
use Rattle.std.proofs.lemmas.Option.{slice_get_read}
use Rattle.volume_classes.specs.Classes.{AreClasses}
use Rattle.volume_classes.specs.declared.tables.Table.{Table}
use Rattle.volume_classes.proofs.ClassSteps.{AreNumbered, all_numbered, have_sets, numbered_more}
use Rattle.volume_classes.proofs.numbering.number_sets.Goals as goal

pub class_of-requires-clause-firsts : goal.class_of-requires-clause-firsts
class_of-requires-clause-firsts c = have_sets c.loop-set.invariant

pub loop-set-preserved : goal.loop-set-preserved
loop-set-preserved c =
    let set = slice_get_read c.args.sets.now (length c.args.sets.now) c.loop-set.set-index c.set-item.result refl (omega arith) c.set-item.is in
    subst (λ (numbers : List ℕ). AreNumbered c.args.images c.args.end c.args.sets.now (c.loop-set.set-index + 1) numbers c.class_of.new.firsts) (sym c.in_ok-push.ensures.ok)
    (numbered_more c.loop-set.invariant c.set-item.result c.in_ok-table.table c.in_ok-number.number c.class_of.new.firsts set c.in_ok-table.ensures c.in_ok-number.ensures)

pub returns : goal.returns
returns c =
    subst (λ (tables : List Table). AreClasses c.args.images c.args.end c.args.sets.now c.loop-set.numbers (length tables)) (sym c.as_slice.ensures)
    (all_numbered c.args.images c.args.end c.args.sets.now c.loop-set.set-index c.loop-set.numbers c.loop-set.firsts (omega arith) c.loop-set.invariant)
