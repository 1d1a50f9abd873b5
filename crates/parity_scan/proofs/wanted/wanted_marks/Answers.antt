use Rattle.std.proofs.Common.{refl, rules}
use Rattle.parity_scan.proofs.Marked.{marks_more, marks_none}
use Rattle.parity_scan.proofs.wanted.wanted_marks.Goals as goal

pub loop-k-init : goal.loop-k-init
loop-k-init c = record { long = refl; marked = marks_none c.args.scanned.now.scope.now c.args.scanned.now.sets.now c.args.tallies.now c.args.run }

pub loop-k-preserved : goal.loop-k-preserved
loop-k-preserved c = record {
  long = search rules;
  marked = marks_more c.args.scanned.now.scope.now c.args.scanned.now.sets.now c.args.tallies.now c.args.run c.loop-k.k _ _ c.loop-k.marks c.mark_set.new.marks c.loop-k-test.true c.requires.long c.loop-k.invariant.marked c.mark_set.ensures.kept c.mark_set.ensures.marked c.mark_set.ensures.only;
}
