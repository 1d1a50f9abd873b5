use Rattle.std.proofs.Common.{List, All, sym, ◌∙◌, subst}
use Rattle.outside.specs.Attached.{told_all}
use Rattle.outside.specs.Seen.{Image}
use Rattle.head_walk.specs.Walk.{CanPage, IsKept, left_reads, spared_by, tested_by}
use Rattle.head_walk.proofs.OneHead.{goes_no_rows, goes_nowhere, goes_still}
use Rattle.head_walk.proofs.Waits.{stands_on}
use Rattle.head_walk.proofs.Kept.{none_left}
use Rattle.head_walk.proofs.Scanned.{scans_fail, scans_tables}
use Rattle.head_walk.proofs.walking.gather_head.Goals.{then-from-stop-via-then-from-stop, then-from-stop-via-else-from-stop+then-rows-eq0}
use Rattle.head_walk.proofs.walking.gather_head.Goals as goal

pub returns-then-from-stop-clause-gathers : goal.returns-then-from-stop-clause-gathers
returns-then-from-stop-clause-gathers g c =
    elim c.then-from-stop.branch [
      | then-from-stop-via-then-from-stop w ↦ goes_nowhere (told_all (g.I.Images.seen c.args.images.now).attached) c.args.paging.now.plan.now c.args.paging.now.size c.args.from c.args.stop c.args.page.now w.if-from-stop.true c.requires.stands
      | then-from-stop-via-else-from-stop+then-rows-eq0 w ↦ goes_no_rows (told_all (g.I.Images.seen c.args.images.now).attached) c.args.paging.now.plan.now c.args.sets.now c.args.paging.now.size c.args.from c.args.stop c.args.page.now
          c.requires.head c.requires.part (sym w.rows.ensures ∙ w.if-rows-eq0.true) c.requires.stands
    ]

pub returns-then-branch-clause-gathers : goal.returns-then-branch-clause-gathers
returns-then-branch-clause-gathers g c =
    goes_still (told_all (g.I.Images.seen c.args.images.now).attached) c.args.paging.now.plan.now c.args.paging.now.size c.args.stop c.args.page.now
    (stands_on (told_all (g.I.Images.seen c.args.images.now).attached) c.args.paging.now.plan.now c.args.paging.now.size c.args.from c.args.stop c.args.page.now c.requires.stands c.requires.part.ordered
    (c.in_ok-is_ruled_out.ensures c.if-branch.true (told_all (g.I.Images.seen c.args.images.now).attached)))

pub returns-in_err-keep_needed-clause-reads : goal.returns-in_err-keep_needed-clause-reads
returns-in_err-keep_needed-clause-reads g c =
    scans_tables (told_all (g.I.Images.seen c.args.images.now).attached) c.args.paging.now.plan.now c.args.page.now.tested (tested_by c.args.stop c.args.page.now c.from_residual-in_err-keep_needed.result) (spared_by c.from_residual-in_err-keep_needed.result)
    (left_reads c.args.paging.now.plan.now c.args.kept.now) _ _ _ (rw (none_left c.args.paging.now.plan.now c.keep_needed.new.kept c.from_residual-in_err-keep_needed.result c.from_residual-in_err-keep_needed.ensures.0) c.in_err-keep_needed.ensures.reads)

pub returns-in_err-family-clause-reads : goal.returns-in_err-family-clause-reads
returns-in_err-family-clause-reads g c =
    rw (none_left c.args.paging.now.plan.now c.keep_needed.new.kept c.from_residual-in_err-family.result c.from_residual-in_err-family.ensures.0)
    (scans_fail (told_all (g.I.Images.seen c.args.images.now).attached) c.args.paging.now.plan.now c.args.page.now.tested (tested_by c.args.stop c.args.page.now c.from_residual-in_err-family.result) (spared_by c.from_residual-in_err-family.result)
    (left_reads c.args.paging.now.plan.now c.args.kept.now) (left_reads c.args.paging.now.plan.now c.keep_needed.new.kept) (g.I.Images.seen c.args.images.now) (g.I.Images.seen c.keep_needed.new.images)
    (scans_tables (told_all (g.I.Images.seen c.args.images.now).attached) c.args.paging.now.plan.now c.args.page.now.tested (tested_by c.args.stop c.args.page.now c.from_residual-in_err-family.result) (spared_by c.from_residual-in_err-family.result)
    (left_reads c.args.paging.now.plan.now c.args.kept.now) (left_reads c.args.paging.now.plan.now c.keep_needed.new.kept) (g.I.Images.seen c.args.images.now) (g.I.Images.seen c.keep_needed.new.images) c.in_ok-keep_needed.ensures.reads))

pub gather_admitted-requires-clause-admits : goal.gather_admitted-requires-clause-admits
gather_admitted-requires-clause-admits g c κs within =
    let Q : List Image → Type 0 = λ attached. All (IsKept (told_all attached) c.args.paging.now.plan.now) c.keep_needed.new.kept in
    c.in_ok-family.ensures.admits (told_all (g.I.Images.seen c.keep_needed.new.images).attached) (subst Q (sym c.keep_needed.ensures.reads.reads.attached) c.keep_needed.ensures.kept)

pub gather_admitted-requires-clause-can : goal.gather_admitted-requires-clause-can
gather_admitted-requires-clause-can g c κs within =
    let P : List Image → Type 0 = λ attached. CanPage c.args.paging.now.plan.now c.args.paging.now.size attached in
    subst P (sym c.keep_needed.ensures.reads.reads.attached) c.requires.can
