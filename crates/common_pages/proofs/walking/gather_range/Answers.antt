use Rattle.std.proofs.Common.{rules, refl, ℕ, List, All, nat_lt, filter, sym, ap, ◌∙◌, subst, arith}
use Rattle.outside.specs.Attached.{told_all}
use Rattle.outside.specs.Seen.{Image}
use Rattle.set_product.specs.Heads.{end_of}
use Rattle.set_product.specs.declared.heads.HeadSets.{HeadSets}
use Rattle.head_walk.specs.Walk.{CanPage, left_reads, IsKept, IsPart, StandsAt}
use Rattle.common_pages.proofs.Ahead.{Ahead, ahead_from}
use Rattle.head_walk.proofs.OneHead.{fills_on, gathers_all, gathers_full, reads_all, reads_full, scans_ended, scans_full, scans_told, to_spare, to_stop}
use Rattle.common_pages.proofs.HeadByHead.{next_head, reaches_end, reaches_first, reaches_on, reaches_stop}
use Rattle.head_walk.proofs.Kept.{none_left}
use Rattle.common_pages.proofs.walking.gather_range.Goals as goal

pub loop-sets-init : goal.loop-sets-init
loop-sets-init g c = record {
  goes = (tt, tt);
  quiet = refl;
  far =
      (let P : List HeadSets → Type 0 = λ heads. Ahead c.args.paging.now.plan.now c.args.from heads in
      reaches_first (told_all (g.I.Images.seen c.args.images.now).attached) c.args.paging.now.plan.now c.args.paging.now.size c.args.from c.args.stop (left_reads c.args.paging.now.plan.now c.args.kept.now) (g.I.Images.seen c.args.images.now) c.args.page.now c.skip_to.new.self c.requires.range c.requires.stands
      (subst P (sym (c.skip_to.ensures ∙ ap (filter (λ sets. nat_lt c.args.from (end_of sets))) c.of-heads.ensures)) (ahead_from c.args.paging.now.plan.now c.args.from c.requires.can.is_plan)));
  kept = c.requires.kept;
}

pub returns-then-at-stop-clause-gathers : goal.returns-then-at-stop-clause-gathers
returns-then-at-stop-clause-gathers g c = reaches_stop (told_all (g.I.Images.seen c.args.images.now).attached) c.args.paging.now.plan.now c.args.paging.now.size c.args.from c.args.stop c.loop-sets.at (left_reads c.args.paging.now.plan.now c.args.kept.now) (left_reads c.args.paging.now.plan.now c.loop-sets.kept) (g.I.Images.seen c.args.images.now) (g.I.Images.seen c.loop-sets.images) c.args.page.now c.loop-sets.page c.loop-sets.heads c.loop-sets.invariant.far c.if-at-stop.true

pub returns-then-at-stop-clause-reads : goal.returns-then-at-stop-clause-reads
returns-then-at-stop-clause-reads g c = c.loop-sets.invariant.far.scans

pub returns-then-at-stop-clause-kept : goal.returns-then-at-stop-clause-kept
returns-then-at-stop-clause-kept g c = c.loop-sets.invariant.kept

pub overflow_add-sets : goal.overflow_add-sets
overflow_add-sets g c =
    let next = next_head (told_all (g.I.Images.seen c.args.images.now).attached) c.args.paging.now.plan.now c.args.paging.now.size c.args.from c.args.stop c.loop-sets.at (left_reads c.args.paging.now.plan.now c.args.kept.now) (left_reads c.args.paging.now.plan.now c.loop-sets.kept) (g.I.Images.seen c.args.images.now) (g.I.Images.seen c.loop-sets.images) c.args.page.now c.loop-sets.page c.loop-sets.heads c.next.new.self c.in-Some.sets
    c.loop-sets.invariant.far c.in-Some.ensures.steps c.if-at-stop.false in
    let within = next.head.within in
    let few = c.requires.can.few in
    omega arith

pub gather_head-requires-clause-head : goal.gather_head-requires-clause-head
gather_head-requires-clause-head g c κs within =
    let next = next_head (told_all (g.I.Images.seen c.args.images.now).attached) c.args.paging.now.plan.now c.args.paging.now.size c.args.from c.args.stop c.loop-sets.at (left_reads c.args.paging.now.plan.now c.args.kept.now) (left_reads c.args.paging.now.plan.now c.loop-sets.kept) (g.I.Images.seen c.args.images.now) (g.I.Images.seen c.loop-sets.images) c.args.page.now c.loop-sets.page c.loop-sets.heads c.next.new.self c.in-Some.sets
    c.loop-sets.invariant.far c.in-Some.ensures.steps c.if-at-stop.false in
    next.head

pub gather_head-requires-clause-part : goal.gather_head-requires-clause-part
gather_head-requires-clause-part g c κs within =
    let next = next_head (told_all (g.I.Images.seen c.args.images.now).attached) c.args.paging.now.plan.now c.args.paging.now.size c.args.from c.args.stop c.loop-sets.at (left_reads c.args.paging.now.plan.now c.args.kept.now) (left_reads c.args.paging.now.plan.now c.loop-sets.kept) (g.I.Images.seen c.args.images.now) (g.I.Images.seen c.loop-sets.images) c.args.page.now c.loop-sets.page c.loop-sets.heads c.next.new.self c.in-Some.sets
    c.loop-sets.invariant.far c.in-Some.ensures.steps c.if-at-stop.false in
    let P : ℕ → Type 0 = λ n. IsPart c.in-Some.sets c.loop-sets.at n in
    subst P (sym c.min-end.ensures) next.part

pub gather_head-requires-clause-stands : goal.gather_head-requires-clause-stands
gather_head-requires-clause-stands g c κs within =
    let P : List Image → Type 0 = λ attached. StandsAt (told_all attached) c.args.paging.now.plan.now c.args.paging.now.size c.loop-sets.at c.loop-sets.page in
    subst P (sym c.loop-sets.invariant.far.scans.spends.reads.attached) c.loop-sets.invariant.far.goes.stands

pub gather_head-requires-clause-kept : goal.gather_head-requires-clause-kept
gather_head-requires-clause-kept g c κs within =
    let P : List Image → Type 0 = λ attached. All (IsKept (told_all attached) c.args.paging.now.plan.now) c.loop-sets.kept in
    subst P (sym c.loop-sets.invariant.far.scans.spends.reads.attached) c.loop-sets.invariant.kept

pub returns-in_err-next-clause-reads : goal.returns-in_err-next-clause-reads
returns-in_err-next-clause-reads g c =
    let next = next_head (told_all (g.I.Images.seen c.args.images.now).attached) c.args.paging.now.plan.now c.args.paging.now.size c.args.from c.args.stop c.loop-sets.at (left_reads c.args.paging.now.plan.now c.args.kept.now) (left_reads c.args.paging.now.plan.now c.loop-sets.kept) (g.I.Images.seen c.args.images.now) (g.I.Images.seen c.loop-sets.images) c.args.page.now c.loop-sets.page c.loop-sets.heads c.next.new.self c.in-Some.sets
    c.loop-sets.invariant.far c.in-Some.ensures.steps c.if-at-stop.false in
    let end = c.min-end.ensures in
    let ordered = next.part.ordered in
    rw (to_stop c.args.stop c.gather_head.new.page c.from_residual.result c.from_residual.ensures.0, to_spare c.from_residual.result c.from_residual.ensures.0, none_left c.args.paging.now.plan.now c.gather_head.new.kept c.from_residual.result c.from_residual.ensures.0)
    (scans_ended (told_all (g.I.Images.seen c.args.images.now).attached) c.args.paging.now.plan.now c.args.paging.now.size c.loop-sets.at c.min-end.result c.args.stop (left_reads c.args.paging.now.plan.now c.args.kept.now) (left_reads c.args.paging.now.plan.now c.loop-sets.kept) 0 (g.I.Images.seen c.args.images.now) (g.I.Images.seen c.loop-sets.images) (g.I.Images.seen c.gather_head.new.images) c.args.page.now c.loop-sets.page c.loop-sets.invariant.far.goes (omega arith) (omega arith) c.loop-sets.invariant.far.scans
    (scans_told _ _ c.args.paging.now.plan.now c.loop-sets.page.tested c.min-end.result 4095 (left_reads c.args.paging.now.plan.now c.loop-sets.kept) 0 (g.I.Images.seen c.loop-sets.images) (g.I.Images.seen c.gather_head.new.images) c.loop-sets.invariant.far.scans.spends.reads.attached c.in_err-next.ensures.reads))

pub returns-in_err-next-clause-kept : goal.returns-in_err-next-clause-kept
returns-in_err-next-clause-kept g c =
    let P : List Image → Type 0 = λ attached. All (IsKept (told_all attached) c.args.paging.now.plan.now) c.gather_head.new.kept in
    subst P c.loop-sets.invariant.far.scans.spends.reads.attached c.gather_head.ensures.kept

pub returns-in-Some-2-clause-gathers : goal.returns-in-Some-2-clause-gathers
returns-in-Some-2-clause-gathers g c =
    let end = c.min-end.ensures in
    fills_on (told_all (g.I.Images.seen c.args.images.now).attached) c.args.paging.now.plan.now c.args.paging.now.size c.loop-sets.at c.min-end.result c.args.stop c.in-Some-2.next c.args.page.now c.loop-sets.page c.gather_head.new.page c.loop-sets.invariant.far.goes (omega arith)
    (gathers_full _ _ c.args.paging.now.plan.now c.args.paging.now.size c.min-end.result c.in-Some-2.next c.loop-sets.page c.gather_head.new.page c.in_ok-next.field-0 c.loop-sets.invariant.far.scans.spends.reads.attached c.in-Some-2.is c.in_ok-next.ensures.gathers)

pub returns-in-Some-2-clause-reads : goal.returns-in-Some-2-clause-reads
returns-in-Some-2-clause-reads g c =
    scans_full (told_all (g.I.Images.seen c.args.images.now).attached) c.args.paging.now.plan.now c.args.paging.now.size c.loop-sets.at c.min-end.result c.in-Some-2.next (left_reads c.args.paging.now.plan.now c.args.kept.now) (left_reads c.args.paging.now.plan.now c.loop-sets.kept) (left_reads c.args.paging.now.plan.now c.gather_head.new.kept) (g.I.Images.seen c.args.images.now) (g.I.Images.seen c.loop-sets.images) (g.I.Images.seen c.gather_head.new.images) c.args.page.now c.loop-sets.page c.gather_head.new.page c.loop-sets.invariant.far.goes
    (gathers_full _ _ c.args.paging.now.plan.now c.args.paging.now.size c.min-end.result c.in-Some-2.next c.loop-sets.page c.gather_head.new.page c.in_ok-next.field-0 c.loop-sets.invariant.far.scans.spends.reads.attached c.in-Some-2.is c.in_ok-next.ensures.gathers)
    c.loop-sets.invariant.far.scans
    (reads_full _ _ c.args.paging.now.plan.now c.loop-sets.page.tested c.min-end.result c.in-Some-2.next (left_reads c.args.paging.now.plan.now c.loop-sets.kept) (left_reads c.args.paging.now.plan.now c.gather_head.new.kept) c.gather_head.new.page c.in_ok-next.field-0 (g.I.Images.seen c.loop-sets.images) (g.I.Images.seen c.gather_head.new.images) c.loop-sets.invariant.far.scans.spends.reads.attached c.in-Some-2.is c.in_ok-next.ensures.reads)

pub returns-in-Some-2-clause-kept : goal.returns-in-Some-2-clause-kept
returns-in-Some-2-clause-kept g c =
    let P : List Image → Type 0 = λ attached. All (IsKept (told_all attached) c.args.paging.now.plan.now) c.gather_head.new.kept in
    subst P c.loop-sets.invariant.far.scans.spends.reads.attached c.gather_head.ensures.kept

pub loop-sets-preserved : goal.loop-sets-preserved
loop-sets-preserved g c =
    let next = next_head (told_all (g.I.Images.seen c.args.images.now).attached) c.args.paging.now.plan.now c.args.paging.now.size c.args.from c.args.stop c.loop-sets.at (left_reads c.args.paging.now.plan.now c.args.kept.now) (left_reads c.args.paging.now.plan.now c.loop-sets.kept) (g.I.Images.seen c.args.images.now) (g.I.Images.seen c.loop-sets.images) c.args.page.now c.loop-sets.page c.loop-sets.heads c.next.new.self c.in-Some.sets
    c.loop-sets.invariant.far c.in-Some.ensures.steps c.if-at-stop.false in
    record {
      goes = (tt, tt);
      quiet = search rules;
      far = reaches_on (told_all (g.I.Images.seen c.args.images.now).attached) c.args.paging.now.plan.now c.args.paging.now.size c.args.from c.args.stop c.loop-sets.at c.min-end.result (left_reads c.args.paging.now.plan.now c.args.kept.now) (left_reads c.args.paging.now.plan.now c.loop-sets.kept) (left_reads c.args.paging.now.plan.now c.gather_head.new.kept) (g.I.Images.seen c.args.images.now) (g.I.Images.seen c.loop-sets.images) (g.I.Images.seen c.gather_head.new.images) c.args.page.now c.loop-sets.page c.gather_head.new.page c.loop-sets.heads c.next.new.self c.in-Some.sets
          c.loop-sets.invariant.far next c.min-end.ensures
          (gathers_all _ _ c.args.paging.now.plan.now c.args.paging.now.size c.min-end.result c.loop-sets.page c.gather_head.new.page c.in_ok-next.field-0 c.loop-sets.invariant.far.scans.spends.reads.attached c.in_default-2.is c.in_ok-next.ensures.gathers)
          (reads_all _ _ c.args.paging.now.plan.now c.loop-sets.page.tested c.min-end.result (left_reads c.args.paging.now.plan.now c.loop-sets.kept) (left_reads c.args.paging.now.plan.now c.gather_head.new.kept) c.gather_head.new.page c.in_ok-next.field-0 (g.I.Images.seen c.loop-sets.images) (g.I.Images.seen c.gather_head.new.images) c.loop-sets.invariant.far.scans.spends.reads.attached c.in_default-2.is c.in_ok-next.ensures.reads);
      kept = (let P : List Image → Type 0 = λ attached. All (IsKept (told_all attached) c.args.paging.now.plan.now) c.gather_head.new.kept in subst P c.loop-sets.invariant.far.scans.spends.reads.attached c.gather_head.ensures.kept);
    }

pub returns-clause-gathers : goal.returns-clause-gathers
returns-clause-gathers g c =
    reaches_stop (told_all (g.I.Images.seen c.args.images.now).attached) c.args.paging.now.plan.now c.args.paging.now.size c.args.from c.args.stop c.loop-sets.at (left_reads c.args.paging.now.plan.now c.args.kept.now) (left_reads c.args.paging.now.plan.now c.loop-sets.kept) (g.I.Images.seen c.args.images.now) (g.I.Images.seen c.loop-sets.images) c.args.page.now c.loop-sets.page c.loop-sets.heads c.loop-sets.invariant.far
    (reaches_end (told_all (g.I.Images.seen c.args.images.now).attached) c.args.paging.now.plan.now c.args.paging.now.size c.args.from c.args.stop c.loop-sets.at (left_reads c.args.paging.now.plan.now c.args.kept.now) (left_reads c.args.paging.now.plan.now c.loop-sets.kept) (g.I.Images.seen c.args.images.now) (g.I.Images.seen c.loop-sets.images) c.args.page.now c.loop-sets.page c.loop-sets.heads c.requires.stop c.loop-sets.invariant.far c.in_default.ensures.steps.0)

pub returns-clause-reads : goal.returns-clause-reads
returns-clause-reads g c = c.loop-sets.invariant.far.scans

pub returns-clause-kept : goal.returns-clause-kept
returns-clause-kept g c = c.loop-sets.invariant.kept

pub gather_head-requires-clause-can : goal.gather_head-requires-clause-can
gather_head-requires-clause-can g c κs within =
    let P : List Image → Type 0 = λ attached. CanPage c.args.paging.now.plan.now c.args.paging.now.size attached in
    subst P (sym c.loop-sets.invariant.far.scans.spends.reads.attached) c.requires.can
