use Rattle.std.proofs.Common.{rules, ℕ, ◌≡◌, ◌<◌, ◌≤◌, ◌⊎◌, ◌∙◌, inl, inr, length, sym, ap, arith, subst, IsErr}
use Rattle.outside.specs.Attached.{told_all}
use Rattle.outside.specs.Seen.{OnlyReads}
use Rattle.page_engine.proofs.Walked.{comes_full, comes_on}
use Rattle.page_engine.proofs.RangeReads.{reached_err, reads_further, reads_longer, stops_next}
use Rattle.page_engine.specs.Reads.{based_reads}
use Rattle.page_engine.proofs.part_walk.gather_parts.Goals.{then-next-end-via-then-next-end, then-next-end-via-else-next-end+then-as_slice-paging}
use Rattle.page_engine.proofs.part_walk.gather_parts.Goals as goal

-- a part that is gathered from a rank on ends after it
past : (at next end : ℕ) → (next ≡ end) ⊎ (at < next) → at < end → at ≤ next
past at next end (inl same) range = omega arith
past at next end (inr more) range = omega arith

pub returns-then-next-end-clause-whole : goal.returns-then-next-end-clause-whole
returns-then-next-end-clause-whole g c =
    let end = c.min-end.ensures in
    let full : (c.in_ok-next.next < c.min-end.result) ⊎ (length c.gather_part.new.lines ≡ c.args.paging.now.size) = elim c.then-next-end.branch [
      | then-next-end-via-then-next-end w ↦ inl w.if-next-end.true
      | then-next-end-via-else-next-end+then-as_slice-paging w ↦ inr (sym (ap length w.as_slice.ensures) ∙ w.if-as_slice-paging.true)
    ] in
    comes_full (told_all (g.I.Images.seen c.args.images.now).attached) (told_all (g.I.Images.seen c.loop-at.images).attached) c.args.paging.now.plan.now c.args.paging.now.size c.args.from c.args.stop c.loop-at.at c.min-end.result c.in_ok-next.next c.loop-at.lines c.gather_part.new.lines
    (ap told_all c.loop-at.invariant.reads.attached) c.loop-at.invariant.comes c.in_ok-next.ensures.gathers (omega arith) full

pub loop-at-preserved : goal.loop-at-preserved
loop-at-preserved g c =
    let end = c.min-end.ensures in
    let low = c.loop-at-test.true in
    let to = c.part_at-part.ensures.to in
    let within = c.in_ok-next.ensures.gathers.within in
    let ends : c.in_ok-next.next ≡ c.min-end.result = omega (arith, c.if-next-end.false, within) in
    record {
      comes = comes_on (told_all (g.I.Images.seen c.args.images.now).attached) (told_all (g.I.Images.seen c.loop-at.images).attached) c.args.paging.now.plan.now c.args.paging.now.size c.args.from c.args.stop c.loop-at.at c.min-end.result c.in_ok-next.next c.loop-at.lines c.gather_part.new.lines
          (ap told_all c.loop-at.invariant.reads.attached) c.loop-at.invariant.comes c.in_ok-next.ensures.gathers (omega arith) (omega arith) c.if-next-end.false (λ many. c.if-as_slice-paging.false (ap length c.as_slice.ensures ∙ many));
      stops = stops_next c.args.paging.now.plan.now c.part_at-part.result c.args.from c.args.stop c.loop-at.at c.min-end.result c.requires.plan c.requires.own c.part_at-part.ensures.part c.part_at-part.ensures.from to end;
      reads = (let P : ℕ → Type 0 = λ n. OnlyReads (g.I.Images.seen c.args.images.now) (g.I.Images.seen c.gather_part.new.images) (based_reads (told_all (g.I.Images.seen c.args.images.now).attached) c.args.paging.now.plan.now c.args.from n) in
          let far = c.loop-at.invariant.comes.low in
          subst P ends
          (reads_further (g.I.Images.seen c.args.images.now).attached (g.I.Images.seen c.loop-at.images).attached c.args.paging.now.plan.now c.args.from c.args.stop c.loop-at.at c.in_ok-next.next (g.I.Images.seen c.args.images.now) (g.I.Images.seen c.loop-at.images) (g.I.Images.seen c.gather_part.new.images) c.loop-at.invariant.reads.attached c.loop-at.invariant.stops c.loop-at.invariant.comes.low (omega arith) (omega arith) c.loop-at.invariant.reads c.in_ok-next.ensures.reads));
      quiet = c.in_ok-next.ensures.quiet ∙ c.loop-at.invariant.quiet;
    }

pub returns-then-next-end-clause-reads : goal.returns-then-next-end-clause-reads
returns-then-next-end-clause-reads g c =
    let end = c.min-end.ensures in
    let test = c.loop-at-test.true in
    let gathers = c.in_ok-next.ensures.gathers in
    let within = gathers.within in
    let to = c.part_at-part.ensures.to in
    let forward = past c.loop-at.at c.in_ok-next.next c.min-end.result gathers.ended (omega arith) in
    reads_further (g.I.Images.seen c.args.images.now).attached (g.I.Images.seen c.loop-at.images).attached c.args.paging.now.plan.now c.args.from c.args.stop c.loop-at.at c.in_ok-next.next (g.I.Images.seen c.args.images.now) (g.I.Images.seen c.loop-at.images) (g.I.Images.seen c.gather_part.new.images) c.loop-at.invariant.reads.attached c.loop-at.invariant.stops c.loop-at.invariant.comes.low (omega arith) (omega arith) c.loop-at.invariant.reads c.in_ok-next.ensures.reads

pub returns-in_err-next-clause-reads : goal.returns-in_err-next-clause-reads
returns-in_err-next-clause-reads g c =
    let end = c.min-end.ensures in
    let test = c.loop-at-test.true in
    let to = c.part_at-part.ensures.to in
    let low = c.loop-at.invariant.comes.low in
    let failed : IsErr c.from_residual.result = search rules in
    let P : ℕ → Type 0 = λ n. OnlyReads (g.I.Images.seen c.args.images.now) (g.I.Images.seen c.gather_part.new.images) (based_reads (told_all (g.I.Images.seen c.args.images.now).attached) c.args.paging.now.plan.now c.args.from n) in
    subst P (sym (reached_err c.args.stop c.from_residual.result failed))
    (reads_longer (told_all (g.I.Images.seen c.args.images.now).attached) c.args.paging.now.plan.now c.args.from c.args.stop c.min-end.result c.args.stop (g.I.Images.seen c.args.images.now) (g.I.Images.seen c.gather_part.new.images)
    (stops_next c.args.paging.now.plan.now c.part_at-part.result c.args.from c.args.stop c.loop-at.at c.min-end.result c.requires.plan c.requires.own c.part_at-part.ensures.part c.part_at-part.ensures.from to end)
    (omega arith) (omega arith) (omega arith)
    (reads_further (g.I.Images.seen c.args.images.now).attached (g.I.Images.seen c.loop-at.images).attached c.args.paging.now.plan.now c.args.from c.args.stop c.loop-at.at c.min-end.result (g.I.Images.seen c.args.images.now) (g.I.Images.seen c.loop-at.images) (g.I.Images.seen c.gather_part.new.images) c.loop-at.invariant.reads.attached c.loop-at.invariant.stops c.loop-at.invariant.comes.low (omega arith) (omega arith) c.loop-at.invariant.reads
    c.in_err-next.ensures.reads))

pub returns-clause-reads : goal.returns-clause-reads
returns-clause-reads g c =
    let high = c.loop-at.invariant.comes.high in
    let past = c.loop-at-test.false in
    let P : ℕ → Type 0 = λ n. OnlyReads (g.I.Images.seen c.args.images.now) (g.I.Images.seen c.loop-at.images) (based_reads (told_all (g.I.Images.seen c.args.images.now).attached) c.args.paging.now.plan.now c.args.from n) in
    subst P (let e : c.loop-at.at ≡ c.args.stop = omega arith in e) c.loop-at.invariant.reads
