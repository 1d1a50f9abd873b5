use Rattle.std.proofs.Common.{rules, ℕ, true, false, refl, ◌∙◌, subst, arith, inr}
use Rattle.page_loop.proofs.Appended.{added_none, fault_on, full_after, full_on, next_ok, up_on, whole_ok}
use Rattle.page_loop.specs.Parts.{Ends, Fits}
use Rattle.page_loop.specs.declared.page_walk.Part.{Part}
use Rattle.page_loop.proofs.paging.make_whole.Goals as goal

pub loop-at-init : goal.loop-at-init
loop-at-init g c = record {
  low = omega arith;
  high = c.requires.range;
  same = record { total = refl; size = refl; passes = refl };
  tested = omega arith;
  added = added_none (g.W.PageWalk.passes c.args.walk.now (g.I.Images.seen c.args.images.now)) (g.W.PageWalk.tested c.args.walk.now c.args.page.now) (g.W.PageWalk.ranks_of c.args.walk.now c.args.page.now);
  reads = g.met.W.PageWalk.reads_none c.args.walk.now (g.I.Images.seen c.args.images.now) (g.W.PageWalk.tested c.args.walk.now c.args.page.now);
  holds = c.requires.holds;
  stands = c.requires.stands;
}

pub gather_part-requires-clause-within : goal.gather_part-requires-clause-within
gather_part-requires-clause-within g c =
    let within = c.requires.within in
    let same = c.loop-at.invariant.same.total in
    omega arith

pub gather_part-requires-clause-stands : goal.gather_part-requires-clause-stands
gather_part-requires-clause-stands g c = c.loop-at.invariant.stands

pub gather_part-requires-clause-holds : goal.gather_part-requires-clause-holds
gather_part-requires-clause-holds g c = c.loop-at.invariant.holds

pub returns-in_err-end-clause-fails : goal.returns-in_err-end-clause-fails
returns-in_err-end-clause-fails g c =
    let tested = g.met.W.PageWalk.tested_before c.loop-at.walk (g.I.Images.seen c.loop-at.images) c.loop-at.page c.loop-at.at c.loop-at.invariant.stands in
    let high = c.loop-at.invariant.high in
    let here = g.met.W.PageWalk.fails_on c.args.walk.now c.loop-at.walk c.gather_part.new.self (g.I.Images.seen c.args.images.now) (g.I.Images.seen c.loop-at.images) (g.I.Images.seen c.gather_part.new.images) (g.W.PageWalk.tested c.args.walk.now c.args.page.now) (g.W.PageWalk.tested c.loop-at.walk c.loop-at.page) c.args.stop c.in_err-end.field-0.0 c.loop-at.invariant.tested (omega arith) c.loop-at.invariant.reads c.in_err-end.ensures.fails in
    search rules

pub loop-at-smaller : goal.loop-at-smaller
loop-at-smaller g c = c.gather_part.ensures.fewer

pub loop-at-preserved : goal.loop-at-preserved
loop-at-preserved g c =
    let up = up_on (g.W.PageWalk.passes c.args.walk.now (g.I.Images.seen c.args.images.now)) (g.W.PageWalk.passes c.loop-at.walk (g.I.Images.seen c.loop-at.images)) (g.W.PageWalk.size_of c.loop-at.walk) (g.W.PageWalk.tested c.args.walk.now c.args.page.now) (g.W.PageWalk.tested c.loop-at.walk c.loop-at.page) (g.W.PageWalk.tested c.gather_part.new.self c.gather_part.new.page) c.loop-at.at c.args.stop c.in-UpTo.end (g.W.PageWalk.ranks_of c.args.walk.now c.args.page.now) (g.W.PageWalk.ranks_of c.loop-at.walk c.loop-at.page) (g.W.PageWalk.ranks_of c.gather_part.new.self c.gather_part.new.page) c.in_ok-end.field-0 c.loop-at.invariant.same.passes c.in-UpTo.is c.loop-at.invariant.tested c.loop-at.invariant.added c.in_ok-end.ensures.gains in
    let low = c.loop-at.invariant.low in
    let on = c.gather_part.ensures.same in
    let S : Part → Type 0 = λ part. Fits (g.W.PageWalk.stands c.gather_part.new.self (g.I.Images.seen c.gather_part.new.images) c.gather_part.new.page) part in
    let R : Part → Type 0 = λ part. Ends (g.W.PageWalk.tested c.gather_part.new.self c.gather_part.new.page) (g.W.PageWalk.reads c.loop-at.walk (g.I.Images.seen c.loop-at.images) (g.W.PageWalk.tested c.loop-at.walk c.loop-at.page) c.gather_part.new.self (g.I.Images.seen c.gather_part.new.images)) part in
    let end = up.low in
    record {
      low = omega arith;
      high = up.high;
      same = record { total = on.total ∙ c.loop-at.invariant.same.total; size = on.size ∙ c.loop-at.invariant.same.size; passes = on.passes ∙ c.loop-at.invariant.same.passes };
      tested = up.tested;
      added = up.added;
      reads = g.met.W.PageWalk.reads_join c.args.walk.now c.loop-at.walk c.gather_part.new.self (g.I.Images.seen c.args.images.now) (g.I.Images.seen c.loop-at.images) (g.I.Images.seen c.gather_part.new.images) (g.W.PageWalk.tested c.args.walk.now c.args.page.now) (g.W.PageWalk.tested c.loop-at.walk c.loop-at.page) (g.W.PageWalk.tested c.gather_part.new.self c.gather_part.new.page) false c.loop-at.invariant.tested up.forward c.loop-at.invariant.reads (subst R c.in-UpTo.is c.in_ok-end.ensures.reads);
      holds = c.in_ok-end.ensures.holds;
      stands = subst S c.in-UpTo.is c.in_ok-end.ensures.stands;
    }

pub returns-in-Full-clause-whole : goal.returns-in-Full-clause-whole
returns-in-Full-clause-whole g c =
    inr (full_on (g.W.PageWalk.passes c.args.walk.now (g.I.Images.seen c.args.images.now)) (g.W.PageWalk.passes c.loop-at.walk (g.I.Images.seen c.loop-at.images)) (g.W.PageWalk.size_of c.args.walk.now) (g.W.PageWalk.size_of c.loop-at.walk) (g.W.PageWalk.tested c.args.walk.now c.args.page.now) (g.W.PageWalk.tested c.loop-at.walk c.loop-at.page) (g.W.PageWalk.tested c.gather_part.new.self c.gather_part.new.page) c.loop-at.at c.args.stop c.in-Full.next (g.W.PageWalk.ranks_of c.args.walk.now c.args.page.now) (g.W.PageWalk.ranks_of c.loop-at.walk c.loop-at.page) (g.W.PageWalk.ranks_of c.gather_part.new.self c.gather_part.new.page) c.in_ok-end.field-0 c.loop-at.invariant.same.passes c.loop-at.invariant.same.size c.in-Full.is c.loop-at.invariant.tested c.loop-at.invariant.added c.in_ok-end.ensures.gains)

pub returns-in-Full-clause-reads : goal.returns-in-Full-clause-reads
returns-in-Full-clause-reads g c =
    let R : Part → Type 0 = λ part. Ends (g.W.PageWalk.tested c.gather_part.new.self c.gather_part.new.page) (g.W.PageWalk.reads c.loop-at.walk (g.I.Images.seen c.loop-at.images) (g.W.PageWalk.tested c.loop-at.walk c.loop-at.page) c.gather_part.new.self (g.I.Images.seen c.gather_part.new.images)) part in
    g.met.W.PageWalk.reads_join c.args.walk.now c.loop-at.walk c.gather_part.new.self (g.I.Images.seen c.args.images.now) (g.I.Images.seen c.loop-at.images) (g.I.Images.seen c.gather_part.new.images) (g.W.PageWalk.tested c.args.walk.now c.args.page.now) (g.W.PageWalk.tested c.loop-at.walk c.loop-at.page) c.in-Full.next true c.loop-at.invariant.tested
    (full_after (g.W.PageWalk.passes c.loop-at.walk (g.I.Images.seen c.loop-at.images)) (g.W.PageWalk.size_of c.loop-at.walk) (g.W.PageWalk.tested c.loop-at.walk c.loop-at.page) (g.W.PageWalk.tested c.gather_part.new.self c.gather_part.new.page) c.loop-at.at c.args.stop c.in-Full.next (g.W.PageWalk.ranks_of c.loop-at.walk c.loop-at.page) (g.W.PageWalk.ranks_of c.gather_part.new.self c.gather_part.new.page) c.in_ok-end.field-0 c.in-Full.is c.in_ok-end.ensures.gains)
    c.loop-at.invariant.reads (subst R c.in-Full.is c.in_ok-end.ensures.reads)

pub finish-requires-clause-stands : goal.finish-requires-clause-stands
finish-requires-clause-stands g c =
    let end = c.loop-at-test.false in
    let high = c.loop-at.invariant.high in
    let P : ℕ → Type 0 = λ n. g.W.PageWalk.stands c.loop-at.walk (g.I.Images.seen c.loop-at.images) c.loop-at.page n in
    subst P (omega arith) c.loop-at.invariant.stands

pub finish-requires-clause-holds : goal.finish-requires-clause-holds
finish-requires-clause-holds g c = c.loop-at.invariant.holds

pub returns-clause-whole : goal.returns-clause-whole
returns-clause-whole g c =
    let tested = g.met.W.PageWalk.tested_before c.loop-at.walk (g.I.Images.seen c.loop-at.images) c.loop-at.page c.loop-at.at c.loop-at.invariant.stands in
    let high = c.loop-at.invariant.high in
    whole_ok (g.W.PageWalk.passes c.args.walk.now (g.I.Images.seen c.args.images.now)) (g.W.PageWalk.passes c.loop-at.walk (g.I.Images.seen c.loop-at.images)) (g.W.PageWalk.size_of c.args.walk.now) (g.W.PageWalk.size_of c.loop-at.walk) (g.W.PageWalk.tested c.args.walk.now c.args.page.now) (g.W.PageWalk.tested c.loop-at.walk c.loop-at.page) c.args.stop (g.W.PageWalk.ranks_of c.args.walk.now c.args.page.now) (g.W.PageWalk.ranks_of c.loop-at.walk c.loop-at.page) (g.W.PageWalk.ranks_of c.finish.new.self c.finish.new.page) c.finish.result c.loop-at.invariant.same.passes c.loop-at.invariant.same.size c.loop-at.invariant.tested (omega arith) c.loop-at.invariant.added c.finish.ensures.whole

pub returns-clause-reads : goal.returns-clause-reads
returns-clause-reads g c =
    let tested = g.met.W.PageWalk.tested_before c.loop-at.walk (g.I.Images.seen c.loop-at.images) c.loop-at.page c.loop-at.at c.loop-at.invariant.stands in
    let high = c.loop-at.invariant.high in
    next_ok (g.W.PageWalk.passes c.loop-at.walk (g.I.Images.seen c.loop-at.images)) (g.W.PageWalk.size_of c.loop-at.walk) (g.W.PageWalk.tested c.loop-at.walk c.loop-at.page) c.args.stop (g.W.PageWalk.ranks_of c.loop-at.walk c.loop-at.page) (g.W.PageWalk.ranks_of c.finish.new.self c.finish.new.page) c.finish.result
    (λ next. g.W.PageWalk.reads c.loop-at.walk (g.I.Images.seen c.loop-at.images) (g.W.PageWalk.tested c.loop-at.walk c.loop-at.page) c.finish.new.self (g.I.Images.seen c.finish.new.images) next true) (λ next. g.W.PageWalk.reads c.args.walk.now (g.I.Images.seen c.args.images.now) (g.W.PageWalk.tested c.args.walk.now c.args.page.now) c.finish.new.self (g.I.Images.seen c.finish.new.images) next true) (omega arith)
    (λ next up read. g.met.W.PageWalk.reads_join c.args.walk.now c.loop-at.walk c.finish.new.self (g.I.Images.seen c.args.images.now) (g.I.Images.seen c.loop-at.images) (g.I.Images.seen c.finish.new.images) (g.W.PageWalk.tested c.args.walk.now c.args.page.now) (g.W.PageWalk.tested c.loop-at.walk c.loop-at.page) next true c.loop-at.invariant.tested up c.loop-at.invariant.reads read)
    c.finish.ensures.whole c.finish.ensures.reads

pub returns-clause-fails : goal.returns-clause-fails
returns-clause-fails g c =
    let tested = g.met.W.PageWalk.tested_before c.loop-at.walk (g.I.Images.seen c.loop-at.images) c.loop-at.page c.loop-at.at c.loop-at.invariant.stands in
    let high = c.loop-at.invariant.high in
    fault_on c.finish.result (g.W.PageWalk.fails c.loop-at.walk (g.I.Images.seen c.loop-at.images) (g.W.PageWalk.tested c.loop-at.walk c.loop-at.page) c.finish.new.self (g.I.Images.seen c.finish.new.images) c.args.stop) (g.W.PageWalk.fails c.args.walk.now (g.I.Images.seen c.args.images.now) (g.W.PageWalk.tested c.args.walk.now c.args.page.now) c.finish.new.self (g.I.Images.seen c.finish.new.images) c.args.stop)
    (λ fault fails. g.met.W.PageWalk.fails_on c.args.walk.now c.loop-at.walk c.finish.new.self (g.I.Images.seen c.args.images.now) (g.I.Images.seen c.loop-at.images) (g.I.Images.seen c.finish.new.images) (g.W.PageWalk.tested c.args.walk.now c.args.page.now) (g.W.PageWalk.tested c.loop-at.walk c.loop-at.page) c.args.stop fault c.loop-at.invariant.tested (omega arith) c.loop-at.invariant.reads fails)
    c.finish.ensures.fails
