use Rattle.std.proofs.Common.{rules, refl, arith}
use Rattle.outside.specs.Attached.{told_all}
use Rattle.near_search.specs.Walk.{FailsNear, passes_told}
use Rattle.near_search.proofs.Leafwise.{ranks}
use Rattle.near_search.proofs.Walked.{at_below, fails_head, full_of, reads_front, sought}
use Rattle.near_search.proofs.walk.NearWalkPageWalk.finish.Goals as goal

pub seek-requires-clause-few : goal.seek-requires-clause-few
seek-requires-clause-few g c = let total = c.requires.stands.can.total in let small = c.requires.stands.can.small in omega arith

pub gather_head-requires-clause-head : goal.gather_head-requires-clause-head
gather_head-requires-clause-head g c =
    (sought c.args.self.now (g.I.Images.seen c.args.images.now) c.seek.result.0 c.seek.result.1 c.requires.stands.can c.seek.ensures.sets c.seek.ensures.low c.seek.ensures.high).head

pub gather_head-requires-clause-part : goal.gather_head-requires-clause-part
gather_head-requires-clause-part g c =
    let is = sought c.args.self.now (g.I.Images.seen c.args.images.now) c.seek.result.0 c.seek.result.1 c.requires.stands.can c.seek.ensures.sets c.seek.ensures.low c.seek.ensures.high in
    let below = at_below c.args.self.now (g.I.Images.seen c.args.images.now) c.args.page.now c.args.stop c.seek.result.0 c.seek.result.1 c.requires.stands is c.seek.ensures.stays in
    let tested = c.requires.stands.tested in
    record { begins = is.low; ordered = tested; ends = omega arith }

pub returns-in_err-full-clause-fails : goal.returns-in_err-full-clause-fails
returns-in_err-full-clause-fails g c =
    let is = sought c.args.self.now (g.I.Images.seen c.args.images.now) c.seek.result.0 c.seek.result.1 c.requires.stands.can c.seek.ensures.sets c.seek.ensures.low c.seek.ensures.high in
    let tested = c.requires.stands.tested in
    let ne = c.if-self-stop.false in
    let here : FailsNear c.args.self.now.many c.args.self.now.ask.now c.args.self.now.tested c.args.stop (g.I.Images.seen c.args.images.now) (g.I.Images.seen c.gather_head.new.images) c.in_err-full.field-0.0
    = fails_head c.args.self.now c.seek.result.0 c.args.stop c.seek.result.1 (g.I.Images.seen c.args.images.now) (g.I.Images.seen c.gather_head.new.images) c.in_err-full.field-0.0 is (omega arith) c.gather_head.ensures.reads c.in_err-full.ensures.ends in
    search rules

pub returns-in-Some-clause-reads : goal.returns-in-Some-clause-reads
returns-in-Some-clause-reads g c =
    let is = sought c.args.self.now (g.I.Images.seen c.args.images.now) c.seek.result.0 c.seek.result.1 c.requires.stands.can c.seek.ensures.sets c.seek.ensures.low c.seek.ensures.high in
    let fills = full_of (passes_told (told_all (g.I.Images.seen c.args.images.now).attached) c.args.self.now.many c.args.self.now.ask.now) c.args.self.now.size c.args.self.now.tested c.args.stop (ranks c.args.page.now) (ranks c.gather_head.new.page) c.in_ok-full.full c.in-Some.next c.in-Some.is c.in_ok-full.ensures.gathers in (
      record { ask = refl; many = refl },
      reads_front c.args.self.now c.seek.result.0 c.in-Some.next c.seek.result.1 (g.I.Images.seen c.args.images.now) (g.I.Images.seen c.gather_head.new.images) is fills.forward c.gather_head.ensures.reads c.in_ok-full.ensures.quiet,
    )

pub returns-in-None-clause-reads : goal.returns-in-None-clause-reads
returns-in-None-clause-reads g c =
    let is = sought c.args.self.now (g.I.Images.seen c.args.images.now) c.seek.result.0 c.seek.result.1 c.requires.stands.can c.seek.ensures.sets c.seek.ensures.low c.seek.ensures.high in
    let tested = c.requires.stands.tested in
    let ne = c.if-self-stop.false in (
      record { ask = refl; many = refl },
      reads_front c.args.self.now c.seek.result.0 c.args.stop c.seek.result.1 (g.I.Images.seen c.args.images.now) (g.I.Images.seen c.gather_head.new.images) is (omega arith) c.gather_head.ensures.reads c.in_ok-full.ensures.quiet,
    )

pub gather_head-requires-clause-some : goal.gather_head-requires-clause-some
gather_head-requires-clause-some g c = let low = c.seek.ensures.low in let high = c.seek.ensures.high in omega arith
