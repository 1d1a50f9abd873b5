use Rattle.std.proofs.Common.{rules, ◌+◌, refl, arith}
use Rattle.outside.specs.Attached.{told_all}
use Rattle.near_search.specs.Walk.{FailsNear, passes_told}
use Rattle.near_search.proofs.Leafwise.{ranks}
use Rattle.near_search.proofs.Walked.{at_below, fails_head, fills_to, full_of, reads_front, reads_part, short_of, sought, stands_cut, stands_on}
use Rattle.near_search.proofs.walk.NearWalkPageWalk.gather_part.Goals as goal

pub overflow_add-end : goal.overflow_add-end
overflow_add-end g c =
    let is = sought c.args.self.now (g.I.Images.seen c.args.images.now) c.seek-place.result.0 c.seek-place.result.1 c.requires.stands.can c.seek-place.ensures.sets c.seek-place.ensures.low c.seek-place.ensures.high in
    let within = is.within in
    let small = c.requires.stands.can.small in
    omega arith

pub returns-then-stop-end-clause-stands : goal.returns-then-stop-end-clause-stands
returns-then-stop-end-clause-stands g c =
    let is = sought c.args.self.now (g.I.Images.seen c.args.images.now) c.seek-place.result.0 c.seek-place.result.1 c.requires.stands.can c.seek-place.ensures.sets c.seek-place.ensures.low c.seek-place.ensures.high in
    stands_cut c.args.self.now _ (g.I.Images.seen c.args.images.now) c.args.page.now c.args.at c.args.stop c.seek-place.result.0 c.seek-place.result.1 c.requires.stands is c.requires.range c.requires.within c.if-stop-end.true refl

pub gather_head-requires-clause-head : goal.gather_head-requires-clause-head
gather_head-requires-clause-head g c =
    (sought c.args.self.now (g.I.Images.seen c.args.images.now) c.seek-place.result.0 c.seek-place.result.1 c.requires.stands.can c.seek-place.ensures.sets c.seek-place.ensures.low c.seek-place.ensures.high).head

pub returns-in_err-full-clause-fewer : goal.returns-in_err-full-clause-fewer
returns-in_err-full-clause-fewer g c =
    let is = sought c.args.self.now (g.I.Images.seen c.args.images.now) c.seek-place.result.0 c.seek-place.result.1 c.requires.stands.can c.seek-place.ensures.sets c.seek-place.ensures.low c.seek-place.ensures.high in
    let below = at_below c.args.self.now (g.I.Images.seen c.args.images.now) c.args.page.now c.args.at c.seek-place.result.0 c.seek-place.result.1 c.requires.stands is c.seek-place.ensures.stays in
    let here = c.requires.stands.stands in
    let within = is.within in
    omega arith

pub returns-in_err-full-clause-fails : goal.returns-in_err-full-clause-fails
returns-in_err-full-clause-fails g c =
    let is = sought c.args.self.now (g.I.Images.seen c.args.images.now) c.seek-place.result.0 c.seek-place.result.1 c.requires.stands.can c.seek-place.ensures.sets c.seek-place.ensures.low c.seek-place.ensures.high in
    let tested = c.requires.stands.tested in
    let range = c.requires.range in
    let here : FailsNear c.args.self.now.many c.args.self.now.ask.now c.args.self.now.tested c.args.stop (g.I.Images.seen c.args.images.now) (g.I.Images.seen c.gather_head.new.images) c.in_err-full.field-0.0
    = fails_head c.args.self.now c.seek-place.result.0 c.args.stop c.seek-place.result.1 (g.I.Images.seen c.args.images.now) (g.I.Images.seen c.gather_head.new.images) c.in_err-full.field-0.0 is (omega arith) c.gather_head.ensures.reads c.in_err-full.ensures.ends in
    search rules

pub returns-in-Some-clause-gains : goal.returns-in-Some-clause-gains
returns-in-Some-clause-gains g c =
    let fills = full_of (passes_told (told_all (g.I.Images.seen c.args.images.now).attached) c.args.self.now.many c.args.self.now.ask.now) c.args.self.now.size c.args.self.now.tested (c.seek-place.result.1.first + c.seek-place.result.1.count) (ranks c.args.page.now) (ranks c.gather_head.new.page) c.in_ok-full.full c.in-Some.next c.in-Some.is c.in_ok-full.ensures.gathers in
    fills_to _ c.args.self.now.size c.args.self.now.tested (c.seek-place.result.1.first + c.seek-place.result.1.count) c.args.stop c.in-Some.next (ranks c.args.page.now) (ranks c.gather_head.new.page) c.if-stop-end.false fills

pub returns-in-Some-clause-reads : goal.returns-in-Some-clause-reads
returns-in-Some-clause-reads g c =
    let is = sought c.args.self.now (g.I.Images.seen c.args.images.now) c.seek-place.result.0 c.seek-place.result.1 c.requires.stands.can c.seek-place.ensures.sets c.seek-place.ensures.low c.seek-place.ensures.high in
    let fills = full_of (passes_told (told_all (g.I.Images.seen c.args.images.now).attached) c.args.self.now.many c.args.self.now.ask.now) c.args.self.now.size c.args.self.now.tested (c.seek-place.result.1.first + c.seek-place.result.1.count) (ranks c.args.page.now) (ranks c.gather_head.new.page) c.in_ok-full.full c.in-Some.next c.in-Some.is c.in_ok-full.ensures.gathers in (
      record { ask = refl; many = refl },
      reads_front c.args.self.now c.seek-place.result.0 c.in-Some.next c.seek-place.result.1 (g.I.Images.seen c.args.images.now) (g.I.Images.seen c.gather_head.new.images) is fills.forward c.gather_head.ensures.reads c.in_ok-full.ensures.quiet,
    )

pub returns-in-Some-clause-fewer : goal.returns-in-Some-clause-fewer
returns-in-Some-clause-fewer g c =
    let is = sought c.args.self.now (g.I.Images.seen c.args.images.now) c.seek-place.result.0 c.seek-place.result.1 c.requires.stands.can c.seek-place.ensures.sets c.seek-place.ensures.low c.seek-place.ensures.high in
    let below = at_below c.args.self.now (g.I.Images.seen c.args.images.now) c.args.page.now c.args.at c.seek-place.result.0 c.seek-place.result.1 c.requires.stands is c.seek-place.ensures.stays in
    let here = c.requires.stands.stands in
    let within = is.within in
    omega arith

pub returns-in-None-clause-gains : goal.returns-in-None-clause-gains
returns-in-None-clause-gains g c =
    let is = sought c.args.self.now (g.I.Images.seen c.args.images.now) c.seek-place.result.0 c.seek-place.result.1 c.requires.stands.can c.seek-place.ensures.sets c.seek-place.ensures.low c.seek-place.ensures.high in
    let below = at_below c.args.self.now (g.I.Images.seen c.args.images.now) c.args.page.now c.args.at c.seek-place.result.0 c.seek-place.result.1 c.requires.stands is c.seek-place.ensures.stays in
    let short = short_of (passes_told (told_all (g.I.Images.seen c.args.images.now).attached) c.args.self.now.many c.args.self.now.ask.now) c.args.self.now.size c.args.self.now.tested (c.seek-place.result.1.first + c.seek-place.result.1.count) (ranks c.args.page.now) (ranks c.gather_head.new.page) c.in_ok-full.full c.in-None.is c.in_ok-full.ensures.gathers in
    let high = is.high in
    (omega arith, c.if-stop-end.false, omega arith, short.0)

pub returns-in-None-clause-stands : goal.returns-in-None-clause-stands
returns-in-None-clause-stands g c =
    let is = sought c.args.self.now (g.I.Images.seen c.args.images.now) c.seek-place.result.0 c.seek-place.result.1 c.requires.stands.can c.seek-place.ensures.sets c.seek-place.ensures.low c.seek-place.ensures.high in
    let short = short_of (passes_told (told_all (g.I.Images.seen c.args.images.now).attached) c.args.self.now.many c.args.self.now.ask.now) c.args.self.now.size c.args.self.now.tested (c.seek-place.result.1.first + c.seek-place.result.1.count) (ranks c.args.page.now) (ranks c.gather_head.new.page) c.in_ok-full.full c.in-None.is c.in_ok-full.ensures.gathers in
    stands_on c.args.self.now _ (g.I.Images.seen c.args.images.now) (g.I.Images.seen c.gather_head.new.images) c.args.page.now c.gather_head.new.page c.args.at c.seek-place.result.0 c.seek-place.result.1 c.requires.stands is c.gather_head.ensures.reads.attached short.1 refl

pub returns-in-None-clause-reads : goal.returns-in-None-clause-reads
returns-in-None-clause-reads g c =
    let is = sought c.args.self.now (g.I.Images.seen c.args.images.now) c.seek-place.result.0 c.seek-place.result.1 c.requires.stands.can c.seek-place.ensures.sets c.seek-place.ensures.low c.seek-place.ensures.high in (
      record { ask = refl; many = refl },
      reads_part c.args.self.now c.seek-place.result.0 c.seek-place.result.1 (g.I.Images.seen c.args.images.now) (g.I.Images.seen c.gather_head.new.images) is c.gather_head.ensures.reads c.in_ok-full.ensures.quiet,
    )

pub returns-in-None-clause-fewer : goal.returns-in-None-clause-fewer
returns-in-None-clause-fewer g c =
    let is = sought c.args.self.now (g.I.Images.seen c.args.images.now) c.seek-place.result.0 c.seek-place.result.1 c.requires.stands.can c.seek-place.ensures.sets c.seek-place.ensures.low c.seek-place.ensures.high in
    let below = at_below c.args.self.now (g.I.Images.seen c.args.images.now) c.args.page.now c.args.at c.seek-place.result.0 c.seek-place.result.1 c.requires.stands is c.seek-place.ensures.stays in
    let here = c.requires.stands.stands in
    let within = is.within in
    omega arith

pub gather_head-requires-clause-some : goal.gather_head-requires-clause-some
gather_head-requires-clause-some g c = let low = c.seek-place.ensures.low in let high = c.seek-place.ensures.high in omega arith
