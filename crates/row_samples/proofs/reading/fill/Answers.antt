use Rattle.std.proofs.Common.{◌≡◌, ◌≤◌, ◌+◌, ◌*◌, ◌/◌, List, IfSome, length, arith, rules, ap, refl, subst, sym, ◌∙◌}
use Rattle.outside.proofs.Reading.{reads_none, reads_up}
use Rattle.outside.specs.Attached.{told_all}
use Rattle.outside.specs.Seen.{Image}
use Rattle.member_regions.proofs.IfTold.{if_both}
use Rattle.member_regions.specs.Regions.{HoldRead}
use Rattle.search_scope.specs.Scopes.{AgreeWith}
use Rattle.row_samples.specs.Spreads.{AreSampled, HaveFew, LieBelow, Sampling}
use Rattle.row_samples.proofs.Begun.{far_first, far_later, lie_later, none_lie, AreFar}
use Rattle.row_samples.proofs.Few.{few_first, few_later}
use Rattle.row_samples.proofs.Offered.{offered_below, offered_images, offered_rows}
use Rattle.row_samples.proofs.Ordered.{in_order, order_length, order_reaches, scope_near, reads_images, reads_more, reads_within, sector_held}
use Rattle.row_samples.proofs.reading.fill.Goals.{then-wants+in_ok-read, else-wants}
use Rattle.row_samples.proofs.reading.fill.Goals as goal

pub loop-number-init : goal.loop-number-init
loop-number-init g c = record {
  far = far_first (g.I.Images.seen c.args.images.now).attached c.args.scope.now c.args.offset (c.args.rows / c.args.tries * 0) c.args.sampler.now c.requires.images c.requires.none;
  few = few_first (length c.args.scope.now.lengths.items) c.args.sampler.now c.requires.none;
  within = none_lie c.args.rows (length c.args.scope.now.lengths.items) c.args.sampler.now c.requires.none;
  faults = refl;
  reads = reads_up (g.I.Images.seen c.args.images.now) (g.I.Images.seen c.args.images.now) (reads_none (g.I.Images.seen c.args.images.now)) (omega arith);
  room = c.requires.room;
}

pub read-requires-clause-room : goal.read-requires-clause-room
read-requires-clause-room g c =
    let long : length c.deref.result.now ≡ c.len.result = ap length c.deref.ensures.0 ∙ ap length c.all_images-slots.ensures ∙ order_length c.len.result in
    let many = c.loop-number.invariant.room.many in
    let wide = c.loop-number.invariant.room.long in
    let count = c.len.ensures.value in
    record { many = omega arith; long = omega arith }

pub read-requires-clause-held : goal.read-requires-clause-held
read-requires-clause-held g c = λ k d lt.
    let within = c.requires.within in
    let row = c.try_row-row.ensures.within in
    order_reaches c.args.scope.now (g.I.Images.seen c.loop-number.images).attached c.deref.result.now
    (c.args.offset + (c.try_row-row.result + 1)) k d c.requires.scope (subst (λ (l : List Image). AgreeWith c.args.scope.now l) (sym c.loop-number.invariant.reads.attached) c.requires.images)
    (c.deref.ensures.0 ∙ c.all_images-slots.ensures ∙ ap in_order c.len.ensures.value) (omega arith) lt

pub read-requires-clause-near : goal.read-requires-clause-near
read-requires-clause-near g c =
    let near = scope_near c.args.scope.now c.requires.scope in
    let within = c.requires.within in
    let row = c.try_row-row.ensures.within in
    omega arith

pub offer-requires-clause-row : goal.offer-requires-clause-row
offer-requires-clause-row g c =
    let near = scope_near c.args.scope.now c.requires.scope in
    let within = c.requires.within in
    let row = c.try_row-row.ensures.within in
    omega arith

pub returns-in_err-read-clause-reads : goal.returns-in_err-read-clause-reads
returns-in_err-read-clause-reads g c =
    let n = length c.args.scope.now.lengths.items in
    let within : c.loop-number.number + 1 ≤ c.args.tries = let lt = c.loop-number-test.true in omega arith in
    reads_within (g.I.Images.seen c.args.images.now) (g.I.Images.seen c.read.new.images) n (c.loop-number.number + 1) c.args.tries n refl within
    (reads_more (g.I.Images.seen c.args.images.now) (g.I.Images.seen c.loop-number.images) (g.I.Images.seen c.read.new.images) n c.loop-number.number 1 c.loop-number.invariant.reads
    (reads_images (g.I.Images.seen c.loop-number.images) (g.I.Images.seen c.read.new.images) c.deref.result.now n 1
    (c.deref.ensures.0 ∙ c.all_images-slots.ensures ∙ ap in_order c.len.ensures.value) c.read.ensures.reads))

pub loop-number-preserved : goal.loop-number-preserved
loop-number-preserved g c =
    let n = length c.args.scope.now.lengths.items in
    let part = c.args.rows / c.args.tries in
    let told = told_all (g.I.Images.seen c.args.images.now).attached in
    let next : part * (c.loop-number.number + 1) ≡ part * c.loop-number.number + part = grind arith in
    let F : Sampling → Type 0 = λ sampler. AreFar told n c.args.offset (part * (c.loop-number.number + 1)) sampler in
    let was = c.loop-number.invariant.far in
    let Few : Sampling → Type 0 = HaveFew c.args.sampler.now in
    elim c.if-wants.branch [
      | then-wants+in_ok-read w ↦
          (let slots = w.deref.result.now in
          let row = c.try_row-row.result in
          let room = w.read.new.self in
          let old = c.loop-number.sampler in
          let new = w.offer.new.self in
          let offers = w.offer.ensures.offers in
          let images = offered_images room 0 row old new offers in
          let ordered : slots ≡ in_order n = w.deref.ensures.0 ∙ c.all_images-slots.ensures ∙ ap in_order c.len.ensures.value in
          let now : IfSome (told_all (g.I.Images.seen c.loop-number.images).attached) (λ bytes.
          HoldRead bytes slots c.args.offset room.stride row (512 * 1) (length slots) room.bytes) = w.in_ok-read.ensures.told in
          let below : LieBelow row old = lie_later (part * c.loop-number.number) row old c.try_row-row.ensures.low was.below in
          let far : F new = record {
            telling_images = images.0 ∙ was.telling_images;
            others_images = images.1 ∙ was.others_images;
            rows = if_both told
                (λ bytes. AreSampled bytes n c.args.offset old)
                (λ bytes. HoldRead bytes slots c.args.offset room.stride row (512 * 1) (length slots) room.bytes)
                (λ bytes. AreSampled bytes n c.args.offset new)
                (λ bytes are hold. offered_rows room 0 row old new offers bytes n c.args.offset was.telling_images (sector_held bytes slots n c.args.offset row room ordered hold) below are)
                was.rows
                (rw (← c.loop-number.invariant.reads.attached) now);
            below = lie_later (row + 1) (part * (c.loop-number.number + 1)) new (let high = c.try_row-row.ensures.high in omega arith) (offered_below room 0 row old new offers below);
          } in
          record {
            far = subst F (sym w.sampler-is) far;
            few = subst Few (sym w.sampler-is) (few_later room 0 row c.args.sampler.now old new offers c.loop-number.invariant.few);
            within = subst (LieBelow c.args.rows) (sym w.sampler-is) (lie_later (row + 1) c.args.rows new (let inside = c.try_row-row.ensures.within in omega arith) (offered_below room 0 row old new offers below));
            faults = rw w.images-is (search rules);
            reads = rw w.images-is (reads_more (g.I.Images.seen c.args.images.now) (g.I.Images.seen c.loop-number.images) (g.I.Images.seen w.read.new.images) n c.loop-number.number 1 c.loop-number.invariant.reads
                (reads_images (g.I.Images.seen c.loop-number.images) (g.I.Images.seen w.read.new.images) slots n 1 ordered w.read.ensures.reads));
            room = rw w.regions-is (let many = c.loop-number.invariant.room.many in
                let wide = c.loop-number.invariant.room.long in
                let same = w.read.ensures.room.members in
                let as_long = w.read.ensures.room.stride in
                record { many = omega arith; long = omega arith });
          })
      | else-wants w ↦
          (let far : F c.loop-number.sampler = far_later told n c.args.offset (part * c.loop-number.number) (part * (c.loop-number.number + 1)) c.loop-number.sampler (omega arith) was in
          let more : n * (c.loop-number.number + 1) ≡ n * c.loop-number.number + n = grind arith in
          record {
            far = subst F (sym w.sampler-is) far;
            few = subst Few (sym w.sampler-is) c.loop-number.invariant.few;
            within = subst (LieBelow c.args.rows) (sym w.sampler-is) c.loop-number.invariant.within;
            faults = rw w.images-is c.loop-number.invariant.faults;
            reads = rw w.images-is (reads_up (g.I.Images.seen c.args.images.now) (g.I.Images.seen c.loop-number.images) c.loop-number.invariant.reads (omega arith));
            room = rw w.regions-is c.loop-number.invariant.room;
          })
    ]
