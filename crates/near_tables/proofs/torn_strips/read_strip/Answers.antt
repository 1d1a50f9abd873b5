use Rattle.std.proofs.Common.{◌≡◌, ◌+◌, ◌*◌, ◌≤◌, IfSome, length, arith, ap, ◌∙◌}
use Rattle.outside.specs.Attached.{told_all}
use Rattle.member_regions.proofs.IfTold.{if_told}
use Rattle.member_regions.specs.Regions.{HoldRead}
use Rattle.near_tables.specs.Reading.{HoldStrip}
use Rattle.near_tables.proofs.Reach.{on_ok, order_length, order_reaches, reads_images, strip_held}
use Rattle.near_tables.proofs.torn_strips.read_strip.Goals as goal

pub read-requires-clause-room : goal.read-requires-clause-room
read-requires-clause-room g c =
    let long : length c.deref.result.now ≡ c.args.many = ap length c.deref.ensures.0 ∙ ap length c.all_images-slots.ensures ∙ order_length c.args.many in
    let many = c.requires.room.many in
    let wide = c.requires.room.long in
    let fits = c.requires.fits in
    record { many = omega arith; long = omega arith }

pub read-requires-clause-held : goal.read-requires-clause-held
read-requires-clause-held g c = λ k d lt.
    let some : 1 ≤ c.args.count = let ne = c.if-count-eq0.false in omega arith in
    let all = c.requires.reach some in
    let plain : c.args.sector + (0 + c.args.count) ≡ c.args.sector + c.args.count = omega arith in
    rw plain (order_reaches (g.I.Images.seen c.args.images.now).attached c.deref.result.now c.args.many (c.args.sector + c.args.count) k d
    (c.deref.ensures.0 ∙ c.all_images-slots.ensures) c.requires.attached all lt)

pub returns-clause-told : goal.returns-clause-told
returns-clause-told g c =
    on_ok c.read.result
    (IfSome (told_all (g.I.Images.seen c.args.images.now).attached) (λ bytes. HoldRead bytes c.deref.result.now c.args.sector c.read.new.self.stride 0 (512 * c.args.count) (length c.deref.result.now) c.read.new.self.bytes))
    (IfSome (told_all (g.I.Images.seen c.args.images.now).attached) (λ bytes. HoldStrip bytes c.args.many c.args.sector c.args.count c.read.new.self))
    (if_told (told_all (g.I.Images.seen c.args.images.now).attached)
    (λ bytes. HoldRead bytes c.deref.result.now c.args.sector c.read.new.self.stride 0 (512 * c.args.count) (length c.deref.result.now) c.read.new.self.bytes)
    (λ bytes. HoldStrip bytes c.args.many c.args.sector c.args.count c.read.new.self)
    (λ bytes hold. strip_held bytes c.deref.result.now c.args.many c.args.sector c.args.count c.read.new.self (c.deref.ensures.0 ∙ c.all_images-slots.ensures) hold))
    c.read.ensures.told

pub returns-clause-reads : goal.returns-clause-reads
returns-clause-reads g c =
    reads_images (g.I.Images.seen c.args.images.now) (g.I.Images.seen c.read.new.images) c.deref.result.now c.args.many c.args.count
    (c.deref.ensures.0 ∙ c.all_images-slots.ensures) c.read.ensures.reads
