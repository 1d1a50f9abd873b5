use Rattle.std.proofs.Common.{◌≡◌, ◌+◌, ◌*◌, ℕ, List, IfSome, length, rules, arith, ap, subst, ◌∙◌}
use Rattle.outside.specs.Attached.{told_all}
use Rattle.member_regions.proofs.IfTold.{if_told}
use Rattle.member_regions.specs.Regions.{HoldRead}
use Rattle.xor_tables.specs.Xors.{AreSumsOf, HoldRows}
use Rattle.xor_tables.proofs.Ordered.{rows_held, in_order, order_length, order_reaches, plan_near, reads_images}
use Rattle.xor_tables.proofs.Sectors.{sums_of_rows}
use Rattle.xor_tables.proofs.row_sums.row_sums.Goals as goal

pub read-requires-clause-near : goal.read-requires-clause-near
read-requires-clause-near g c =
    let near = plan_near c.args.plan.now c.requires.plan in
    let within = c.requires.within in
    omega arith

pub read-requires-clause-room : goal.read-requires-clause-room
read-requires-clause-room g c =
    let long : length c.deref.result.now ≡ c.len.result = ap length c.deref.ensures.0 ∙ ap length c.all_images-slots.ensures ∙ order_length c.len.result in
    let many = c.requires.room.many in
    let wide = c.requires.room.long in
    record { many = omega arith; long = omega arith }

pub read-requires-clause-held : goal.read-requires-clause-held
read-requires-clause-held g c = λ k d lt.
    let within = c.requires.within in
    order_reaches c.args.plan.now (g.I.Images.seen c.args.images.now).attached c.deref.result.now
    (c.args.sector + (0 + c.args.count)) k d c.requires.plan c.requires.images
    (c.deref.ensures.0 ∙ c.all_images-slots.ensures ∙ ap in_order c.len.ensures.value) (omega arith) lt

pub returns-in_err-read-clause-reads : goal.returns-in_err-read-clause-reads
returns-in_err-read-clause-reads g c =
    reads_images (g.I.Images.seen c.args.images.now) (g.I.Images.seen c.read.new.images) c.deref.result.now (length c.args.plan.now.lengths.items) c.args.count
    (c.deref.ensures.0 ∙ c.all_images-slots.ensures ∙ ap in_order c.len.ensures.value) c.read.ensures.reads

pub returns-clause-reads : goal.returns-clause-reads
returns-clause-reads g c =
    reads_images (g.I.Images.seen c.args.images.now) (g.I.Images.seen c.read.new.images) c.deref.result.now (length c.args.plan.now.lengths.items) c.args.count
    (c.deref.ensures.0 ∙ c.all_images-slots.ensures ∙ ap in_order c.len.ensures.value) c.read.ensures.reads

pub returns-clause-told : goal.returns-clause-told
returns-clause-told g c =
    let now : IfSome (told_all (g.I.Images.seen c.args.images.now).attached) (λ bytes.
    HoldRead bytes c.deref.result.now c.args.sector c.read.new.self.stride 0 (512 * c.args.count) (length c.deref.result.now) c.read.new.self.bytes) = search rules in
    let F : ℕ → Type 0 = λ n. (bytes : List (List ℕ)) → HoldRows bytes n c.args.sector c.args.count c.read.new.self → AreSumsOf bytes n c.args.sector c.args.count c.sum_images.result in
    let sums : F (length c.args.plan.now.lengths.items) = subst F c.len-2.ensures.value
    (λ bytes hold. sums_of_rows bytes c.len-2.result c.args.sector c.args.count c.read.new.self c.sum_images.result hold c.sum_images.ensures) in
    if_told (told_all (g.I.Images.seen c.args.images.now).attached)
    (λ bytes. HoldRead bytes c.deref.result.now c.args.sector c.read.new.self.stride 0 (512 * c.args.count) (length c.deref.result.now) c.read.new.self.bytes)
    (λ bytes. AreSumsOf bytes (length c.args.plan.now.lengths.items) c.args.sector c.args.count c.sum_images.result)
    (λ bytes hold. sums bytes
    (rows_held bytes c.deref.result.now (length c.args.plan.now.lengths.items) c.args.sector c.args.count c.read.new.self (c.deref.ensures.0 ∙ c.all_images-slots.ensures ∙ ap in_order c.len.ensures.value) hold))
    now

pub returns-clause-hold : goal.returns-clause-hold
returns-clause-hold g c =
    let now : IfSome (told_all (g.I.Images.seen c.args.images.now).attached) (λ bytes.
    HoldRead bytes c.deref.result.now c.args.sector c.read.new.self.stride 0 (512 * c.args.count) (length c.deref.result.now) c.read.new.self.bytes) = search rules in
    if_told (told_all (g.I.Images.seen c.args.images.now).attached)
    (λ bytes. HoldRead bytes c.deref.result.now c.args.sector c.read.new.self.stride 0 (512 * c.args.count) (length c.deref.result.now) c.read.new.self.bytes)
    (λ bytes. HoldRows bytes (length c.args.plan.now.lengths.items) c.args.sector c.args.count c.read.new.self)
    (λ bytes hold. rows_held bytes c.deref.result.now (length c.args.plan.now.lengths.items) c.args.sector c.args.count c.read.new.self (c.deref.ensures.0 ∙ c.all_images-slots.ensures ∙ ap in_order c.len.ensures.value) hold)
    now
