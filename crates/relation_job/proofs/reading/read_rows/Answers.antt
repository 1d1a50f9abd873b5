use Rattle.std.proofs.Common.{ℕ, ◌<◌, ◌≡◌, ◌*◌, length, arith, subst}
use Rattle.relation_job.proofs.CommonRows.{small_at}
use Rattle.relation_job.proofs.BlockBytes.{has_sectors, may_read, reads_all, reads_next}
use Rattle.relation_job.proofs.reading.read_rows.Goals as goal

pub overflow_add-row : goal.overflow_add-row
overflow_add-row g c =
    let attached = (g.I.Images.seen c.args.images.now).attached in
    let lt : c.loop-image.image < length attached = omega arith in
    let has = has_sectors attached c.args.offsets.now c.args.row c.args.rows c.loop-image.image c.requires.row c.requires.some lt in
    let near = small_at attached c.loop-image.image c.requires.small in
    omega (arith, has, near, c.offset_of.ensures)

pub read-requires : goal.read-requires
read-requires g c =
    let attached = (g.I.Images.seen c.args.images.now).attached in
    let lt : c.loop-image.image < length attached = omega arith in
    let count : c.args.count ≡ length attached = omega arith in
    let long : length c.loop-image.to ≡ 512 * c.args.rows * length attached = subst (λ (n : ℕ). length c.loop-image.to ≡ 512 * c.args.rows * n) count (omega arith) in
    may_read (g.I.Images.seen c.args.images.now) (g.I.Images.seen c.loop-image.images) c.args.offsets.now c.args.row c.args.rows c.loop-image.image c.offset_of.result c.loop-image.to c.loop-image.invariant c.requires.row c.requires.some lt long
    c.offset_of.ensures

pub loop-image-preserved : goal.loop-image-preserved
loop-image-preserved g c =
    let attached = (g.I.Images.seen c.args.images.now).attached in
    let lt : c.loop-image.image < length attached = omega arith in
    let count : c.args.count ≡ length attached = omega arith in
    let long : length c.loop-image.to ≡ 512 * c.args.rows * length attached = subst (λ (n : ℕ). length c.loop-image.to ≡ 512 * c.args.rows * n) count (omega arith) in
    reads_next (g.I.Images.seen c.args.images.now) (g.I.Images.seen c.loop-image.images) (g.I.Images.seen c.read.new.self) c.args.offsets.now c.args.row c.args.rows c.loop-image.image c.offset_of.result c.loop-image.to c.read.new.to
    c.loop-image.invariant lt long c.offset_of.ensures c.read.auto.to c.in_ok-read.ensures.told c.in_ok-read.ensures.reads c.in_ok-read.ensures.cause.stays

pub returns-clause-told : goal.returns-clause-told
returns-clause-told g c =
    let attached = (g.I.Images.seen c.args.images.now).attached in
    let all : c.loop-image.image ≡ length attached = omega arith in
    let count : c.args.count ≡ c.loop-image.image = omega arith in
    let long : length c.loop-image.to ≡ 512 * c.args.rows * c.loop-image.image = subst (λ (n : ℕ). length c.loop-image.to ≡ 512 * c.args.rows * n) count (omega arith) in
    reads_all (g.I.Images.seen c.args.images.now) (g.I.Images.seen c.loop-image.images) c.args.offsets.now c.args.row c.args.rows c.loop-image.image c.loop-image.to c.loop-image.invariant all long
