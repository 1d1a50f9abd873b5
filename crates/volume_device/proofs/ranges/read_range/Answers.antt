use Rattle.std.proofs.Common.{ℕ, ◌≡◌, ◌+◌, ◌-◌, ◌*◌, ◌/◌, ◌∙◌, drop, length, max, refl, ap, rules, arith, take}
use Rattle.outside.specs.Attached.{told_all}
use Rattle.address_map.proofs.Heads.{some_chunk, some_data}
use Rattle.virtual_volume.proofs.Sets.{served_head}
use Rattle.volume_device.specs.Cost.{row_sectors}
use Rattle.volume_device.proofs.Chunks.{volume_short}
use Rattle.volume_device.proofs.Costs.{begins_on, reads_range, reads_step}
use Rattle.volume_device.proofs.Memory.{can_again, read_none, read_up}
use Rattle.volume_device.proofs.Rows.{most_fits, most_short, row_some, step_short}
use Rattle.volume_device.proofs.Told.{part_on, part_start, part_whole}
use Rattle.volume_device.proofs.ranges.read_range.Goals as goal

pub nonzero_div-most : goal.nonzero_div-most
nonzero_div-most g c = some_chunk c.args.geo.now.head (served_head c.args.geo.now c.args.end (g.I.Images.seen c.args.images.now).attached c.requires.can.set)

pub loop-at-init : goal.loop-at-init
loop-at-init g c = record {
  within = omega arith;
  begins = λ some. absurd (omega arith);
  told = part_start (told_all (g.I.Images.seen c.args.images.now).attached) c.args.geo.now c.args.first c.args.to.now;
  read = read_up (read_none c.args.geo.now (g.I.Images.seen c.args.images.now) c.args.kept.now c.requires.can.kept) (omega arith);
  stays = refl;
}

pub overflow_add-first : goal.overflow_add-first
overflow_add-first g c =
    let short = volume_short c.args.geo.now c.args.end (g.I.Images.seen c.args.images.now).attached c.requires.can.set in
    omega (arith, c.requires.inside, short)

pub overflow_add-first-in-loop-at : goal.overflow_add-first-in-loop-at
overflow_add-first-in-loop-at g c =
    let short = volume_short c.args.geo.now c.args.end (g.I.Images.seen c.args.images.now).attached c.requires.can.set in
    omega (arith, c.requires.inside, short)

pub step_sectors-requires-clause-fits : goal.step_sectors-requires-clause-fits
step_sectors-requires-clause-fits g c =
    let head = c.args.geo.now.head in
    let most : c.max.result ≡ max head.chunk 256 = omega (arith, c.max.ensures) in
    let same : c.max.result / head.chunk ≡ max head.chunk 256 / head.chunk = ap (λ (n : ℕ). n / head.chunk) most in
    most_fits head (c.max.result / head.chunk) c.row_sectors-row.result (served_head c.args.geo.now c.args.end (g.I.Images.seen c.args.images.now).attached c.requires.can.set) c.row_sectors-row.ensures
    (most_short head.chunk (c.max.result / head.chunk) same)

pub read_step-requires-clause-short : goal.read_step-requires-clause-short
read_step-requires-clause-short g c =
    let head = c.args.geo.now.head in
    let n : ℕ = length (take (512 * (c.loop-at.at + c.step_sectors.result) - 512 * c.loop-at.at) (drop (512 * c.loop-at.at) c.loop-at.to)) / 512 in
    let size : length (take (512 * (c.loop-at.at + c.step_sectors.result) - 512 * c.loop-at.at) (drop (512 * c.loop-at.at) c.loop-at.to)) / 512 ≡ c.step_sectors.result = omega (arith, c.step_sectors.ensures.within) in
    let is : row_sectors head ≡ c.row_sectors-row.result = search rules in
    let most : c.max.result ≡ max head.chunk 256 = omega (arith, c.max.ensures) in
    let same : c.max.result / head.chunk ≡ max head.chunk 256 / head.chunk = ap (λ (n : ℕ). n / head.chunk) most in
    step_short n c.step_sectors.result (row_sectors head) c.row_sectors-row.result (c.max.result / head.chunk) head.chunk size is c.step_sectors.ensures.few
    (most_short head.chunk (c.max.result / head.chunk) same)

pub read_step-requires-clause-can : goal.read_step-requires-clause-can
read_step-requires-clause-can g c = can_again c.loop-at.invariant.read c.requires.can

pub returns-in_err-read_step-clause-read : goal.returns-in_err-read_step-clause-read
returns-in_err-read_step-clause-read g c =
    let geo = c.args.geo.now in
    let valid = served_head geo c.args.end (g.I.Images.seen c.args.images.now).attached c.requires.can.set in
    let m : ℕ = length (take (512 * (c.loop-at.at + c.step_sectors.result) - 512 * c.loop-at.at) (drop (512 * c.loop-at.at) c.loop-at.to)) / 512 in
    let size : length (take (512 * (c.loop-at.at + c.step_sectors.result) - 512 * c.loop-at.at) (drop (512 * c.loop-at.at) c.loop-at.to)) / 512 ≡ c.step_sectors.result = omega (arith, c.step_sectors.ensures.within) in
    reads_range geo c.args.first (length c.args.to.now / 512) (c.loop-at.at + c.step_sectors.result) (omega (arith, c.step_sectors.ensures.within))
    (reads_step geo c.args.first (length c.args.to.now / 512) c.loop-at.at (c.loop-at.at + c.step_sectors.result)
    c.step_sectors.result m c.row_sectors-row.result _ (row_some geo.head valid) (some_data geo.head valid) refl size c.row_sectors-row.ensures (omega arith) c.step_sectors.ensures c.loop-at.invariant.begins
    c.loop-at.invariant.read c.read_step.ensures.read)

pub loop-at-preserved : goal.loop-at-preserved
loop-at-preserved g c =
    let geo = c.args.geo.now in
    let valid = served_head geo c.args.end (g.I.Images.seen c.args.images.now).attached c.requires.can.set in
    let m : ℕ = length (take (512 * (c.loop-at.at + c.step_sectors.result) - 512 * c.loop-at.at) (drop (512 * c.loop-at.at) c.loop-at.to)) / 512 in
    let size : length (take (512 * (c.loop-at.at + c.step_sectors.result) - 512 * c.loop-at.at) (drop (512 * c.loop-at.at) c.loop-at.to)) / 512 ≡ c.step_sectors.result = omega (arith, c.step_sectors.ensures.within) in
    let long : length c.read_step.new.to ≡ 512 * c.step_sectors.result = omega (arith, c.step_sectors.ensures.within) in
    let stays : (g.I.Images.seen c.read_step.new.images).faults ≡ (g.I.Images.seen c.loop-at.images).faults = search rules in
    record {
      within = omega (arith, c.step_sectors.ensures.within);
      begins = λ some less. begins_on c.args.first c.loop-at.at c.step_sectors.result c.row_sectors-row.result (row_sectors geo.head) c.row_sectors-row.ensures (c.step_sectors.ensures.ends (omega arith));
      told =
          part_on (told_all (g.I.Images.seen c.args.images.now).attached) geo c.args.first c.loop-at.at (c.loop-at.at + c.step_sectors.result) m _ c.loop-at.to c.read_step.new.to
          (omega arith) (omega (arith, size)) (omega (arith, size, long)) (omega arith) c.loop-at.invariant.told (rw (← c.loop-at.invariant.read.reads.attached) c.in_ok-read_step.ensures.told);
      read =
          reads_step geo c.args.first (length c.args.to.now / 512) c.loop-at.at (c.loop-at.at + c.step_sectors.result)
          c.step_sectors.result m c.row_sectors-row.result _ (row_some geo.head valid) (some_data geo.head valid) refl size c.row_sectors-row.ensures (omega arith) c.step_sectors.ensures c.loop-at.invariant.begins
          c.loop-at.invariant.read c.read_step.ensures.read;
      stays = stays ∙ c.loop-at.invariant.stays;
    }

pub returns-clause-told : goal.returns-clause-told
returns-clause-told g c =
    part_whole (told_all (g.I.Images.seen c.args.images.now).attached) c.args.geo.now c.args.first c.loop-at.at (length c.args.to.now / 512) c.loop-at.to (omega arith) (omega arith) c.loop-at.invariant.told

pub returns-clause-read : goal.returns-clause-read
returns-clause-read g c =
    reads_range c.args.geo.now c.args.first (length c.args.to.now / 512) c.loop-at.at (omega arith) c.loop-at.invariant.read

pub row_sectors-row-requires : goal.row_sectors-row-requires
row_sectors-row-requires g c = served_head c.args.geo.now c.args.end (g.I.Images.seen c.args.images.now).attached c.requires.can.set
