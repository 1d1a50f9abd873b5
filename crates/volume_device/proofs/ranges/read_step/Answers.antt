use Rattle.std.proofs.Common.{◌≡◌, ◌+◌, ◌*◌, ◌/◌, ◌%◌, ◌≤◌, ◌∙◌, ℕ, List, length, refl, sym, ap, arith}
use Rattle.std.proofs.lemmas.Nat.{div-add-mod', le-div}
use Rattle.address_map.proofs.Heads.{some_chunk, some_data}
use Rattle.outside.specs.Seen.{Image}
use Rattle.raid_params.specs.Size.{data_blocks, volume_sectors}
use Rattle.raid_params.specs.declared.types.Geometry.{Geometry}
use Rattle.virtual_volume.specs.Served.{IsServed}
use Rattle.virtual_volume.proofs.Sets.{served_end, served_head, served_slots, some_sectors}
use Rattle.volume_device.specs.Cost.{row_sectors}
use Rattle.volume_device.proofs.Chunks.{among_part}
use Rattle.volume_device.proofs.Costs.{full_cost, step_is_part, step_is_rows}
use Rattle.volume_device.proofs.Memory.{can_again, can_keep, can_less, read_still, read_up}
use Rattle.volume_device.proofs.Rows.{among_bounds, row_some, rows_among, rows_end}
use Rattle.volume_device.proofs.ranges.read_step.Goals.{then-count-row-via-then-count-row, then-count-row-via-else-count-row+then-is_full}
use Rattle.volume_device.proofs.ranges.read_step.Goals as goal

pub read_part-requires-clause-can : goal.read_part-requires-clause-can
read_part-requires-clause-can g c = can_less c.requires.can (omega arith)

pub nonzero_div-first : goal.nonzero_div-first
nonzero_div-first g c =
    let some = row_some c.args.geo.now.head (served_head c.args.geo.now c.args.end (g.I.Images.seen c.args.images.now).attached c.requires.can.set) in
    omega (arith, some)

pub nonzero_div-count-2 : goal.nonzero_div-count-2
nonzero_div-count-2 g c =
    let some = row_some c.args.geo.now.head (served_head c.args.geo.now c.args.end (g.I.Images.seen c.args.images.now).attached c.requires.can.set) in
    omega (arith, some)

-- whole rows of the volume are as many rows of chunks, which lie before the end
whole_rows : {geo : Geometry} {end row : ℕ} {attached : List Image} (first n : ℕ) → IsServed geo end attached → row ≡ row_sectors geo.head → row ≤ n → first % row_sectors geo.head ≡ 0 → n % row_sectors geo.head ≡ 0 → first + n ≤ volume_sectors geo.head end →
    (first / row * row_sectors geo.head ≡ first) × (n / row * row_sectors geo.head ≡ n) × (1 ≤ n / row) × (geo.head.offset + (first / row * geo.head.chunk + n / row * geo.head.chunk) ≤ end)
whole_rows {geo} {end} {row} {attached} first n s is more begins whole inside =
    let valid = served_head geo end attached s in
    let some = some_chunk geo.head valid in
    let pos = row_some geo.head valid in
    let start = div-add-mod' first (row_sectors geo.head) in
    let split = div-add-mod' n (row_sectors geo.head) in
    let from : first / row * row_sectors geo.head ≡ first / row_sectors geo.head * row_sectors geo.head = ap (λ (k : ℕ). first / k * row_sectors geo.head) is in
    let count : n / row * row_sectors geo.head ≡ n / row_sectors geo.head * row_sectors geo.head = ap (λ (k : ℕ). n / k * row_sectors geo.head) is in
    let at : first / row * row_sectors geo.head ≡ first = omega (arith, from, start, begins) in
    let many : n / row * row_sectors geo.head ≡ n = omega (arith, count, split, whole) in
    let parts : (first / row + n / row) * row_sectors geo.head ≡ first / row * row_sectors geo.head + n / row * row_sectors geo.head = grind arith in
    let within = rows_end geo.head end (first / row) (n / row) some (some_data geo.head valid) (omega (arith, at, many, parts, inside)) in
    let near = served_end geo end attached s some in
    (at, many, le-div 1 n row (omega (arith, is, pos)) (omega arith), omega (arith, within, near))

pub returns-then-count-row-clause-read : goal.returns-then-count-row-clause-read
returns-then-count-row-clause-read g c =
    let geo = c.args.geo.now in
    let valid = served_head geo c.args.end (g.I.Images.seen c.args.images.now).attached c.requires.can.set in
    let slots = served_slots geo c.args.end (g.I.Images.seen c.args.images.now).attached c.requires.can.set in
    let row = c.row_sectors-row.ensures in
    elim c.then-count-row.branch [
      | then-count-row-via-then-count-row w ↦ (let less = w.if-count-row.true in read_up c.read_part.ensures.read (omega (arith, step_is_part geo c.args.first (length c.args.to.now / 512) (omega (arith, less, row)))))
      | then-count-row-via-else-count-row+then-is_full w ↦ (let more = w.if-count-row.false in
          read_up c.read_part.ensures.read
          (omega (arith, step_is_rows geo c.args.first (length c.args.to.now / 512) (omega (arith, more, row)), full_cost geo c.args.first (length c.args.to.now / 512) valid slots (sym w.is_full.ensures ∙ w.if-is_full.true))))
    ]

pub overflow_mul-first : goal.overflow_mul-first
overflow_mul-first g c =
    let rows = whole_rows c.args.first (length c.args.to.now / 512) c.requires.can.set c.row_sectors-row.ensures (omega arith) (c.requires.begins (omega arith)) (c.requires.rows (omega arith)) c.requires.inside in
    let within = rows.3 in
    omega (arith, within, c.requires.can.set.near)

pub fill-requires-clause-can : goal.fill-requires-clause-can
fill-requires-clause-can g c =
    let geo = c.args.geo.now in
    let rows = whole_rows c.args.first (length c.args.to.now / 512) c.requires.can.set c.row_sectors-row.ensures (omega arith) (c.requires.begins (omega arith)) (c.requires.rows (omega arith)) c.requires.inside in
    let same : length c.args.to.now / 512 / c.row_sectors-row.result * geo.head.chunk ≡ length c.args.to.now / 512 / row_sectors geo.head * geo.head.chunk = ap (λ (k : ℕ). length c.args.to.now / 512 / k * geo.head.chunk) c.row_sectors-row.ensures in
    can_keep (c.args.first / c.row_sectors-row.result * geo.head.chunk) (length c.args.to.now / 512 / c.row_sectors-row.result * geo.head.chunk) c.requires.can (omega (arith, same, c.requires.short)) rows.3

pub fill-requires-clause-some : goal.fill-requires-clause-some
fill-requires-clause-some g c =
    let valid = served_head c.args.geo.now c.args.end (g.I.Images.seen c.args.images.now).attached c.requires.can.set in
    let rows = whole_rows c.args.first (length c.args.to.now / 512) c.requires.can.set c.row_sectors-row.ensures (omega arith) (c.requires.begins (omega arith)) (c.requires.rows (omega arith)) c.requires.inside in
    some_sectors (length c.args.to.now / 512 / c.row_sectors-row.result) c.args.geo.now.head.chunk rows.2 (some_chunk c.args.geo.now.head valid)

pub returns-in_err-fill-clause-read : goal.returns-in_err-fill-clause-read
returns-in_err-fill-clause-read g c =
    let geo = c.args.geo.now in
    let rows = whole_rows c.args.first (length c.args.to.now / 512) c.requires.can.set c.row_sectors-row.ensures (omega arith) (c.requires.begins (omega arith)) (c.requires.rows (omega arith)) c.requires.inside in
    let many = rows.1 in
    let turned : data_blocks geo.head * (length c.args.to.now / 512 / c.row_sectors-row.result * geo.head.chunk) ≡ length c.args.to.now / 512 / c.row_sectors-row.result * row_sectors geo.head = grind arith in
    read_up c.fill.ensures.read (omega (arith, turned, many, step_is_rows geo c.args.first (length c.args.to.now / 512) (omega arith)))

pub read_part-requires-2-clause-can : goal.read_part-requires-2-clause-can
read_part-requires-2-clause-can g c = can_less (can_again c.fill.ensures.read c.requires.can) (omega arith)

pub returns-clause-read : goal.returns-clause-read
returns-clause-read g c =
    let geo = c.args.geo.now in
    let valid = served_head geo c.args.end (g.I.Images.seen c.args.images.now).attached c.requires.can.set in
    let rows = whole_rows c.args.first (length c.args.to.now / 512) c.requires.can.set c.row_sectors-row.ensures (omega arith) (c.requires.begins (omega arith)) (c.requires.rows (omega arith)) c.requires.inside in
    let at = rows.0 in
    let many = rows.1 in
    let start : ℕ = c.args.first / c.row_sectors-row.result in
    let count : ℕ = length c.args.to.now / 512 / c.row_sectors-row.result in
    let kept = c.fill.new.self in
    let bounds = among_bounds c.fill.new.self.first c.fill.new.self.count (c.args.first / c.row_sectors-row.result * geo.head.chunk) (length c.args.to.now / 512 / c.row_sectors-row.result * geo.head.chunk) c.in_ok-fill.ensures.among in
    let among = rows_among geo.head start count kept.first kept.count (some_chunk geo.head valid) (some_data geo.head valid) bounds.0 bounds.1 in
    let here = among_part geo.head kept.first kept.count kept.first kept.count (c.args.first / c.row_sectors-row.result * row_sectors geo.head) (length c.args.to.now / 512 / c.row_sectors-row.result * row_sectors geo.head)
    c.args.first (length c.args.to.now / 512) refl refl (omega (arith, at)) (omega (arith, at, many)) among in
    let still = c.read_part-2.ensures.still here in
    let turned : data_blocks geo.head * (length c.args.to.now / 512 / c.row_sectors-row.result * geo.head.chunk) ≡ length c.args.to.now / 512 / c.row_sectors-row.result * row_sectors geo.head = grind arith in
    read_up (read_still c.fill.ensures.read still.0 still.1) (omega (arith, turned, many, step_is_rows geo c.args.first (length c.args.to.now / 512) (omega arith)))

pub row_sectors-row-requires : goal.row_sectors-row-requires
row_sectors-row-requires g c = served_head c.args.geo.now c.args.end (g.I.Images.seen c.args.images.now).attached c.requires.can.set
