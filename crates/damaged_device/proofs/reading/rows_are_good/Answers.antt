use Rattle.std.proofs.Common.{ℕ, ◌+◌, ◌-◌, ◌*◌, ◌/◌, ◌≤◌, refl, arith}
use Rattle.std.proofs.lemmas.Nat.{mul-le}
use Rattle.address_map.proofs.Heads.{some_chunk, whole_below}
use Rattle.member_regions.proofs.Sets.{testable_head}
use Rattle.raid_params.specs.Size.{rows}
use Rattle.rescue_map.proofs.Passed.{damage_of, volume_short}
use Rattle.volume_device.proofs.Rows.{row_some}
use Rattle.damaged_device.proofs.GoodRows.{covers, good_beside}
use Rattle.damaged_device.proofs.reading.rows_are_good.Goals as goal

pub nonzero_div-start : goal.nonzero_div-start
nonzero_div-start c =
    let set = c.args.damage.now.set.now in
    omega (arith, c.row_sectors-row.ensures, row_some set.geo.head (testable_head set.geo c.requires.set.shape))

pub nonzero_div-rows : goal.nonzero_div-rows
nonzero_div-rows c =
    let set = c.args.damage.now.set.now in
    omega (arith, c.row_sectors-row.ensures, row_some set.geo.head (testable_head set.geo c.requires.set.shape))

pub overflow_add-rows : goal.overflow_add-rows
overflow_add-rows c =
    let damage = c.args.damage.now in
    let short = volume_short damage.set.now damage.end (damage_of damage.set.now damage.end c.requires.set.shape c.requires.set.near) in
    let within = c.requires.within in
    omega arith

pub overflow_mul-start : goal.overflow_mul-start
overflow_mul-start c =
    let damage = c.args.damage.now in
    let set = damage.set.now in
    let valid = testable_head set.geo c.requires.set.shape in
    let covered = covers set.geo.head damage.end c.args.first c.args.count c.row_sectors-row.result valid c.row_sectors-row.ensures c.requires.some c.requires.within in
    let below : rows set.geo.head damage.end * set.geo.head.chunk ≤ damage.end - set.geo.head.offset = whole_below (damage.end - set.geo.head.offset) set.geo.head.chunk (rows set.geo.head damage.end) refl in
    let near = c.requires.set.near in
    let inside = covered.within in
    omega arith

pub overflow_mul-rows : goal.overflow_mul-rows
overflow_mul-rows c =
    let damage = c.args.damage.now in
    let set = damage.set.now in
    let valid = testable_head set.geo c.requires.set.shape in
    let covered = covers set.geo.head damage.end c.args.first c.args.count c.row_sectors-row.result valid c.row_sectors-row.ensures c.requires.some c.requires.within in
    let below : rows set.geo.head damage.end * set.geo.head.chunk ≤ damage.end - set.geo.head.offset = whole_below (damage.end - set.geo.head.offset) set.geo.head.chunk (rows set.geo.head damage.end) refl in
    let near = c.requires.set.near in
    let inside = covered.within in
    omega arith

pub are_all_good-requires-clause-some : goal.are_all_good-requires-clause-some
are_all_good-requires-clause-some c =
    let damage = c.args.damage.now in
    let set = damage.set.now in
    let valid = testable_head set.geo c.requires.set.shape in
    let covered = covers set.geo.head damage.end c.args.first c.args.count c.row_sectors-row.result valid c.row_sectors-row.ensures c.requires.some c.requires.within in
    let some = covered.some in
    let chunk = some_chunk set.geo.head valid in
    let many : ℕ = (c.args.first + c.args.count - 1) / c.row_sectors-row.result + 1 - c.args.first / c.row_sectors-row.result in
    let least : 1 * 1 ≤ many * set.geo.head.chunk = mul-le 1 1 many set.geo.head.chunk some (omega arith) in
    omega arith

pub are_all_good-requires-clause-near : goal.are_all_good-requires-clause-near
are_all_good-requires-clause-near c =
    let damage = c.args.damage.now in
    let set = damage.set.now in
    let valid = testable_head set.geo c.requires.set.shape in
    let covered = covers set.geo.head damage.end c.args.first c.args.count c.row_sectors-row.result valid c.row_sectors-row.ensures c.requires.some c.requires.within in
    let some = covered.some in
    let chunk = some_chunk set.geo.head valid in
    let many : ℕ = (c.args.first + c.args.count - 1) / c.row_sectors-row.result + 1 - c.args.first / c.row_sectors-row.result in
    let least : 1 * 1 ≤ many * set.geo.head.chunk = mul-le 1 1 many set.geo.head.chunk some (omega arith) in
    let below : rows set.geo.head damage.end * set.geo.head.chunk ≤ damage.end - set.geo.head.offset = whole_below (damage.end - set.geo.head.offset) set.geo.head.chunk (rows set.geo.head damage.end) refl in
    let near = c.requires.set.near in
    let inside = covered.within in
    omega arith

pub returns : goal.returns
returns c = λ is.
    let damage = c.args.damage.now in
    let set = damage.set.now in
    let valid = testable_head set.geo c.requires.set.shape in
    let row = c.row_sectors-row.result in
    good_beside damage.rescue.now set damage.end c.args.first c.args.count (c.args.first / row) ((c.args.first + c.args.count - 1) / row + 1 - c.args.first / row) valid
    (covers set.geo.head damage.end c.args.first c.args.count row valid c.row_sectors-row.ensures c.requires.some c.requires.within) (c.are_all_good.ensures.0 is)

pub row_sectors-row-requires : goal.row_sectors-row-requires
row_sectors-row-requires c = testable_head c.args.damage.now.set.now.geo c.requires.set.shape
