use Rattle.std.proofs.Common.{ℕ, ◌≡◌, ◌/◌, max, ap, arith}
use Rattle.address_map.proofs.Heads.{some_chunk}
use Rattle.volume_device.specs.Cost.{row_sectors}
use Rattle.volume_device.specs.Kept.{most_kept}
use Rattle.volume_device.proofs.Rows.{most_fits, most_short, most_some, row_some, step_same}
use Rattle.volume_device.proofs.ranges.step_of.Goals as goal

pub nonzero_div-most : goal.nonzero_div-most
nonzero_div-most c = some_chunk c.args.head.now c.requires.head

pub step_sectors-requires-clause-row : goal.step_sectors-requires-clause-row
step_sectors-requires-clause-row c =
    let some = row_some c.args.head.now c.requires.head in
    omega (arith, c.row_sectors.ensures)

pub step_sectors-requires-clause-most : goal.step_sectors-requires-clause-most
step_sectors-requires-clause-most c =
    let head = c.args.head.now in
    let most : c.max.result ≡ max head.chunk 256 = omega (arith, c.max.ensures) in
    let same : c.max.result / head.chunk ≡ max head.chunk 256 / head.chunk = ap (λ (n : ℕ). n / head.chunk) most in
    most_some head.chunk (c.max.result / head.chunk) (some_chunk head c.requires.head) same

pub step_sectors-requires-clause-fits : goal.step_sectors-requires-clause-fits
step_sectors-requires-clause-fits c =
    let head = c.args.head.now in
    let most : c.max.result ≡ max head.chunk 256 = omega (arith, c.max.ensures) in
    let same : c.max.result / head.chunk ≡ max head.chunk 256 / head.chunk = ap (λ (n : ℕ). n / head.chunk) most in
    most_fits head (c.max.result / head.chunk) c.row_sectors.result c.requires.head c.row_sectors.ensures (most_short head.chunk (c.max.result / head.chunk) same)

pub returns : goal.returns
returns c =
    let head = c.args.head.now in
    let most : c.max.result ≡ most_kept head = omega (arith, c.max.ensures) in
    step_same (row_sectors head) c.row_sectors.result (most_kept head / head.chunk) (c.max.result / head.chunk) c.args.first c.args.left c.step_sectors.result c.row_sectors.ensures
    (ap (λ (n : ℕ). n / head.chunk) most) c.step_sectors.ensures
