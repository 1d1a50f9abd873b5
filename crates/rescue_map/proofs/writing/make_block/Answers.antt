use Rattle.std.proofs.Common.{ℕ, ◌≡◌, ◌+◌, ◌/◌, ◌<◌, length, ap, arith}
use Rattle.outside.specs.Attached.{told_all}
use Rattle.member_regions.proofs.IfTold.{if_told}
use Rattle.rescue_map.specs.Salvaged.{salvaged_sectors, IsRead}
use Rattle.rescue_map.proofs.Blocks.{room_same, salvaged_are}
use Rattle.rescue_map.proofs.writing.make_block.Goals as goal

pub read_block-requires-clause-room : goal.read_block-requires-clause-room
read_block-requires-clause-room g c =
    let n = length c.args.block.now / 512 in
    let slots = length c.args.damage.now.set.now.geo.slots.items in
    record {
      within = omega (arith, c.requires.block.within);
      sectors = omega arith;
      room = room_same slots 0 n n (length c.args.rows.now) c.requires.block.room (omega arith);
    }

pub fill_block-requires-clause-block : goal.fill_block-requires-clause-block
fill_block-requires-clause-block g c κs within =
    let n = length c.args.block.now / 512 in
    let slots = length c.args.damage.now.set.now.geo.slots.items in
    let block : length c.read_block.new.block ≡ length c.args.block.now = c.read_block.ensures.lengths.block in
    let rows : length c.read_block.new.rows ≡ length c.args.rows.now = c.read_block.ensures.lengths.rows in
    let room = room_same slots 0 n (0 + length c.read_block.new.block / 512) (length c.args.rows.now) c.requires.block.room (omega arith) in
    record {
      whole = omega (arith, c.requires.block.whole);
      within = omega (arith, c.requires.block.within);
      room = omega arith;
    }

pub returns-clause-told : goal.returns-clause-told
returns-clause-told g c =
    let damage = c.args.damage.now in
    let n = length c.args.block.now / 512 in
    let whole = c.requires.block.whole in
    let before : length c.read_block.new.block ≡ length c.args.block.now = c.read_block.ensures.lengths.block in
    let after : length c.fill_block.new.block ≡ length c.read_block.new.block = c.fill_block.ensures.long in
    let same : length c.read_block.new.block / 512 ≡ n = ap (λ (k : ℕ). k / 512) before in
    if_told (told_all (g.I.Images.seen c.args.images.now).attached)
    (λ bytes. (j : ℕ) → j < n → IsRead bytes damage.rescue.now damage.set.now c.args.first c.read_block.new.rows c.read_block.new.block j)
    (λ bytes. c.fill_block.new.block ≡ salvaged_sectors bytes damage.rescue.now damage.set.now c.args.first n)
    (λ bytes read. salvaged_are bytes damage.rescue.now damage.set.now c.args.first n c.read_block.new.rows c.read_block.new.block c.fill_block.new.block (omega arith) read
    (λ j less. c.fill_block.ensures.filled j (omega arith)))
    c.in_ok-found.ensures.told
