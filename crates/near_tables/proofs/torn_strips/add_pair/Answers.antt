use Rattle.std.proofs.Common.{◌≡◌, ◌/◌, ◌%◌, ◌<◌, ◌≤◌, ℕ, [], length, get_or, refl, sym, subst, arith}
use Rattle.std.proofs.lemmas.List.{get_or_read_under}
use Rattle.member_regions.specs.Regions.{IsRoomFor, Room}
use Rattle.member_regions.specs.declared.regions.TheConstants.{BLOCK}
use Rattle.near_tables.proofs.torn_strips.add_pair.Goals as goal

-- room for a block is room for less, in the same region
room_for : (many rest : ℕ) (room region : Room) → room ≡ region → rest ≤ BLOCK → IsRoomFor many BLOCK region → IsRoomFor many rest room
room_for many rest room region e fits blocks =
    let wide = blocks.many in
    let long = blocks.long in
    subst (λ (r : Room). IsRoomFor many rest r) (sym e) (record { many = wide; long = omega arith })

pub add_images-requires-clause-first : goal.add_images-requires-clause-first
add_images-requires-clause-first c =
    let none : Room = record { members = 0; stride = 0; bytes = [] } in
    let long = c.requires.room.lanes in
    let fits = c.requires.fits in
    let few : c.rest_at-rest.result ≤ BLOCK = let rest = c.rest_at-rest.ensures in omega arith in
    let up = c.if-least-next.true in
    let lt = c.if-next-copies.true in
    let from = c.from-copies.ensures in
    let lane : c.args.pair / 4 < length c.args.strips.now.lanes.items = omega arith in
    room_for c.args.strips.now.many c.rest_at-rest.result c.index.result.now (get_or c.args.strips.now.lanes.items (c.args.pair / 4) none)
    (get_or_read_under c.args.strips.now.lanes.items (c.args.pair / 4) (length c.args.strips.now.lanes.items) c.index.result.now none c.index.ensures lane refl)
    few (c.requires.room.blocks (c.args.pair / 4) (omega arith))

pub add_images-requires-clause-second : goal.add_images-requires-clause-second
add_images-requires-clause-second c =
    let none : Room = record { members = 0; stride = 0; bytes = [] } in
    let long = c.requires.room.lanes in
    let fits = c.requires.fits in
    let few : c.rest_at-rest.result ≤ BLOCK = let rest = c.rest_at-rest.ensures in omega arith in
    let lt = c.if-next-copies.true in
    let from = c.from-copies.ensures in
    let next : c.args.pair % 4 < length c.args.strips.now.lanes.items = omega arith in
    room_for c.args.strips.now.many c.rest_at-rest.result c.index-then-next-copies.result.now (get_or c.args.strips.now.lanes.items (c.args.pair % 4) none)
    (get_or_read_under c.args.strips.now.lanes.items (c.args.pair % 4) (length c.args.strips.now.lanes.items) c.index-then-next-copies.result.now none c.index-then-next-copies.ensures next refl)
    few (c.requires.room.blocks (c.args.pair % 4) (omega arith))

pub returns-then-next-copies : goal.returns-then-next-copies
returns-then-next-copies c =
    let none : Room = record { members = 0; stride = 0; bytes = [] } in
    let long = c.requires.room.lanes in
    let lane : c.args.pair / 4 < length c.args.strips.now.lanes.items = let up = c.if-least-next.true in let lt = c.if-next-copies.true in let from = c.from-copies.ensures in omega arith in
    let next : c.args.pair % 4 < length c.args.strips.now.lanes.items = let lt = c.if-next-copies.true in let from = c.from-copies.ensures in omega arith in
    let first : c.index.result.now ≡ get_or c.args.strips.now.lanes.items (c.args.pair / 4) none
    = get_or_read_under c.args.strips.now.lanes.items (c.args.pair / 4) (length c.args.strips.now.lanes.items) c.index.result.now none c.index.ensures lane refl in
    let second : c.index-then-next-copies.result.now ≡ get_or c.args.strips.now.lanes.items (c.args.pair % 4) none
    = get_or_read_under c.args.strips.now.lanes.items (c.args.pair % 4) (length c.args.strips.now.lanes.items) c.index-then-next-copies.result.now none c.index-then-next-copies.ensures next refl in
    λ one other up least low below. rw (← first, ← second, ← c.rest_at-rest.ensures) (c.add_images.ensures one other low below)
