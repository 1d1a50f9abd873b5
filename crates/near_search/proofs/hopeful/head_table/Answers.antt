use Rattle.std.proofs.Common.{◌≤◌, arith}
use Rattle.near_mirror.specs.Copies.{near_chunks}
use Rattle.near_tables.proofs.Reaches.{reaches_end}
use Rattle.near_search.proofs.hopeful.head_table.Goals as goal

pub build-requires-clause-reach : goal.build-requires-clause-reach
build-requires-clause-reach g c = λ k d lt lane below.
    let count = c.volume_chunks.ensures in
    let ne = c.if-volume_chunks-eq0.false in
    let some : 1 ≤ near_chunks c.args.head.now c.args.ask.now.end = omega arith in
    let ends = c.requires.images.long k d lt in
    let limit = c.tested_sectors-limit.ensures in
    let reach = reaches_end c.args.head.now c.args.ask.now.end c.args.ask.now.window some lane below in
    omega arith

pub build-requires-clause-near : goal.build-requires-clause-near
build-requires-clause-near g c = λ lane below.
    let count = c.volume_chunks.ensures in
    let ne = c.if-volume_chunks-eq0.false in
    let some : 1 ≤ near_chunks c.args.head.now c.args.ask.now.end = omega arith in
    let end = c.requires.ask.end in
    let limit = c.tested_sectors-limit.ensures in
    let reach = reaches_end c.args.head.now c.args.ask.now.end c.args.ask.now.window some lane below in
    omega arith
