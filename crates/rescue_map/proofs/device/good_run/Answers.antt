use Rattle.std.proofs.Common.{◌+◌, ◌-◌, arith}
use Rattle.std.proofs.lemmas.Nat.{mod_below}
use Rattle.address_map.proofs.Heads.{some_chunk}
use Rattle.rescue_map.proofs.Adjacent.{later_lies}
use Rattle.rescue_map.proofs.AskedFor.{good_kept}
use Rattle.rescue_map.proofs.Rows.{home_before}
use Rattle.rescue_map.proofs.device.good_run.Goals as goal

pub are_all_good-requires-clause-near : goal.are_all_good-requires-clause-near
are_all_good-requires-clause-near c =
    let damage = c.args.damage.now in
    let set = damage.set.now in
    let n = c.min-run.result in
    let size = c.min-run.ensures in
    let below = mod_below c.args.sector set.geo.head.chunk (some_chunk set.geo.head c.requires.set.head) in
    let some = c.requires.some in
    let within = c.requires.within in
    let near = c.requires.set.near in
    let last = home_before set.geo.head damage.end c.in-Some.home.slot (c.in-Some.home.sector + (n - 1)) (c.args.sector + (n - 1)) c.requires.set.head
    (later_lies set.geo.head c.in-Some.home.slot c.in-Some.home.sector c.args.sector (n - 1) c.in-Some.ensures.lies (omega arith)) (omega arith) in
    omega arith

pub returns-then-are_all_good-clause-none : goal.returns-then-are_all_good-clause-none
returns-then-are_all_good-clause-none c =
    let damage = c.args.damage.now in
    let set = damage.set.now in
    let size = c.min-run.ensures in
    let below = mod_below c.args.sector set.geo.head.chunk (some_chunk set.geo.head c.requires.set.head) in
    good_kept damage.rescue.now set damage.end c.in-Some.home.slot c.in-Some.home.sector c.args.sector c.min-run.result c.requires.set c.in-Some.ensures.lies (omega arith)
    (c.are_all_good.ensures.0 c.if-are_all_good.true)
