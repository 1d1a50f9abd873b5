use Rattle.std.proofs.Common.{ℕ, ◌≡◌, ◌+◌, ◌*◌, ◌≤◌, sym, subst, OnOk, arith}
use Rattle.std.proofs.lemmas.Nat.{mul-le}
use Rattle.address_map.proofs.Heads.{some_chunk}
use Rattle.raid_params.specs.Size.{data_blocks, volume_sectors}
use Rattle.rescue_map.specs.Damaged.{is_lost}
use Rattle.rescue_map.specs.LostText.{HasRuns}
use Rattle.rescue_map.proofs.Runs.{runs_before}
use Rattle.rescue_map.proofs.Passed.{none_lost, rows_near, rows_within, some_sectors, volume_short}
use Rattle.rescue_map.proofs.lost.+add_rows.Goals as goal

pub are_all_good-requires-clause-some : goal.are_all_good-requires-clause-some
are_all_good-requires-clause-some t c =
    let set = c.args.damage.now.set.now in
    let chunk = some_chunk set.geo.head c.requires.set.head in
    let least : 1 * 1 ≤ c.args.count * set.geo.head.chunk = mul-le 1 1 c.args.count set.geo.head.chunk (omega arith) (omega arith) in
    omega arith

pub are_all_good-requires-clause-near : goal.are_all_good-requires-clause-near
are_all_good-requires-clause-near t c =
    let damage = c.args.damage.now in
    rows_near damage.set.now damage.end c.args.first c.args.count c.requires.set (omega arith) c.requires.within

pub overflow_mul-count-then-are_all_good : goal.overflow_mul-count-then-are_all_good
overflow_mul-count-then-are_all_good t c =
    let damage = c.args.damage.now in
    let set = damage.set.now in
    let within = c.requires.within in
    let inside = rows_within set damage.end c.args.count (omega arith) in
    let short = volume_short set damage.end c.requires.set in
    rw c.data_blocks.ensures (omega arith)

pub pass-requires-clause-some : goal.pass-requires-clause-some
pass-requires-clause-some t c =
    let damage = c.args.damage.now in
    rw c.data_blocks.ensures (some_sectors damage.set.now damage.end c.args.count c.requires.set (omega arith))

pub pass-requires-clause-before : goal.pass-requires-clause-before
pass-requires-clause-before t c =
    let damage = c.args.damage.now in
    rw c.data_blocks.ensures (runs_before (is_lost damage.rescue.now damage.set.now) (volume_sectors damage.set.now.geo.head damage.end) (c.args.first * (damage.set.now.geo.head.chunk * data_blocks damage.set.now.geo.head)) c.args.runs.now c.requires.runs).0

pub pass-requires-clause-good : goal.pass-requires-clause-good
pass-requires-clause-good t c =
    let damage = c.args.damage.now in
    rw c.data_blocks.ensures (runs_before (is_lost damage.rescue.now damage.set.now) (volume_sectors damage.set.now.geo.head damage.end) (c.args.first * (damage.set.now.geo.head.chunk * data_blocks damage.set.now.geo.head)) c.args.runs.now c.requires.runs).1

parts : (first count s : ℕ) → first * s + count * s ≡ (first + count) * s
parts first count s = grind arith

pub pass-requires-clause-room : goal.pass-requires-clause-room
pass-requires-clause-room t c =
    let damage = c.args.damage.now in
    let set = damage.set.now in
    let inside = rows_within set damage.end (c.args.first + c.args.count) c.requires.within in
    let short = volume_short set damage.end c.requires.set in
    let e = parts c.args.first c.args.count (set.geo.head.chunk * data_blocks set.geo.head) in
    rw c.data_blocks.ensures (omega arith)

pub returns-then-are_all_good : goal.returns-then-are_all_good
returns-then-are_all_good t c =
    let damage = c.args.damage.now in
    let set = damage.set.now in
    let lost = is_lost damage.rescue.now set in
    let sectors = volume_sectors set.geo.head damage.end in
    let d : c.data_blocks.result ≡ data_blocks set.geo.head = c.data_blocks.ensures in
    let e = parts c.args.first c.args.count (set.geo.head.chunk * data_blocks set.geo.head) in
    let inside = rows_within set damage.end (c.args.first + c.args.count) c.requires.within in
    let none = none_lost damage.rescue.now set damage.end c.args.first c.args.count c.requires.set (c.are_all_good.ensures.0 c.if-are_all_good.true) in
    let told : OnOk c.pass.result (HasRuns lost sectors (c.args.first * (set.geo.head.chunk * c.data_blocks.result) + c.args.count * (set.geo.head.chunk * c.data_blocks.result)) c.pass.new.self) =
    c.pass.ensures lost sectors
    (subst (λ (k : ℕ). HasRuns lost sectors (c.args.first * (set.geo.head.chunk * k)) c.args.runs.now) (sym d) c.requires.runs)
    (rw d (omega arith))
    (rw d (λ w low high. none w low (omega arith))) in
    subst (λ (k : ℕ). OnOk c.pass.result (HasRuns lost sectors k c.pass.new.self)) e
    (subst (λ (k : ℕ). OnOk c.pass.result (HasRuns lost sectors (c.args.first * (set.geo.head.chunk * k) + c.args.count * (set.geo.head.chunk * k)) c.pass.new.self)) d told)

pub overflow_mul-first-then-count-eq1-2 : goal.overflow_mul-first-then-count-eq1-2
overflow_mul-first-then-count-eq1-2 t c =
    let damage = c.args.damage.now in
    let set = damage.set.now in
    let within = c.requires.within in
    let one = c.if-count-eq1.true in
    let inside = rows_within set damage.end (c.args.first + 1) (omega arith) in
    let short = volume_short set damage.end c.requires.set in
    rw c.data_blocks.ensures (omega arith)
