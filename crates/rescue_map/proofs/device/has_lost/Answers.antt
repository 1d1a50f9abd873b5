use Rattle.std.proofs.Common.{◌+◌, sym, arith}
use Rattle.rescue_map.specs.Damaged.{is_lost}
use Rattle.rescue_map.proofs.AskedFor.{any_none, any_one}
use Rattle.rescue_map.proofs.Passed.{damage_of, volume_short}
use Rattle.rescue_map.proofs.device.has_lost.Goals as goal

pub overflow_add-first : goal.overflow_add-first
overflow_add-first c =
    let damage = c.args.damage.now in
    let short = volume_short damage.set.now damage.end (damage_of damage.set.now damage.end c.requires.set.shape c.requires.set.near) in
    let within = c.requires.within in
    let less = c.loop-at-test.true in
    omega arith

pub kept_run-kept-requires-clause-set : goal.kept_run-kept-requires-clause-set
kept_run-kept-requires-clause-set c = damage_of c.args.damage.now.set.now c.args.damage.now.end c.requires.set.shape c.requires.set.near

pub returns-then-kept-eq0 : goal.returns-then-kept-eq0
returns-then-kept-eq0 c =
    let damage = c.args.damage.now in
    let less = c.loop-at-test.true in
    let none = c.if-kept-eq0.true in
    sym (any_one (is_lost damage.rescue.now damage.set.now) c.args.first c.args.count (c.args.first + c.loop-at.at) (omega arith) (omega arith) (c.kept_run-kept.ensures.lost (omega arith)))

pub returns : goal.returns
returns c =
    let damage = c.args.damage.now in
    let done = c.loop-at-test.false in
    let within = c.loop-at.invariant.within in
    sym (any_none (is_lost damage.rescue.now damage.set.now) c.args.first c.args.count (λ v low high. c.loop-at.invariant.none v low (omega arith)))
