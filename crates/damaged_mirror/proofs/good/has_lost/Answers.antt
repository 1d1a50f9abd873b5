use Rattle.std.proofs.Common.{◌+◌, ◌∙◌, sym, arith}
use Rattle.near_mirror.proofs.Heads.{volume_fits}
use Rattle.rescue_map.proofs.AskedFor.{any_none, any_one}
use Rattle.damaged_mirror.specs.Damaged.{is_lost}
use Rattle.damaged_mirror.proofs.good.has_lost.Goals as goal

pub overflow_add-first : goal.overflow_add-first
overflow_add-first c =
    let fits = volume_fits c.args.damage.now.set.now.head c.args.damage.now.end c.requires.set.head c.requires.end in
    let within = c.requires.within in
    let less = c.loop-at-test.true in
    omega arith

pub returns-then-is_lost : goal.returns-then-is_lost
returns-then-is_lost c =
    let damage = c.args.damage.now in
    let less = c.loop-at-test.true in
    sym (any_one (is_lost damage.rescue.now damage.set.now damage.end) c.args.first c.args.count (c.args.first + c.loop-at.at) (omega arith) (omega arith) (sym c.is_lost.ensures ∙ c.if-is_lost.true))

pub returns : goal.returns
returns c =
    let damage = c.args.damage.now in
    let done = c.loop-at-test.false in
    let within = c.loop-at.invariant.within in
    sym (any_none (is_lost damage.rescue.now damage.set.now damage.end) c.args.first c.args.count (λ v low high. c.loop-at.invariant.none v low (omega arith)))
