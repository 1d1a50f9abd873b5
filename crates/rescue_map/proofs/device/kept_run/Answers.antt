use Rattle.std.proofs.Common.{ℕ, ◌≡◌, false, subst, arith}
use Rattle.rescue_map.specs.Damaged.{is_lost}
use Rattle.rescue_map.specs.Ways.{IsWay}
use Rattle.rescue_map.proofs.AskedFor.{known_kept}
use Rattle.rescue_map.proofs.Found.{solved_not_lost}
use Rattle.rescue_map.proofs.device.kept_run.Goals as goal

pub returns-in-Known-clause-none : goal.returns-in-Known-clause-none
returns-in-Known-clause-none c =
    let damage = c.args.damage.now in
    known_kept damage.rescue.now damage.set.now c.args.sector c.in-Known.count (subst (IsWay damage.rescue.now damage.set.now c.args.sector) c.in-Known.is c.way_of.ensures.way).known

pub returns-in-Found-clause-none : goal.returns-in-Found-clause-none
returns-in-Found-clause-none c = λ v low high.
    let damage = c.args.damage.now in
    let at : c.args.sector ≡ v = omega arith in
    subst (λ (w : ℕ). is_lost damage.rescue.now damage.set.now w ≡ false) at
    (solved_not_lost damage.rescue.now damage.set.now c.args.sector (subst (IsWay damage.rescue.now damage.set.now c.args.sector) c.in-Found.is c.way_of.ensures.way).few)

pub returns-in-Lost-clause-lost : goal.returns-in-Lost-clause-lost
returns-in-Lost-clause-lost c = λ none.
    let damage = c.args.damage.now in
    subst (IsWay damage.rescue.now damage.set.now c.args.sector) c.in-Lost.is c.way_of.ensures.way
