use Rattle.std.proofs.Common.{◌≡◌, ℕ, ◌<◌, ◌≤◌, ◌||◌, List, Bool, length, arith, ap, ap₂, sym, ◌∙◌, get_or}
use Rattle.std.proofs.lemmas.List.{take_all}
use Rattle.std.proofs.lemmas.List.Folds.{list_any_at, list_any_more}
use Rattle.std.specs.List.{list_any}
use Rattle.landmark_rules.specs.Groups.{origins_for}
use Rattle.mark_tables.specs.Marks.{may_hold, may_hold_at}
use Rattle.mark_tables.proofs.groups.may_hold.Goals as goal

pub returns-then-may_hold_from : goal.returns-then-may_hold_from
unfolding may_hold
returns-then-may_hold_from c =
    let origins : List ℕ = origins_for c.args.beginning.now.plan.now.tests c.args.group.now.kind in
    let long : length c.args.tables.now ≡ length (origins_for c.args.beginning.now.plan.now.tests c.args.group.now.kind) = c.requires.tables.long in
    let within : c.loop-table.table-index < length (origins_for c.args.beginning.now.plan.now.tests c.args.group.now.kind) = let lt = c.loop-table-test.true in omega arith in
    sym (list_any_at (may_hold_at c.args.beginning.now.plan.now c.args.beginning.now.head.now c.args.beginning.now.prefix.now c.args.group.now) origins c.loop-table.table-index 0 within
    (sym (c.may_hold_from.ensures (get_or origins c.loop-table.table-index 0) (c.requires.tables.each c.loop-table.table-index within)) ∙ c.if-may_hold_from.true))

pub loop-table-preserved : goal.loop-table-preserved
loop-table-preserved c =
    let origins : List ℕ = origins_for c.args.beginning.now.plan.now.tests c.args.group.now.kind in
    let long : length c.args.tables.now ≡ length (origins_for c.args.beginning.now.plan.now.tests c.args.group.now.kind) = c.requires.tables.long in
    let within : c.loop-table.table-index < length (origins_for c.args.beginning.now.plan.now.tests c.args.group.now.kind) = let lt = c.loop-table-test.true in omega arith in
    list_any_more (may_hold_at c.args.beginning.now.plan.now c.args.beginning.now.head.now c.args.beginning.now.prefix.now c.args.group.now) origins c.loop-table.table-index 0 within
    ∙ ap₂ (λ (a b : Bool). a || b) c.loop-table.invariant
    (sym (c.may_hold_from.ensures (get_or origins c.loop-table.table-index 0) (c.requires.tables.each c.loop-table.table-index within)) ∙ c.if-may_hold_from.false)

pub returns : goal.returns
unfolding may_hold
returns c =
    let origins : List ℕ = origins_for c.args.beginning.now.plan.now.tests c.args.group.now.kind in
    let long : length c.args.tables.now ≡ length (origins_for c.args.beginning.now.plan.now.tests c.args.group.now.kind) = c.requires.tables.long in
    let all : length (origins_for c.args.beginning.now.plan.now.tests c.args.group.now.kind) ≤ c.loop-table.table-index = let h = c.loop-table-test.false in omega arith in
    sym c.loop-table.invariant
    ∙ ap (list_any (may_hold_at c.args.beginning.now.plan.now c.args.beginning.now.head.now c.args.beginning.now.prefix.now c.args.group.now)) (take_all c.loop-table.table-index origins all)
