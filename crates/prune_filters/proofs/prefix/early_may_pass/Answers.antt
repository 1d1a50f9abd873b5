use Rattle.std.proofs.Common.{◌≡◌, ℕ, true, ◌&&◌, nat_le, List, Option, sym, ap, ap₂, ◌∙◌, subst}
use Rattle.raid_params.specs.Size.{rows}
use Rattle.raid_params.specs.Validity.{is_valid_head}
use Rattle.raid_params.specs.declared.types.Head.{Head}
use Rattle.search_plan.specs.Plans.{IsPlan}
use Rattle.search_plan.specs.declared.plan.Plan.{Plan}
use Rattle.mark_tables.specs.Marks.{groups_may_hold}
use Rattle.xor_tables.specs.Xors.{rows_hold_by}
use Rattle.prune_filters.proofs.Admitted.{admitted_early, moved_else, moved_then}
use Rattle.prune_filters.proofs.prefix.early_may_pass.Goals as goal

pub returns-then-may_hold-clause-tables : goal.returns-then-may_hold-clause-tables
returns-then-may_hold-clause-tables c =
    let told : c.may_hold.result ≡ (nat_le 1 (rows c.args.rows.now.head c.args.rows.now.plan.end) && rows_hold_by c.args.rows.now.xors c.args.rows.now.plan c.args.rows.now.head c.args.prefix.now.items)
    = c.may_hold.ensures ∙ ap (λ (l : List (Option ℕ)). nat_le 1 (rows c.args.rows.now.head c.args.rows.now.plan.end) && rows_hold_by c.args.rows.now.xors c.args.rows.now.plan c.args.rows.now.head l) c.deref.ensures.0 in
    let marks : c.groups_may_hold.result ≡ groups_may_hold c.args.rows.now.plan c.args.rows.now.head c.args.prefix.now.items
    = c.groups_may_hold.ensures
    ∙ ap₂ (λ (p : Plan) (h : Head). groups_may_hold p h c.deref-then-may_hold.result.now) c.plan-plan.ensures.is c.head-head.ensures.is
    ∙ ap (groups_may_hold c.args.rows.now.plan c.args.rows.now.head) c.deref-then-may_hold.ensures.0 in
    marks ∙ moved_then (nat_le 1 (rows c.args.rows.now.head c.args.rows.now.plan.end)) (groups_may_hold c.args.rows.now.plan c.args.rows.now.head c.args.prefix.now.items) (rows_hold_by c.args.rows.now.xors c.args.rows.now.plan c.args.rows.now.head c.args.prefix.now.items) (sym told ∙ c.if-may_hold.true)

pub returns-else-may_hold-clause-tables : goal.returns-else-may_hold-clause-tables
returns-else-may_hold-clause-tables c =
    let told : c.may_hold.result ≡ (nat_le 1 (rows c.args.rows.now.head c.args.rows.now.plan.end) && rows_hold_by c.args.rows.now.xors c.args.rows.now.plan c.args.rows.now.head c.args.prefix.now.items)
    = c.may_hold.ensures ∙ ap (λ (l : List (Option ℕ)). nat_le 1 (rows c.args.rows.now.head c.args.rows.now.plan.end) && rows_hold_by c.args.rows.now.xors c.args.rows.now.plan c.args.rows.now.head l) c.deref.ensures.0 in
    c.if-may_hold.false ∙ moved_else (nat_le 1 (rows c.args.rows.now.head c.args.rows.now.plan.end)) (groups_may_hold c.args.rows.now.plan c.args.rows.now.head c.args.prefix.now.items) (rows_hold_by c.args.rows.now.xors c.args.rows.now.plan c.args.rows.now.head c.args.prefix.now.items) (sym told ∙ c.if-may_hold.false)

pub returns-then-may_hold-clause-bytes : goal.returns-then-may_hold-clause-bytes
returns-then-may_hold-clause-bytes c = λ bytes there are.
    let told : c.may_hold.result ≡ (nat_le 1 (rows c.args.rows.now.head c.args.rows.now.plan.end) && rows_hold_by c.args.rows.now.xors c.args.rows.now.plan c.args.rows.now.head c.args.prefix.now.items)
    = c.may_hold.ensures ∙ ap (λ (l : List (Option ℕ)). nat_le 1 (rows c.args.rows.now.head c.args.rows.now.plan.end) && rows_hold_by c.args.rows.now.xors c.args.rows.now.plan c.args.rows.now.head l) c.deref.ensures.0 in
    let marks : c.groups_may_hold.result ≡ groups_may_hold c.args.rows.now.plan c.args.rows.now.head c.args.prefix.now.items
    = c.groups_may_hold.ensures
    ∙ ap₂ (λ (p : Plan) (h : Head). groups_may_hold p h c.deref-then-may_hold.result.now) c.plan-plan.ensures.is c.head-head.ensures.is
    ∙ ap (groups_may_hold c.args.rows.now.plan c.args.rows.now.head) c.deref-then-may_hold.ensures.0 in
    marks ∙ moved_then (nat_le 1 (rows c.args.rows.now.head c.args.rows.now.plan.end)) (groups_may_hold c.args.rows.now.plan c.args.rows.now.head c.args.prefix.now.items) (rows_hold_by c.args.rows.now.xors c.args.rows.now.plan c.args.rows.now.head c.args.prefix.now.items) (sym told ∙ c.if-may_hold.true)
    ∙ admitted_early bytes c.args.rows.now.plan c.args.rows.now.head c.args.rows.now.xors c.args.prefix.now.items
    (subst IsPlan c.plan-plan.ensures.is c.plan-plan.ensures.plan) (subst (λ (h : Head). is_valid_head h ≡ true) c.head-head.ensures.is c.head-head.ensures.valid) there are c.requires.prefix

pub returns-else-may_hold-clause-bytes : goal.returns-else-may_hold-clause-bytes
returns-else-may_hold-clause-bytes c = λ bytes there are.
    let told : c.may_hold.result ≡ (nat_le 1 (rows c.args.rows.now.head c.args.rows.now.plan.end) && rows_hold_by c.args.rows.now.xors c.args.rows.now.plan c.args.rows.now.head c.args.prefix.now.items)
    = c.may_hold.ensures ∙ ap (λ (l : List (Option ℕ)). nat_le 1 (rows c.args.rows.now.head c.args.rows.now.plan.end) && rows_hold_by c.args.rows.now.xors c.args.rows.now.plan c.args.rows.now.head l) c.deref.ensures.0 in
    c.if-may_hold.false ∙ moved_else (nat_le 1 (rows c.args.rows.now.head c.args.rows.now.plan.end)) (groups_may_hold c.args.rows.now.plan c.args.rows.now.head c.args.prefix.now.items) (rows_hold_by c.args.rows.now.xors c.args.rows.now.plan c.args.rows.now.head c.args.prefix.now.items) (sym told ∙ c.if-may_hold.false)
    ∙ admitted_early bytes c.args.rows.now.plan c.args.rows.now.head c.args.rows.now.xors c.args.prefix.now.items
    (subst IsPlan c.plan-plan.ensures.is c.plan-plan.ensures.plan) (subst (λ (h : Head). is_valid_head h ≡ true) c.head-head.ensures.is c.head-head.ensures.valid) there are c.requires.prefix
