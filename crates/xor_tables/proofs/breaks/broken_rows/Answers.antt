use Rattle.std.proofs.Common.{◌≡◌, true, Some, length, ap, sym, ◌∙◌}
use Rattle.std.specs.Option.{option_map}
use Rattle.raid_params.specs.declared.limits.TheConstants.{MOST}
use Rattle.slot_math.proofs.Held.{more_images}
use Rattle.xor_tables.specs.Rows.{needs_table}
use Rattle.xor_tables.specs.Xors.{rows_hold_by, RowTable}
use Rattle.xor_tables.proofs.Placed.{held_always, held_by, none_broken}
use Rattle.xor_tables.proofs.breaks.broken_rows.Goals as goal

pub returns-then-not-needs_table-clause-answer : goal.returns-then-not-needs_table-clause-answer
returns-then-not-needs_table-clause-answer c = λ prefix is.
    held_always c.args.plan.now c.args.head.now (option_map (λ table. table.now) c.args.table) prefix c.nowhere.result
    (sym c.needs_table.ensures ∙ c.if-not-needs_table.true) (none_broken c.nowhere.result prefix c.nowhere.ensures.none)

pub returns-clause-answer : goal.returns-clause-answer
returns-clause-answer c = λ prefix is.
    let needs : needs_table c.args.plan.now c.args.head.now ≡ true = sym c.needs_table.ensures ∙ c.if-not-needs_table.false in
    held_by c.args.plan.now c.args.head.now c.table.inside.rows prefix c.broken_for.result.always c.broken_for.result.placed c.requires.plan.limits.badrows needs
    (c.broken_for.ensures.sum prefix (more_images (length c.args.plan.now.lengths.items) MOST prefix c.requires.plan.lengths.most is.images))
    ∙ ap (λ (t : RowTable). rows_hold_by (Some t) c.args.plan.now c.args.head.now prefix) c.table.view_is
    ∙ ap (λ o. rows_hold_by (option_map (λ table. table.now) o) c.args.plan.now c.args.head.now prefix) (sym c.in-Some.is)
