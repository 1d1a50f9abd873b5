use Rattle.std.proofs.Common.{ℕ, IsSomeAnd, length, nat_le, ap, sym, subst, ◌∙◌}
use Rattle.std.specs.Option.{option_map}
use Rattle.xor_tables.specs.Paces.{pace_of}
use Rattle.xor_tables.specs.Xors.{IsXorTable, RowTable}
use Rattle.raid_params.specs.declared.limits.TheConstants.{MOST}
use Rattle.slot_math.proofs.Held.{more_images}
use Rattle.xor_tables.proofs.Turns.{rows_known, rows_unasked}
use Rattle.xor_tables.proofs.rows.rows_may_hold.Goals as goal

pub broken_rows-requires-clause-images : goal.broken_rows-requires-clause-images
broken_rows-requires-clause-images c = more_images (length c.args.plan.now.lengths.items) MOST c.args.prefix.now c.requires.plan.lengths.most c.requires.prefix.images

pub returns-then-not-needs_table-clause-bytes : goal.returns-then-not-needs_table-clause-bytes
returns-then-not-needs_table-clause-bytes c = λ bytes are.
    sym (rows_unasked bytes c.args.plan.now c.args.head.now c.args.prefix.now (sym c.needs_table.ensures ∙ c.if-not-needs_table.true))

pub returns-clause-bytes : goal.returns-clause-bytes
returns-clause-bytes c = λ bytes are.
    let needs = sym c.needs_table.ensures ∙ c.if-not-needs_table.false in
    let known : IsXorTable bytes c.args.plan.now (pace_of c.args.head.now) c.args.head.now.offset c.in-Some.table.now
    = subst (λ o. IsSomeAnd (option_map (λ table. table.now) o) (λ table. IsXorTable bytes c.args.plan.now (pace_of c.args.head.now) c.args.head.now.offset table)) c.in-Some.is (are needs) in
    ap (λ (n : ℕ). nat_le n c.args.plan.now.limits.badrows) c.broken_rows.ensures
    ∙ rows_known bytes c.args.plan.now c.args.head.now c.args.prefix.now c.table.inside.rows c.requires.head c.requires.plan c.requires.prefix needs
    (subst (λ (t : RowTable). IsXorTable bytes c.args.plan.now (pace_of c.args.head.now) c.args.head.now.offset t) (sym c.table.view_is) known)
