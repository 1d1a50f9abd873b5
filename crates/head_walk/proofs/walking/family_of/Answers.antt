use Rattle.std.proofs.Common.{None, length, sym, ◌∙◌}
use Rattle.std.specs.Option.{option_map}
use Rattle.prune_filters.specs.Early.{AreEarlyTables, HasEarlyTable}
use Rattle.prune_filters.specs.Paces.{paces_of}
use Rattle.head_walk.specs.Counts.{asks_tables}
use Rattle.head_walk.proofs.Kept.{kept_at, no_table}
use Rattle.head_walk.proofs.Relating.{lying_some, none_lie, row_images_some}
use Rattle.head_walk.proofs.Sifting.{admits_sifted, family_admits, told_table}
use Rattle.head_walk.proofs.walking.family_of.Goals as goal

pub returns-then-not-needs_samples-clause-admits : goal.returns-then-not-needs_samples-clause-admits
returns-then-not-needs_samples-clause-admits c =
    family_admits c.args.plan.now c.args.sets.now.head c.args.kept.now (record { plan = c.args.plan.now; head = c.args.sets.now.head; space = c.args.sets.now.space; xors = None }) None c.new.result c.new.ensures.asked c.new.ensures.rows
    (λ told all. admits_sifted told c.args.plan.now c.args.sets.now.head c.args.sets.now.space None c.requires.plan c.requires.head.head c.requires.head.among
    (no_table told c.args.plan.now c.args.sets.now.head (sym c.needs_table.ensures ∙ c.if-not-needs_table.true))
    None (none_lie told (length c.args.plan.now.lengths.items) c.args.sets.now.head.offset))

pub table_for-table-requires-clause-long : goal.table_for-table-requires-clause-long
table_for-table-requires-clause-long c =
    (kept_at c.requires.kept.0 c.args.plan.now c.args.kept.now c.entry_at-entry.ensures.0 c.entry_at-entry.result.now c.requires.kept.1 c.entry_at-entry.ensures.1).long

pub new-requires-2-clause-row_images : goal.new-requires-2-clause-row_images
new-requires-2-clause-row_images c =
    row_images_some (λ r. r.now) (length c.args.plan.now.lengths.items) c.entry_at-entry.result.now.rows c.rows_for-rows.result c.rows_for-rows.ensures.is
    (kept_at c.requires.kept.0 c.args.plan.now c.args.kept.now c.entry_at-entry.ensures.0 c.entry_at-entry.result.now c.requires.kept.1 c.entry_at-entry.ensures.1).row_images

pub returns-clause-admits : goal.returns-clause-admits
returns-clause-admits c =
    family_admits c.args.plan.now c.args.sets.now.head c.args.kept.now (record { plan = c.args.plan.now; head = c.args.sets.now.head; space = c.args.sets.now.space; xors = option_map (λ table. table.now) c.table_for-table.result })
    (option_map (λ r. r.now.list) c.rows_for-rows.result) c.new-2.result c.new-2.ensures.asked c.new-2.ensures.rows
    (λ told all.
    let kept = kept_at told c.args.plan.now c.args.kept.now c.entry_at-entry.ensures.0 c.entry_at-entry.result.now all c.entry_at-entry.ensures.1 in
    admits_sifted told c.args.plan.now c.args.sets.now.head c.args.sets.now.space (option_map (λ table. table.now) c.table_for-table.result)
    c.requires.plan c.requires.head.head c.requires.head.among
    (told_table told (asks_tables c.args.plan.now) (λ bytes. AreEarlyTables bytes c.args.plan.now (paces_of c.args.plan.now) c.entry_at-entry.result.now.offset c.entry_at-entry.result.now.tables.items)
    (λ bytes. HasEarlyTable bytes c.args.plan.now c.args.sets.now.head (option_map (λ table. table.now) c.table_for-table.result)) c.table_for-table.ensures.table kept.tables)
    (option_map (λ r. r.now.list) c.rows_for-rows.result)
    (lying_some (λ r. r.now) told (length c.args.plan.now.lengths.items) c.args.sets.now.head.offset c.entry_at-entry.result.now.offset c.entry_at-entry.result.now.rows c.rows_for-rows.result c.rows_for-rows.ensures.is
    c.entry_at-entry.ensures.2 kept.rows))
