use Rattle.std.proofs.Common.{rules, ◌≡◌, ◌≤◌, ◌+◌, ◌++◌, ◌∷◌, [], ◌||◌, ℕ, Bool, true, List, subst, sym, ap, ◌∙◌}
use Rattle.outside.specs.Attached.{told_all}
use Rattle.head_walk.specs.Counts.{offset_reads}
use Rattle.head_walk.specs.Walk.{left_reads, needs_entry, Spends}
use Rattle.head_walk.specs.declared.row_tables.OffsetTables.{OffsetTables}
use Rattle.prune_filters.specs.Rows.{needs_samples, needs_table}
use Rattle.head_walk.proofs.Kept.{asks_entry, kept_more, left_holds, left_less, none_left, or_true, spends_made}
use Rattle.head_walk.proofs.row_tables.keep_needed.Goals.{else-not-needs_table-via-then-not-needs_table+else-not-needs_samples, else-not-needs_table-via-else-not-needs_table}
use Rattle.head_walk.proofs.row_tables.keep_needed.Goals as goal

pub entry_of-requires-clause-asks : goal.entry_of-requires-clause-asks
entry_of-requires-clause-asks g c =
    let needs : needs_entry c.args.plan.now c.args.sets.now.head ≡ true = elim c.else-not-needs_table.branch [
      | else-not-needs_table-via-then-not-needs_table+else-not-needs_samples w ↦ or_true (needs_table c.args.plan.now c.args.sets.now.head) (needs_samples c.args.plan.now c.args.sets.now.head) (sym w.needs_samples.ensures ∙ w.if-not-needs_samples.false)
      | else-not-needs_table-via-else-not-needs_table w ↦ ap (λ (b : Bool). b || needs_samples c.args.plan.now c.args.sets.now.head) (sym c.needs_table.ensures ∙ w.if-not-needs_table.false)
    ] in
    asks_entry c.args.plan.now c.args.sets.now.head c.requires.head.listed needs

pub returns-in_err-entry-clause-reads : goal.returns-in_err-entry-clause-reads
returns-in_err-entry-clause-reads g c =
    subst (λ (n : ℕ). Spends (left_reads c.args.plan.now c.args.kept.now) n (g.I.Images.seen c.args.images.now) (g.I.Images.seen c.entry_of.new.images) 0)
    (sym (none_left c.args.plan.now c.args.kept.now c.from_residual.result c.from_residual.ensures.0))
    (spends_made (left_reads c.args.plan.now c.args.kept.now) 0 (offset_reads c.args.plan.now c.args.sets.now.head.offset) _ _
    (left_holds c.args.plan.now c.args.kept.now c.args.sets.now.head.offset c.requires.head.among.offset (sym c.is_kept.ensures ∙ c.if-is_kept.false)) c.entry_of.ensures.reads)

pub returns-in_err-push-clause-reads : goal.returns-in_err-push-clause-reads
returns-in_err-push-clause-reads g c =
    subst (λ (n : ℕ). Spends (left_reads c.args.plan.now c.args.kept.now) n (g.I.Images.seen c.args.images.now) (g.I.Images.seen c.entry_of.new.images) 0)
    (sym (none_left c.args.plan.now c.push.new.self c.from_residual-in_err-push.result c.from_residual-in_err-push.ensures.0))
    (spends_made (left_reads c.args.plan.now c.args.kept.now) 0 (offset_reads c.args.plan.now c.args.sets.now.head.offset) _ _
    (left_holds c.args.plan.now c.args.kept.now c.args.sets.now.head.offset c.requires.head.among.offset (sym c.is_kept.ensures ∙ c.if-is_kept.false)) c.entry_of.ensures.reads)

pub returns-clause-kept : goal.returns-clause-kept
returns-clause-kept g c =
    let pushed : c.push.new.self ≡ c.args.kept.now ++ c.in_ok-entry.entry ∷ [] = search rules in
    kept_more (told_all (g.I.Images.seen c.args.images.now).attached) c.args.plan.now c.args.kept.now c.push.new.self c.in_ok-entry.entry pushed c.requires.kept c.in_ok-entry.ensures.kept

pub returns-clause-reads : goal.returns-clause-reads
returns-clause-reads g c =
    let pushed : c.push.new.self ≡ c.args.kept.now ++ c.in_ok-entry.entry ∷ [] = search rules in
    let at : c.in_ok-entry.entry.offset ≡ c.args.sets.now.head.offset = c.in_ok-entry.ensures.offset in
    let P : ℕ → Type 0 = λ n. left_reads c.args.plan.now (c.args.kept.now ++ c.in_ok-entry.entry ∷ []) + offset_reads c.args.plan.now n ≤ left_reads c.args.plan.now c.args.kept.now in
    let less : left_reads c.args.plan.now c.push.new.self + offset_reads c.args.plan.now c.args.sets.now.head.offset ≤ left_reads c.args.plan.now c.args.kept.now
    = subst (λ (l : List OffsetTables). left_reads c.args.plan.now l + offset_reads c.args.plan.now c.args.sets.now.head.offset ≤ left_reads c.args.plan.now c.args.kept.now) (sym pushed)
    (subst P at (left_less c.args.plan.now c.args.kept.now c.in_ok-entry.entry (rw at c.requires.head.among.offset) (rw at (sym c.is_kept.ensures ∙ c.if-is_kept.false)))) in
    spends_made (left_reads c.args.plan.now c.args.kept.now) (left_reads c.args.plan.now c.push.new.self) (offset_reads c.args.plan.now c.args.sets.now.head.offset) _ _ less c.entry_of.ensures.reads
