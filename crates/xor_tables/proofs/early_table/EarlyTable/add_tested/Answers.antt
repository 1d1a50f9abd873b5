use Rattle.std.proofs.Common.{◌≤◌, ℕ, ◌+◌, ◌-◌, min, length, arith, sym, subst, ap, ◌∙◌}
use Rattle.address_map.proofs.Heads.{chunk_above}
use Rattle.xor_tables.specs.Paces.{span}
use Rattle.xor_tables.specs.Xors.{AreSumsOf, CountRows, RowTable}
use Rattle.search_plan.specs.Rows.{tested_with}
use Rattle.xor_tables.proofs.Settled.{counts_on}
use Rattle.xor_tables.proofs.early_table.EarlyTable.add_tested.Goals as goal

pub tested_rows-tested-requires : goal.tested_rows-tested-requires
tested_rows-tested-requires c = record { chunk = chunk_above c.args.pace.chunk c.requires.pace.chunk }

pub returns-then-first-tested-clause-counts : goal.returns-then-first-tested-clause-counts
returns-then-first-tested-clause-counts c = λ bytes told before.
    let few : c.min-rows.result ≤ c.args.count = let rows = c.min-rows.ensures in omega arith in
    let P : ℕ → Type 0 = λ n. AreSumsOf bytes n (c.args.offset + c.args.first) c.min-rows.result c.args.sums.now → CountRows bytes n (span c.args.pace) c.args.offset c.args.first c.args.self.now →
    CountRows bytes n (span c.args.pace) c.args.offset (c.args.first + c.min-rows.result) c.add_rows.new.self in
    let grows : P (length c.args.plan.now.lengths.items) = subst P c.len.ensures.value
    (λ sums old. subst (λ (n : ℕ). CountRows bytes c.len.result n c.args.offset (c.args.first + c.min-rows.result) c.add_rows.new.self) c.span.ensures.is
    (c.add_rows.ensures.counts bytes c.args.offset sums
    (subst (λ (n : ℕ). CountRows bytes c.len.result n c.args.offset c.args.first c.self.inside.rows) (sym c.span.ensures.is)
    (subst (λ (t : RowTable). CountRows bytes c.len.result (span c.args.pace) c.args.offset c.args.first t) (sym c.self.view_is) old)))) in
    counts_on bytes (length c.args.plan.now.lengths.items) (span c.args.pace) c.args.offset c.args.first c.args.count c.min-rows.result (tested_with c.args.plan.now c.args.pace.chunk c.args.offset)
    c.args.self.now c.add_rows.new.self (let below = c.if-first-tested.true in let value = c.tested_rows-tested.ensures.value in omega arith)
    (c.min-rows.ensures ∙ ap (λ (n : ℕ). min (n - c.args.first) c.args.count) c.tested_rows-tested.ensures.value)
    (grows (λ j none lt. told j none (omega arith))) before
