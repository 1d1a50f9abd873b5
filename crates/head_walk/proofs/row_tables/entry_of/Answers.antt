use Rattle.std.proofs.Common.{◌≡◌, true, false, sym, ◌∙◌}
use Rattle.head_walk.specs.Counts.{asks_samples, asks_tables}
use Rattle.head_walk.proofs.Kept.{or_second, reads_samples}
use Rattle.head_walk.proofs.row_tables.entry_of.Goals as goal

pub returns-in_err-rows-clause-reads : goal.returns-in_err-rows-clause-reads
returns-in_err-rows-clause-reads g c =
    let unasked : asks_tables c.args.plan.now ≡ false = sym c.asks_tables.ensures ∙ c.if-not-asks_tables.true in
    let asks : asks_samples c.args.plan.now ≡ true = or_second (asks_tables c.args.plan.now) (asks_samples c.args.plan.now) unasked c.requires.asks in
    reads_samples c.args.plan.now c.args.offset c.most_rows-tested.result c.as_slice-chunks.result.now _ _ unasked asks c.as_slice-chunks.ensures.value c.most_rows-tested.ensures.value c.read_samples.ensures.reads

pub returns-then-not-asks_tables-clause-reads : goal.returns-then-not-asks_tables-clause-reads
returns-then-not-asks_tables-clause-reads g c =
    let unasked : asks_tables c.args.plan.now ≡ false = sym c.asks_tables.ensures ∙ c.if-not-asks_tables.true in
    let asks : asks_samples c.args.plan.now ≡ true = or_second (asks_tables c.args.plan.now) (asks_samples c.args.plan.now) unasked c.requires.asks in
    reads_samples c.args.plan.now c.args.offset c.most_rows-tested.result c.as_slice-chunks.result.now _ _ unasked asks c.as_slice-chunks.ensures.value c.most_rows-tested.ensures.value c.read_samples.ensures.reads

pub tables_of-requires-clause-asks : goal.tables_of-requires-clause-asks
tables_of-requires-clause-asks g c = sym c.asks_tables.ensures ∙ c.if-not-asks_tables.false
