use Rattle.std.proofs.Common.{refl}
use Rattle.head_walk.proofs.Kept.{reads_tables}
use Rattle.head_walk.proofs.row_tables.tables_of.Goals as goal

pub returns-in_err-tables-clause-reads : goal.returns-in_err-tables-clause-reads
returns-in_err-tables-clause-reads g c =
    reads_tables c.args.plan.now c.args.offset c.args.plan.now.bounds.chunks.items _ _ c.requires.asks refl c.build_each.ensures.reads

pub returns-clause-reads : goal.returns-clause-reads
returns-clause-reads g c =
    reads_tables c.args.plan.now c.args.offset c.args.plan.now.bounds.chunks.items _ _ c.requires.asks refl c.build_each.ensures.reads
