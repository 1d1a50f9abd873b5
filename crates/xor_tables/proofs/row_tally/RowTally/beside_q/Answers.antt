use Rattle.std.proofs.Common.{sym}
use Rattle.raid_params.specs.declared.limits.TheConstants.{MOST}
use Rattle.xor_tables.proofs.Turns.{on_q_below}
use Rattle.xor_tables.proofs.row_tally.RowTally.beside_q.Goals as goal

pub bounds-self-inside-image : goal.bounds-self-inside-image
bounds-self-inside-image c = on_q_below MOST c.args.head.now c.args.prefix.now c.first_row.result c.in-Some.image c.requires.images (sym c.in-Some.ensures)
