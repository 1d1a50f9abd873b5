use Rattle.std.proofs.Common.{◌≤◌, length, subst, sym, arith}
use Rattle.xor_tables.specs.Xors.{CountRows, RowTable}
use Rattle.xor_tables.proofs.Sectors.{count_more}
use Rattle.xor_tables.proofs.row_tally.RowTally.add_row.Goals as goal

pub returns-clause-counts : goal.returns-clause-counts
returns-clause-counts c = λ bytes offset told before.
    let wide : c.args.images ≤ length c.self.inside.beside = let room = c.self.invariant in omega arith in
    count_more bytes c.args.images c.args.span offset c.args.t (record { all = c.self.inside.all; beside = c.self.inside.beside }) c.args.sum.now
    c.count_row.result c.one_if.result c.requires.some wide told c.one_if.ensures.value c.count_row.ensures.counts
    (subst (λ (t : RowTable). CountRows bytes c.args.images c.args.span offset c.args.t t) (sym c.self.view_is) before)
