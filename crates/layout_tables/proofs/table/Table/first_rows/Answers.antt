use Rattle.std.proofs.Common.{◌<◌, ℕ, List, [], get_or, set, ap, ◌∙◌, arith}
use Rattle.layout_tables.proofs.Reducing.{taken_more}
use Rattle.layout_tables.proofs.TableLemmas.{period_few, room}
use Rattle.layout_tables.proofs.table.Table.first_rows.Goals as goal

pub loop-at-preserved : goal.loop-at-preserved
loop-at-preserved c =
    let table = c.args.self.now in
    let few = period_few table in
    let asked = c.requires in
    let below : c.loop-at.at < 64 = omega (arith, c.from-at-end.ensures) in
    ap (λ (grid : List (List ℕ)). set grid c.loop-at.at (get_or table.grid c.loop-at.at [])) c.loop-at.invariant ∙ taken_more table.grid c.loop-at.at (room table) below
