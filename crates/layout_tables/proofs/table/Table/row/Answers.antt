use Rattle.std.proofs.Common.{ℕ, [], get_or, take, ap, ◌∙◌}
use Rattle.layout_tables.proofs.TableLemmas.{room, row_in_grid}
use Rattle.layout_tables.proofs.table.Table.row.Goals as goal

pub returns-clause-bytes : goal.returns-clause-bytes
returns-clause-bytes c =
    let table = c.args.self.now in
    ap (λ (n : ℕ). take n (get_or table.grid c.place.result [])) c.from.ensures
    ∙ ap (λ (n : ℕ). take table.slots (get_or table.grid n [])) c.place.ensures.place
    ∙ row_in_grid table c.args.row [] (room table)
