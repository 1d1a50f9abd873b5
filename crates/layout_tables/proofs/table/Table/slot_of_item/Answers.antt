use Rattle.std.proofs.Common.{◌<◌, ◌∙◌, ℕ, ap, subst, sym, unwrap_or, Option}
use Rattle.layout_tables.proofs.TableLemmas.{item_below}
use Rattle.layout_tables.proofs.table.Table.slot_of_item.Goals as goal

pub returns-clause-below : goal.returns-clause-below
returns-clause-below c =
    let table = c.args.self.now in
    let is = c.unwrap_or.ensures ∙ ap (λ (o : Option ℕ). unwrap_or o 0) c.slot_with.ensures in
    subst (λ (slot : ℕ). slot < table.slots) (sym is) (item_below table c.args.row c.args.item)
