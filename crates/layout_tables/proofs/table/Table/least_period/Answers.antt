use Rattle.std.proofs.Common.{◌-◌, ℕ, Option, unwrap_or, refl, sym, ap, ◌∙◌, rules, tests}
use Rattle.std.proofs.lemmas.Iterator.{YieldsList-from_range}
use Rattle.std.proofs.lemmas.Iterator.Search.{find_from_yields_List}
use Rattle.std.proofs.lemmas.Iterator.Adapters.{option_map_id}
use Rattle.layout_tables.specs.Periods.{least_period, repeats_after}
use Rattle.layout_tables.proofs.table.Table.least_period.Goals as goal

pub returns : goal.returns
unfolding least_period
returns c =
    let table = c.args.self.now in
    c.unwrap_or.ensures
    ∙ ap (λ (o : Option ℕ). unwrap_or o table.period)
    (sym (option_map_id c.find.result)
    ∙ find_from_yields_List (repeats_after table) _ _ c.find.result c.find.ensures.ran (YieldsList-from_range 1 table.period (table.period - 1) (cc) refl) (λ x b q k. search (rules, tests)))
