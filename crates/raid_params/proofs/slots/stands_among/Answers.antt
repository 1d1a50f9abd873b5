use Rattle.std.proofs.Common.{false, rules, tests, ◌==◌}
use Rattle.std.proofs.lemmas.Iterator.{YieldsList-from_slice}
use Rattle.std.proofs.lemmas.Iterator.Search.{any_from_yields_List}
use Rattle.std.specs.Option.{option_map_or}
use Rattle.raid_params.proofs.Counted.{holds_one}
use Rattle.raid_params.proofs.slots.stands_among.Goals as goal

pub returns : goal.returns
returns c = holds_one c.args.image c.args.slots.now c.any.result (any_from_yields_List (λ slot. option_map_or (λ other. c.args.image == other) slot false) _ _ c.any.result c.any.ensures.ran (YieldsList-from_slice _ c.iter.ensures.rest) (λ x b q k. search (rules, tests)))
