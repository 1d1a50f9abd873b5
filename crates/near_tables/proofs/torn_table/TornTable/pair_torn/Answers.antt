use Rattle.std.proofs.Common.{sym, ◌∙◌}
use Rattle.raid_params.specs.declared.limits.TheConstants.{MOST}
use Rattle.slot_math.proofs.Held.{image_below}
use Rattle.near_tables.proofs.torn_table.TornTable.pair_torn.Goals as goal

pub bounds-counts-one : goal.bounds-counts-one
bounds-counts-one c = image_below MOST _ c.in-Some-Some.one c.args.slots.now c.requires.images (sym c.held-one.ensures ∙ c.in-Some-Some.is-0)

pub bounds-counts-other : goal.bounds-counts-other
bounds-counts-other c = image_below MOST _ c.in-Some-Some.other c.args.slots.now c.requires.images (sym c.held-other.ensures ∙ c.in-Some-Some.is-1)
