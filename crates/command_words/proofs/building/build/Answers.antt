use Rattle.std.proofs.Common.{refl, lit<, ◌^◌, ◌-◌}
use Rattle.raid_params.specs.declared.limits.TheConstants.{MOST}
use Rattle.command_words.specs.declared.table.Name.TheVariants.{Images, Slot}
use Rattle.command_words.proofs.LookUps.{number_below}
use Rattle.command_words.proofs.building.build.Goals as goal

pub small_number-requires : goal.small_number-requires
small_number-requires c = number_below c.args.verb Slot c.args.operands.now 0 (MOST - 1) (2 ^ 8) refl (lit< tt) c.requires

pub small_number-requires-in-Classes : goal.small_number-requires-in-Classes
small_number-requires-in-Classes c = number_below c.args.verb Images c.args.operands.now 1 MOST (2 ^ 8) refl (lit< tt) c.requires
