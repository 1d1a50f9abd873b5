use Rattle.std.proofs.Common.{refl, lit<, ◌-◌, ◌^◌}
use Rattle.raid_params.specs.declared.limits.TheConstants.{MOST}
use Rattle.command_words.specs.declared.command.Verb.TheVariants.{Mirrors}
use Rattle.command_words.specs.declared.table.Name.TheVariants.{Foreign, Missing}
use Rattle.command_words.proofs.LookUps.{number_below}
use Rattle.command_words.proofs.building.mirrors.Goals as goal

pub small_number-requires : goal.small_number-requires
small_number-requires c = number_below Mirrors Missing c.args.operands.now 0 (MOST - 1) (2 ^ 8) refl (lit< tt) c.requires

pub small_number-requires-2 : goal.small_number-requires-2
small_number-requires-2 c = number_below Mirrors Foreign c.args.operands.now 0 MOST (2 ^ 8) refl (lit< tt) c.requires
