use Rattle.std.proofs.Common.{◌≡◌, List, All, sym, subst}
use Rattle.std.specs.declared.option.Option.TheVariants.{None}
use Rattle.raid_params.specs.Validity.{first_fault}
use Rattle.raid_params.specs.declared.types.Geometry.{Geometry}
use Rattle.volume_classes.proofs.ClassLines.{sets_ruled}
use Rattle.volume_classes.proofs.classing.classes.Goals as goal

pub number_sets-requires : goal.number_sets-requires
number_sets-requires c =
    subst (λ (sets : List Geometry). All (λ geo. first_fault geo c.args.images c.args.end ≡ None) sets) (sym c.as_slice.ensures) (sets_ruled c.args.images c.args.end c.args.text.now c.in_ok-sets.sets c.in_ok-sets.ensures)
