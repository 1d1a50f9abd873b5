use Rattle.std.proofs.Common.{◌≡◌, ℕ, arith, length, subst}
use Rattle.volume_classes.specs.declared.units.TheConstants.{UNIT_BYTES}
use Rattle.volume_classes.proofs.SlotSectors.{AreUnitsTo, units_all, units_none}
use Rattle.volume_classes.proofs.units.units_of.Goals as goal

pub loop-place-init : goal.loop-place-init
loop-place-init c = units_none c.args.slots.now UNIT_BYTES

pub returns : goal.returns
returns c =
    let all : c.loop-place.place ≡ length c.args.slots.now = omega arith in
    units_all c.args.slots.now UNIT_BYTES c.loop-place.sectors (let few = c.requires in omega arith) (subst (λ (n : ℕ). AreUnitsTo c.args.slots.now UNIT_BYTES n c.loop-place.sectors) all c.loop-place.invariant)
