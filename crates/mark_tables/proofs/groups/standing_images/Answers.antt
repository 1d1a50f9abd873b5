use Rattle.std.proofs.Common.{◌+◌, true, List, Bool, length, ap, refl, sym, subst, ◌∙◌, take}
use Rattle.std.proofs.Math.ListN.{length-set}
use Rattle.raid_params.specs.declared.limits.TheConstants.{MOST}
use Rattle.mark_tables.specs.Tables.{AreStanding}
use Rattle.slot_math.proofs.Held.{image_below}
use Rattle.mark_tables.proofs.Prefixes.{none_stands, standing_add, standing_skip}
use Rattle.mark_tables.proofs.groups.standing_images.Goals as goal
use Rattle.mark_tables.proofs.groups.standing_images.Goals.{in-Some, in_default}

pub bounds-standing-image : goal.bounds-standing-image
bounds-standing-image c = image_below MOST c.loop-held.held-index c.in-Some.image c.args.prefix.now c.requires c.in-Some.is

pub loop-held-init : goal.loop-held-init
loop-held-init c = record { standing = none_stands c.args.prefix.now MOST; room = refl }

pub loop-held-preserved : goal.loop-held-preserved
loop-held-preserved c =
    let Known : List Bool → Type 0 = AreStanding (take (c.loop-held.held-index + 1) c.args.prefix.now) in
    elim c.match-held.branch [
      | in-Some w ↦ record {
        standing = subst Known (sym w.standing-is) (standing_add c.args.prefix.now c.loop-held.held-index w.in-Some.image c.loop-held.standing c.loop-held-test.true w.in-Some.is
            (image_below MOST c.loop-held.held-index w.in-Some.image c.args.prefix.now c.requires w.in-Some.is) c.loop-held.invariant.room c.loop-held.invariant.standing);
        room = ap length w.standing-is ∙ length-set c.loop-held.standing w.in-Some.image true ∙ c.loop-held.invariant.room;
      }
      | in_default w ↦ record {
        standing = subst Known (sym w.standing-is) (standing_skip c.args.prefix.now c.loop-held.held-index c.loop-held.standing c.loop-held-test.true w.in_default.is c.loop-held.invariant.standing);
        room = ap length w.standing-is ∙ c.loop-held.invariant.room;
      }
    ]
