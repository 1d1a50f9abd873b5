use Rattle.std.proofs.Common.{◌≡◌, length, take}
use Rattle.raid_params.specs.declared.limits.TheConstants.{MOST}
use Rattle.mark_tables.specs.Tables.{AreStanding}
use Rattle.mark_tables.proofs.groups.standing_images.Given as goal

abbrev pub invariant-loop-held : goal.invariant-loop-held
invariant-loop-held l = record {
  standing : AreStanding (take l.held-index l.prefix) l.standing;
  room : length l.standing ≡ MOST;
}
