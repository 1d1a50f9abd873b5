-- The names of layouts. mdadm's --layout takes them at levels 5 and 6. At level 0 it does not: "raid0"
-- is the name of the level. That md's own names go with the order of Q after Q, and the DDF names with
-- the order by slots, is a choice of this project.
use Rattle.std.specs.Prelude.{ℕ, List, codes}
use Rattle.std.specs.declared.option.Option.{Option}
use Rattle.std.specs.declared.option.Option.TheVariants.{None, Some}
use Rattle.raid_params.specs.declared.types.Level.{Level}
use Rattle.raid_params.specs.declared.types.Level.TheVariants.{Raid0, Raid5, Raid6}
use Rattle.raid_params.specs.declared.types.Pattern.{Pattern}
use Rattle.raid_params.specs.declared.types.Pattern.TheVariants.{Plain, La, Ra, Ls, Rs, ParityFirst, ParityLast, NRestart, NContinue, La6, Ra6, Ls6, Rs6, ParityFirst6}
use Rattle.raid_params.specs.declared.types.Syndrome.{Syndrome}
use Rattle.raid_params.specs.declared.types.Syndrome.TheVariants.{NoQ, AfterQ, BySlot}

-- the patterns that levels 5 and 6 have in common
abbrev pub rotation_name : Pattern → Option (List ℕ)
rotation_name La = Some (codes "left-asymmetric")
rotation_name Ra = Some (codes "right-asymmetric")
rotation_name Ls = Some (codes "left-symmetric")
rotation_name Rs = Some (codes "right-symmetric")
rotation_name ParityFirst = Some (codes "parity-first")
rotation_name ParityLast = Some (codes "parity-last")
rotation_name _ = None

-- those of level 6 with Q on the last slot
abbrev pub last_q_name : Pattern → Option (List ℕ)
last_q_name La6 = Some (codes "left-asymmetric-6")
last_q_name Ra6 = Some (codes "right-asymmetric-6")
last_q_name Ls6 = Some (codes "left-symmetric-6")
last_q_name Rs6 = Some (codes "right-symmetric-6")
last_q_name ParityFirst6 = Some (codes "parity-first-6")
last_q_name pattern = rotation_name pattern

-- those of DDF
abbrev pub ddf_name : Pattern → Option (List ℕ)
ddf_name Ra = Some (codes "ddf-zero-restart")
ddf_name NRestart = Some (codes "ddf-N-restart")
ddf_name NContinue = Some (codes "ddf-N-continue")
ddf_name _ = None

-- level 0 has one pattern
abbrev pub striping_name : Pattern → Option (List ℕ)
striping_name Plain = Some (codes "raid0")
striping_name _ = None

-- the name of a level, a pattern and an order of Q, where it has one
abbrev pub name_of : Level → Pattern → Syndrome → Option (List ℕ)
name_of Raid0 pattern NoQ = striping_name pattern
name_of Raid5 pattern NoQ = rotation_name pattern
name_of Raid6 pattern AfterQ = last_q_name pattern
name_of Raid6 pattern BySlot = ddf_name pattern
name_of _ pattern _ = None
