-- The places of levels, patterns and orders of Q among their kind, and lists that rise by places.
use Rattle.std.specs.Prelude.{ℕ, ◌≤◌, List, length}
use Rattle.std.specs.List.Sorted.{IsStrictlyIncreasing}
use Rattle.raid_params.specs.declared.types.Level.{Level}
use Rattle.raid_params.specs.declared.types.Level.TheVariants.{Raid0, Raid5, Raid6}
use Rattle.raid_params.specs.declared.types.Pattern.{Pattern}
use Rattle.raid_params.specs.declared.types.Pattern.TheVariants.{Plain, La, Ra, Ls, Rs, ParityFirst, ParityLast, NRestart, NContinue, La6, Ra6, Ls6, Rs6, ParityFirst6}
use Rattle.raid_params.specs.declared.types.Syndrome.{Syndrome}
use Rattle.raid_params.specs.declared.types.Syndrome.TheVariants.{NoQ, AfterQ, ByData, BySlot}

abbrev pub level_place : Level → ℕ
level_place Raid0 = 0
level_place Raid5 = 1
level_place Raid6 = 2

abbrev pub pattern_place : Pattern → ℕ
pattern_place Plain = 0
pattern_place La = 1
pattern_place Ra = 2
pattern_place Ls = 3
pattern_place Rs = 4
pattern_place ParityFirst = 5
pattern_place ParityLast = 6
pattern_place NRestart = 7
pattern_place NContinue = 8
pattern_place La6 = 9
pattern_place Ra6 = 10
pattern_place Ls6 = 11
pattern_place Rs6 = 12
pattern_place ParityFirst6 = 13

abbrev pub syndrome_place : Syndrome → ℕ
syndrome_place NoQ = 0
syndrome_place AfterQ = 1
syndrome_place ByData = 2
syndrome_place BySlot = 3

-- numbers, or places, of a list of parameters to try: it has an element, and it rises strictly
pub record AreRising (numbers : List ℕ) : Type 0 where
  pub some : 1 ≤ length numbers
  pub rising : IsStrictlyIncreasing numbers
