-- What most superblocks of a file system of XFS state decides.
use Rattle.std.specs.Prelude.{◌≡◌, ◌≤◌, List, All, true}
use Rattle.std.specs.Str.{bytes_eq}
use Rattle.xfs5.specs.declared.places.XfsInodes.{XfsInodes}
use Rattle.survey_engine.specs.Systems.{deciding, votes}

-- of all that is stated of a file system nothing is stated by more superblocks than what decides
abbrev pub MostDecide : Type 0
MostDecide = (all : List XfsInodes) (first : XfsInodes) → All (λ other. bytes_eq first.uuid other.uuid ≡ true → votes all other ≤ votes all (deciding all first)) all
