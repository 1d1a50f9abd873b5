-- What leaves of the tree of chunks tell does not depend on the order in which they are read: the newest decide.
use Rattle.std.specs.Prelude.{ℕ, ◌≡◌, ◌<◌}
use Rattle.survey_engine.specs.Telling.{with_spot}
use Rattle.survey_engine.specs.declared.landmark.TreeSeen.{TreeSeen}
use Rattle.survey_engine.specs.declared.telling.Spot.{Spot}

-- of two leaves either may be read first
abbrev pub OrderIsFree : Type 0
OrderIsFree = (one other : ℕ) (tree : TreeSeen) (spot place : Spot) → with_spot other (with_spot one tree spot) place ≡ with_spot one (with_spot other tree place) spot

-- what an older leaf told counts no more once a newer one tells
abbrev pub NewestDecides : Type 0
NewestDecides = (older newer : ℕ) (tree : TreeSeen) (spot place : Spot) → older < newer → with_spot newer (with_spot older tree spot) place ≡ with_spot newer tree place
