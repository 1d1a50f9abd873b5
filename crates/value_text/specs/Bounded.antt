-- Lists of numbers within the limits of what they count.
use Rattle.std.specs.Prelude.{ℕ, ◌≤◌, ◌<◌, ◌^◌, IsTrue, List, length, All}
use Rattle.raid_params.specs.declared.limits.TheConstants.{LONGEST_DELAY, MOST, MOST_DELAYS, MOST_OFFSETS}
use Rattle.raid_params.specs.Places.{AreRising}
use Rattle.raid_params.specs.Validity.{is_chunk}

-- numbers that rise, each within the limits of members, delays, chunks or sectors
abbrev pub AreMembers : List ℕ → Type 0
AreMembers ns = AreRising ns × All (λ n. (2 ≤ n) × (n ≤ MOST)) ns

abbrev pub AreDelays : List ℕ → Type 0
AreDelays ns = AreRising ns × (length ns ≤ MOST_DELAYS) × All (λ n. (1 ≤ n) × (n ≤ LONGEST_DELAY)) ns

abbrev pub AreChunks : List ℕ → Type 0
AreChunks ns = AreRising ns × All (λ n. IsTrue (is_chunk n)) ns

abbrev pub AreSectors : ℕ → List ℕ → Type 0
AreSectors most ns = AreRising ns × (length ns ≤ most) × All (λ n. n < 2 ^ 55) ns

-- places of images, from 1 to 64, in any order
abbrev pub ArePlaces : List ℕ → Type 0
ArePlaces ns = (1 ≤ length ns) × (length ns ≤ MOST_OFFSETS) × All (λ n. n < 2 ^ 55) ns
