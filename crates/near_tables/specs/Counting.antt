-- What is added to counts for sectors that were read.
use Rattle.std.specs.Prelude.{ℕ, ◌≡◌, ◌+◌, ◌-◌, ◌/◌, ◌%◌, ◌^◌, ◌<◌, ◌≤◌, min, List}
use Rattle.member_regions.specs.Regions.{Room}
use Rattle.near_mirror.specs.declared.types.NearHead.{NearHead}
use Rattle.near_tables.specs.Reading.{lane_room, rest_of, strip_torn}
use Rattle.near_tables.specs.Tables.{count_of, lane_gap}

-- to the counts of a pair of lanes, where copies of a chunk may lie in them, an earlier one in the first
abbrev pub AddsPair : ℕ → NearHead → ℕ → ℕ → ℕ → List Room → ℕ → List (List ℕ) → List (List ℕ) → Type 0
AddsPair images head limit at count rooms pair old new =
    (one other : ℕ) → pair / 4 + lane_gap head.layout.copying ≤ pair % 4 → pair % 4 < head.layout.copies → one < images → other < images →
    count_of new one other ≡ min (count_of old one other + strip_torn (lane_room rooms (pair / 4)) (lane_room rooms (pair % 4)) (rest_of head limit at count (pair % 4)) one other) (2 ^ 64 - 1)
