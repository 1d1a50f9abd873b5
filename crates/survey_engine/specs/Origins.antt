-- Where partition tables say that partitions begin.
use Rattle.search_plan.specs.Plans.{AreRising}
use Rattle.std.specs.Prelude.{ℕ, ◌+◌, ◌*◌, ◌^◌, ◌<◌, ◌≤◌, All, length, Bool, false, ◌&&◌, ◌==◌, nat_lt, List, [], map, take, fold, Option, Some, None, option_and_then, if◌then◌else◌, slice_index, slice_index_or}
use Rattle.std.specs.List.{filter_map, flat_map}
use Rattle.gpt_marks.specs.Entry.{first_lbas}
use Rattle.survey_engine.specs.Kept.{with_number}
use Rattle.survey_engine.specs.Sightings.{sector_of}
use Rattle.survey_engine.specs.declared.landmark.GptTable.{GptTable}
use Rattle.survey_engine.specs.declared.landmark.Landmark.{Landmark}
use Rattle.survey_engine.specs.declared.landmark.Landmark.TheVariants.{Gpt}
use Rattle.survey_engine.specs.declared.sighting.Sighting.{Sighting}

-- a header whose entries begin in the next block, in an image of that length
abbrev pub has_entries : GptTable → ℕ → ℕ → Bool
has_entries t sector length = t.header.entry_size == 128 && t.header.table == t.header.my_lba + 1 && nat_lt (sector + t.unit) length

-- the first sector of a partition, by its first block of `unit` sectors, where it is below 2^55
abbrev pub first_sector : ℕ → Option ℕ → Option ℕ
first_sector unit first = option_and_then (λ block. if nat_lt (unit * block) (2 ^ 55) then Some (unit * block) else None) first

-- the first sectors of the partitions that the first sector of the block after a header lists
abbrev pub hints_by : Landmark → ℕ → ℕ → List ℕ → List ℕ
hints_by (Gpt t) sector length bytes =
    if has_entries t sector length then filter_map (λ first. first) (map (first_sector t.unit) (first_lbas (sector_of bytes (sector + t.unit)) t.header.alternate)) else []
hints_by landmark sector length bytes = []

-- the sightings whose entries are read: all, if partition tables are looked for
abbrev pub headers_of : Bool → List Sighting → List Sighting
headers_of asked found = if asked then found else []

-- entries follow a landmark in a sector of an image of that length, as they follow a header
abbrev pub entries_follow : Landmark → ℕ → ℕ → Bool
entries_follow (Gpt t) sector length = has_entries t sector length
entries_follow landmark sector length = false

-- entries follow a sighting, in images of these lengths
unfoldable pub is_followed : List ℕ → Sighting → Bool
is_followed lengths s = entries_follow s.landmark s.sector (slice_index lengths s.image)

unfoldable pub hints_at : List ℕ → List (List ℕ) → Sighting → List ℕ
hints_at lengths images s = hints_by s.landmark s.sector (slice_index lengths s.image) (slice_index_or images s.image [])

-- a rising list with more numbers put in their places, cut to the first 64
abbrev pub with_numbers : List ℕ → List ℕ → List ℕ
with_numbers old numbers = take 64 (fold with_number old numbers)

-- the origins asked for and those that partition tables give, in rising order, of all these the first
-- 64
unfoldable pub origins_of : List ℕ → List ℕ → List (List ℕ) → List Sighting → List ℕ
origins_of asked lengths images found = with_numbers asked (flat_map (hints_at lengths images) found)

-- origins that a plan may have
pub record AreOrigins (origins : List ℕ) : Type 0 where
  pub rising : AreRising origins
  pub few : length origins ≤ 64
  pub near : All (λ n. n < 2 ^ 55) origins
