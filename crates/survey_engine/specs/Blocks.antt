-- The sightings in the blocks of a sweep.
use Rattle.std.specs.Prelude.{ℕ, ◌+◌, List, [], length, slice_index, slice_index_or, Option}
use Rattle.std.specs.List.{filter_map, flat_map, range_with_len}
use Rattle.survey_engine.specs.Sweep.{Swept}
use Rattle.survey_engine.specs.Sightings.{sector_of, sighting_in}
use Rattle.survey_engine.specs.declared.ask.Ask.{Ask}
use Rattle.survey_engine.specs.declared.sighting.Sighting.{Sighting}

-- the sighting in one sector of one image, if there is one
abbrev pub found_at : Ask → List ℕ → Swept → ℕ → ℕ → Option Sighting
found_at ask lengths sweep place image =
    sighting_in ask (slice_index lengths image) (record { sector = sweep.first + place; image = image })
    (sector_of (slice_index_or sweep.blocks image []) place)

-- the sightings in one sector of each of the first images
abbrev pub found_in_row : Ask → List ℕ → Swept → ℕ → ℕ → List Sighting
found_in_row ask lengths sweep images place = filter_map (found_at ask lengths sweep place) (range_with_len 0 images)

-- the sightings in the first sectors of the blocks
abbrev pub found_in_block : Ask → List ℕ → Swept → ℕ → List Sighting
found_in_block ask lengths sweep count = flat_map (found_in_row ask lengths sweep (length lengths)) (range_with_len 0 count)
