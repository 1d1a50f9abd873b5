-- Which rows `relations` looks at. A row is a sector of each image: row 0 of an image is the sector at its offset.
use Rattle.std.specs.Prelude.{ℕ, ◌+◌, ◌-◌, ◌*◌, ◌/◌, List, length, map, max, slice_index, unwrap_or}
use Rattle.std.specs.List.{range_with_len}
use Rattle.outside.specs.Seen.{Image, lengths_of}
use Rattle.command_words.specs.declared.command.RelationWords.{RelationWords}
use Rattle.run_ends.specs.Agreement.{shortest}
use Rattle.relation_job.specs.declared.sampling.Sampling.{Sampling}

-- how many rows an image has: its length less its offset, which is 0 where none is named
abbrev pub rows_in : List ℕ → List Image → ℕ → ℕ
rows_in offsets attached image = slice_index (lengths_of attached) image - slice_index offsets image

-- how many rows all images have
abbrev pub common_rows : List ℕ → List Image → ℕ
common_rows offsets attached = shortest (map (rows_in offsets attached) (range_with_len 0 (length attached)))

-- the row after the last one that may be looked at: the one that is asked for, or else the end of the rows that all images have
abbrev pub end_for : RelationWords → List Image → ℕ
end_for asked attached = unwrap_or asked.end (common_rows asked.offsets.items attached)

-- how many of the numbers from, from + step, .. are below an end
abbrev pub count_to : ℕ → ℕ → ℕ → ℕ
count_to from step end = (end - from + (step - 1)) / step

-- the least step with which at most 4,096 rows are looked at
abbrev pub least_step : ℕ → ℕ → ℕ
least_step from end = max 1 ((end - from + 4095) / 4096)

-- from one row to the next: what is asked for, or else the least step
abbrev pub step_for : RelationWords → List Image → ℕ
step_for asked attached = unwrap_or asked.step (least_step asked.from (end_for asked attached))

-- how many rows are looked at
abbrev pub rows_for : RelationWords → List Image → ℕ
rows_for asked attached = count_to asked.from (step_for asked attached) (end_for asked attached)

-- all that is looked at
abbrev pub sampling_for : RelationWords → List Image → Sampling
sampling_for asked attached = record { from = asked.from; step = step_for asked attached; rows = rows_for asked attached }

-- the row of a number, counted from 0
abbrev pub row_number : Sampling → ℕ → ℕ
row_number sampling k = sampling.from + sampling.step * k
