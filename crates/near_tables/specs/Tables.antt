-- What a table of torn sectors holds, and what it says of the slots.
use Rattle.std.specs.Prelude.{ℕ, ◌+◌, ◌*◌, ◌/◌, ◌%◌, ◌≡◌, ◌<◌, ◌≤◌, Bool, ◌&&◌, nat_lt, List, [], count_by, slice_index, slice_index_or}
use Rattle.std.specs.List.{range_with_len, sum_by}
use Rattle.std.specs.declared.option.Option.{Option}
use Rattle.std.specs.declared.option.Option.TheVariants.{None, Some}
use Rattle.near_mirror.specs.Copies.{row_of, slot_of}
use Rattle.near_mirror.specs.declared.types.Copying.{Copying}
use Rattle.near_mirror.specs.declared.types.Copying.TheVariants.{Near, Far, Offset}
use Rattle.near_mirror.specs.declared.types.NearHead.{NearHead}
use Rattle.near_tables.specs.Torn.{part_start, sectors_differ}

-- The chunks of a volume stand in groups of as many as there are members. The copies of a group take up whole rows, as many as
-- there are copies: its lanes. Those of near and offset copies lie after each other, and of far copies each in a part of its own.

-- how many rows of a part a group takes up
abbrev pub group_rows : Copying → ℕ → ℕ
group_rows Near copies = copies
group_rows Far copies = 1
group_rows Offset copies = copies

-- which of these rows a lane is
abbrev pub lane_row : Copying → ℕ → ℕ
lane_row Near lane = lane
lane_row Far lane = 0
lane_row Offset lane = lane

-- the lane of a copy of the chunk that is this number of its group
abbrev pub lane_of : Copying → ℕ → ℕ → ℕ → ℕ → ℕ
lane_of Near members copies copy chunk = row_of Near members copies copies copy chunk
lane_of Far members copies copy chunk = copy
lane_of Offset members copies copy chunk = copy

-- how many lanes a later copy of a chunk lies after an earlier one, at the least: near ones may share a lane
abbrev pub lane_gap : Copying → ℕ
lane_gap Near = 0
lane_gap Far = 1
lane_gap Offset = 1

-- the sector that is number u among those of a row of each group, where groups take up `step` rows
abbrev pub row_sector : ℕ → ℕ → ℕ → ℕ → ℕ
row_sector step chunk row u = (step * (u / chunk) + row) * chunk + u % chunk

-- and among those of a lane, in its part
abbrev pub lane_depth : NearHead → ℕ → ℕ → ℕ
lane_depth head lane u = row_sector (group_rows head.layout.copying head.layout.copies) head.chunk (lane_row head.layout.copying lane) u

-- the member sector there
abbrev pub lane_sector : NearHead → ℕ → ℕ → ℕ → ℕ
lane_sector head end lane u = part_start head end lane + lane_depth head lane u

-- the sectors there of two images, each in one of two lanes, are tested and differ
abbrev pub is_torn_at : List (List ℕ) → NearHead → ℕ → ℕ → ℕ → ℕ → ℕ → ℕ → ℕ → Bool
is_torn_at images head end limit lane one next other u =
    (nat_lt (lane_depth head lane u) limit && nat_lt (lane_depth head next u) limit)
    && sectors_differ images one (head.offset + lane_sector head end lane u) other (head.offset + lane_sector head end next u)

-- how many of the first ones are
abbrev pub torn_between : List (List ℕ) → NearHead → ℕ → ℕ → ℕ → ℕ → ℕ → ℕ → ℕ → ℕ
torn_between images head end limit lane one next other count = count_by (is_torn_at images head end limit lane one next other) (range_with_len 0 count)

-- a table as contracts see it: for each two lanes in which copies of a chunk may lie, and each two images, in how many sectors the
-- first image in the one lane and the second in the other differ. Lanes are four at most, and their pairs follow each other by the
-- first lane
abbrev pub TornCounts : Type 0
TornCounts = List (List (List ℕ))

-- the counts for two lanes
abbrev pub lane_counts : TornCounts → ℕ → ℕ → List (List ℕ)
lane_counts table lane next = slice_index_or table (4 * lane + next) []

-- the counts of two images
abbrev pub count_of : List (List ℕ) → ℕ → ℕ → ℕ
count_of counts one other = slice_index (slice_index_or counts one []) other

-- the table counts the first `count` sectors of each lane, of each two in which copies of a chunk may lie
abbrev pub CountsFirst : List (List ℕ) → ℕ → NearHead → ℕ → ℕ → ℕ → TornCounts → Type 0
CountsFirst bytes images head end limit count table =
    (lane next one other : ℕ) → lane + lane_gap head.layout.copying ≤ next → next < head.layout.copies → one < images → other < images →
    count_of (lane_counts table lane next) one other ≡ torn_between bytes head end limit lane one next other count

-- the table counts all that are tested
abbrev pub IsTornTable : List (List ℕ) → ℕ → NearHead → ℕ → ℕ → TornCounts → Type 0
IsTornTable bytes images head end limit table = CountsFirst bytes images head end limit limit table

-- what counts say of what two slots hold
abbrev pub count_between : List (List ℕ) → Option ℕ → Option ℕ → ℕ
count_between counts (Some one) (Some other) = count_of counts one other
count_between counts (Some one) None = 0
count_between counts None other = 0

-- the lane of a copy of a chunk of a group, and what its slot holds
abbrev pub copy_lane : NearHead → ℕ → ℕ → ℕ
copy_lane head copy chunk = lane_of head.layout.copying head.members head.layout.copies copy chunk

abbrev pub copy_held : NearHead → List (Option ℕ) → ℕ → ℕ → Option ℕ
copy_held head slots copy chunk = slice_index_or slots (slot_of head.layout.copying head.members head.layout.copies copy chunk) None

-- what the table says of two copies of a chunk of each group
abbrev pub pair_torn : TornCounts → NearHead → List (Option ℕ) → ℕ → ℕ → ℕ → ℕ
pair_torn table head slots first second chunk =
    count_between (lane_counts table (copy_lane head first chunk) (copy_lane head second chunk)) (copy_held head slots first chunk) (copy_held head slots second chunk)

-- of two copies of all chunks
abbrev pub pairs_torn : TornCounts → NearHead → List (Option ℕ) → ℕ → ℕ → ℕ
pairs_torn table head slots second first = sum_by (pair_torn table head slots first second) (range_with_len 0 head.members)

-- of a copy and those before it
abbrev pub copy_torn : TornCounts → NearHead → List (Option ℕ) → ℕ → ℕ
copy_torn table head slots second = sum_by (pairs_torn table head slots second) (range_with_len 0 second)

-- and of each two copies: how many sectors are torn, where slots begin so
abbrev pub table_torn : TornCounts → NearHead → List (Option ℕ) → ℕ
table_torn table head slots = sum_by (copy_torn table head slots) (range_with_len 0 head.layout.copies)
