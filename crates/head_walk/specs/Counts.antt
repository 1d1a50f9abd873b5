-- How many sets of a range of ranks are hopeful, and what is read for them.
use Rattle.std.specs.Prelude.{ℕ, ◌*◌, ◌-◌, min, Bool, true, false, not, ◌&&◌, ◌||◌, if◌then◌else◌, List, length, count_by, slice_get}
use Rattle.std.specs.List.{list_any, range_with_len}
use Rattle.std.specs.Option.{option_map_or}
use Rattle.std.specs.declared.option.Option.{Option}
use Rattle.std.specs.declared.option.Option.TheVariants.{None, Some}
use Rattle.raid_params.specs.Validity.{is_valid_head}
use Rattle.raid_params.specs.declared.types.Geometry.{Geometry}
use Rattle.raid_params.specs.declared.types.Level.{Level}
use Rattle.raid_params.specs.declared.types.Pattern.{Pattern}
use Rattle.raid_params.specs.declared.types.Syndrome.{Syndrome}
use Rattle.search_terms.specs.Product.{heads}
use Rattle.candidate_enum.specs.Survivors.{all_admitted}
use Rattle.parity_scan.specs.Scan.{is_unbreakable}
use Rattle.parity_scan.specs.Windows.{scan_reads}
use Rattle.prune_filters.specs.Hopeful.{is_hopeful}
use Rattle.prune_filters.specs.Rows.{needs_samples, needs_table, rows_decide}
use Rattle.prune_filters.specs.Xors.{most_tested}
use Rattle.plan_sets.specs.Sets.{sets_of}
use Rattle.row_samples.specs.Rows.{most_kept}
use Rattle.search_plan.specs.declared.plan.Plan.{Plan}

-- a set of the plan is hopeful: each prefix of its slots is, over the bytes of the images. Where some are not known, any is
unfoldable pub is_hopeful_at : Option (List (List ℕ)) → Plan → ℕ → Bool
is_hopeful_at None plan rank = true
is_hopeful_at (Some bytes) plan rank = option_map_or (λ geo. all_admitted (is_hopeful bytes plan geo.head) geo.slots.items) (slice_get (sets_of plan) rank) false

-- the parity test of a set asks for none of its rows: nothing can break one, or the tables of rows decide
abbrev pub is_decided : Plan → Geometry → Bool
is_decided plan geo = is_unbreakable geo || rows_decide plan geo.head

-- a hopeful set of which rows have to be tested
unfoldable pub is_open_at : Option (List (List ℕ)) → Plan → ℕ → Bool
is_open_at told plan rank = is_hopeful_at told plan rank && not (option_map_or (is_decided plan) (slice_get (sets_of plan) rank) true)

-- how many sets of the ranks from one up to another are hopeful, and of how many rows have to be tested
unfoldable pub hopeful_ranks : Option (List (List ℕ)) → Plan → ℕ → ℕ → ℕ
hopeful_ranks told plan from to = count_by (is_hopeful_at told plan) (range_with_len from (to - from))

-- and of how many rows have to be tested
unfoldable pub open_ranks : Option (List (List ℕ)) → Plan → ℕ → ℕ → ℕ
open_ranks told plan from to = count_by (is_open_at told plan) (range_with_len from (to - from))

-- the most sectors that a scan of sets of the plan reads
unfoldable pub most_scanned : Plan → ℕ
most_scanned plan = scan_reads (length plan.lengths.items) plan.end plan.limits.window plan.bounds.offsets.items

-- some head of the plan needs a table of rows
unfoldable pub asks_tables : Plan → Bool
asks_tables plan = list_any (needs_table plan) (heads plan.bounds)

-- a head of this shape that makes sense needs one, whatever its chunk and offset
abbrev pub shape_asks : Plan → Level → ℕ → Pattern → ℕ → Syndrome → Bool
shape_asks plan level members pattern delay syndrome =
    is_valid_head (record { level = level; members = members; pattern = pattern; delay = delay; syndrome = syndrome; chunk = 1; offset = 0 })
    && needs_table plan (record { level = level; members = members; pattern = pattern; delay = delay; syndrome = syndrome; chunk = 1; offset = 0 })

-- samples of the rows are asked for some head of the plan
unfoldable pub asks_samples : Plan → Bool
asks_samples plan = list_any (needs_samples plan) (heads plan.bounds)

-- for an offset: the tested rows of the chunk that has most, of each image, where some head needs a table, and otherwise eight of
-- them for each row that is kept at most, where samples are asked for some head
unfoldable pub offset_reads : Plan → ℕ → ℕ
offset_reads plan offset =
    if asks_tables plan then length plan.lengths.items * most_tested plan plan.bounds.chunks.items offset
    else if asks_samples plan then length plan.lengths.items * min (8 * most_kept plan.limits.badrows) (most_tested plan plan.bounds.chunks.items offset)
    else 0
