-- How many marks the images of a prefix let fit, and how many more the other images may.
use Rattle.std.specs.Prelude.{ℕ, ◌+◌, ◌-◌, max, Bool, false, not, ◌==◌, ◌&&◌, nat_le, if◌then◌else◌, List, length, map, count_by, fold, slice_index_or}
use Rattle.std.specs.List.{list_all, list_any, range_with_len, sum_by}
use Rattle.std.specs.Option.{option_map_or}
use Rattle.std.specs.declared.option.Option.{Option}
use Rattle.std.specs.declared.option.Option.TheVariants.{None}
use Rattle.raid_params.specs.Slots.{stands}
use Rattle.raid_params.specs.declared.types.Head.{Head}
use Rattle.landmark_rules.specs.Groups.{bounds_of, fits_asked, origins_for}
use Rattle.landmark_rules.specs.Marks.{sector_in}
use Rattle.landmark_rules.specs.Rules.{is_fit}
use Rattle.landmark_rules.specs.declared.marks.Group.{Group}
use Rattle.landmark_rules.specs.declared.marks.Mark.{Mark}
use Rattle.search_plan.specs.declared.plan.Plan.{Plan}

-- a mark is one of this image, and fits, or misfits, from the origin where the image stands in this slot
abbrev pub fits_in : Head → ℕ → ℕ → ℕ → ℕ → Mark → Bool
fits_in head end origin slot image mark = mark.image == image && option_map_or (λ v. is_fit mark.rule origin v) (sector_in head end slot mark.sector) false

abbrev pub misfits_in : Head → ℕ → ℕ → ℕ → ℕ → Mark → Bool
misfits_in head end origin slot image mark = mark.image == image && option_map_or (λ v. not (is_fit mark.rule origin v)) (sector_in head end slot mark.sector) false

-- how many of the marks of an image do in a slot
abbrev pub fits_at : Head → ℕ → List Mark → ℕ → ℕ → ℕ → ℕ
fits_at head end marks origin slot image = count_by (fits_in head end origin slot image) marks

abbrev pub misfits_at : Head → ℕ → List Mark → ℕ → ℕ → ℕ → ℕ
misfits_at head end marks origin slot image = count_by (misfits_in head end origin slot image) marks

-- the sum of what the images count in the places that hold them
abbrev pub counted_in : (ℕ → ℕ → ℕ) → List (Option ℕ) → ℕ
counted_in count places = sum_by (λ slot. option_map_or (count slot) (slice_index_or places slot None) 0) (range_with_len 0 (length places))

-- the most that an image counts in one of the slots from this one on: 0 where no slot follows
unfoldable pub most_from : (ℕ → ℕ → ℕ) → ℕ → ℕ → ℕ → ℕ
most_from count members slot image = fold max 0 (map (λ s. count s image) (range_with_len slot (members - slot)))

-- the sum of that over the images that no place of a prefix holds
abbrev pub reserves : (ℕ → ℕ → ℕ) → ℕ → ℕ → List (Option ℕ) → ℕ
reserves count images members prefix =
    sum_by (λ image. if stands image prefix then 0 else most_from count members (length prefix) image) (range_with_len 0 images)

-- a group may hold at an origin, if the slots begin so: no more marks misfit than may, and those that fit, with
-- the most that the other images can add, are as many as are asked
abbrev pub may_hold_at : Plan → Head → List (Option ℕ) → Group → ℕ → Bool
may_hold_at plan head prefix group origin =
    nat_le (counted_in (misfits_at head plan.end group.marks origin) prefix) (bounds_of plan.tests group).misfits
    && nat_le (fits_asked plan.tests group)
    (counted_in (fits_at head plan.end group.marks origin) prefix
    + reserves (fits_at head plan.end group.marks origin) (length plan.lengths.items) head.members prefix)

-- and at one of its origins
unfoldable pub may_hold : Plan → Head → List (Option ℕ) → Group → Bool
may_hold plan head prefix group = list_any (may_hold_at plan head prefix group) (origins_for plan.tests group.kind)

-- each group may
unfoldable pub groups_may_hold : Plan → Head → List (Option ℕ) → Bool
groups_may_hold plan head prefix = list_all (may_hold plan head prefix) plan.groups
