-- What is known of a prefix by the exclusive or of whole images, where every slot list holds every image.
use Rattle.std.specs.Prelude.{ℕ, ◌+◌, ◌-◌, ◌*◌, ◌/◌, min, Bool, true, false, not, ◌==◌, ◌&&◌, ◌||◌, nat_eq, nat_le, nat_lt, List, [], length, map, filter, count_by, slice_index, slice_index_or}
use Rattle.std.specs.List.{list_any, range_with_len}
use Rattle.std.specs.Option.{option_map_or, option_and_then}
use Rattle.std.specs.declared.option.Option.{Option}
use Rattle.std.specs.declared.option.Option.TheVariants.{None}
use Rattle.raid_params.specs.Size.{redundancy}
use Rattle.raid_params.specs.declared.types.Head.{Head}
use Rattle.raid_params.specs.declared.types.Level.{Level}
use Rattle.raid_params.specs.declared.types.Level.TheVariants.{Raid0, Raid5, Raid6}
use Rattle.raid_terms.specs.Role.{q_of}
use Rattle.member_regions.specs.ImageSums.{xor_all}
use Rattle.search_plan.specs.Rows.{tested_with}
use Rattle.search_plan.specs.declared.plan.Plan.{Plan}

-- the exclusive or of byte `at` of some of the images
abbrev pub xor_byte : List (List ℕ) → List ℕ → ℕ → ℕ
xor_byte images numbers at = xor_all (map (λ i. slice_index (slice_index_or images i []) at) numbers)

-- in a sector, some byte of it is not zero
unfoldable pub differ : List (List ℕ) → List ℕ → ℕ → Bool
differ images numbers sector = list_any (λ x. not (nat_eq (xor_byte images numbers (512 * sector + x)) 0)) (range_with_len 0 512)

-- all of `count` images, and all but one
abbrev pub every : ℕ → List ℕ
every count = range_with_len 0 count

abbrev pub others : ℕ → ℕ → List ℕ
others count image = filter (λ i. not (i == image)) (range_with_len 0 count)

-- every slot list of the head holds every image: as many as members are planned, and none may be foreign, or no
-- place empty
abbrev pub holds_every : Plan → Head → Bool
holds_every plan head =
    (length plan.lengths.items == head.members) && ((plan.bounds.foreign == 0) || (min plan.bounds.missing (redundancy head.level) == 0))

-- then, where there is parity, a table of the rows in which images differ is asked
abbrev pub needs_table : Plan → Head → Bool
needs_table plan head = holds_every plan head && nat_le 1 (redundancy head.level)

-- the rows in which the images differ decide the parity test: at level 5, where every slot list holds every image
abbrev pub is_raid5 : Level → Bool
is_raid5 Raid0 = false
is_raid5 Raid5 = true
is_raid5 Raid6 = false

abbrev pub rows_decide : Plan → Head → Bool
rows_decide plan head = needs_table plan head && is_raid5 head.level

-- samples of the rows are asked where some slot list of the head can break a row: fewer places are empty than the level has
-- parity; and the rows in which the images differ do not decide
abbrev pub needs_samples : Plan → Head → Bool
needs_samples plan head = nat_lt (head.members - length plan.lengths.items) (redundancy head.level) && not (rows_decide plan head)

-- as many of the first rows of sectors are tested
abbrev pub tested : Plan → Head → ℕ
tested plan head = tested_with plan head.chunk head.offset

-- a row of sectors in which the images differ
abbrev pub differ_in_row : List (List ℕ) → Plan → Head → ℕ → Bool
differ_in_row images plan head t = differ images (every (length plan.lengths.items)) (head.offset + t)

-- the image that the prefix puts on Q in a row of chunks, if it puts one there
abbrev pub on_q : Head → List (Option ℕ) → ℕ → Option ℕ
on_q head prefix row = option_and_then (λ q. slice_index_or prefix q None) (q_of head row)

-- a row of sectors in which it puts one there, and the others differ
abbrev pub differ_beside_q : List (List ℕ) → Plan → Head → List (Option ℕ) → ℕ → Bool
differ_beside_q images plan head prefix t =
    option_map_or (λ i. differ images (others (length plan.lengths.items) i) (head.offset + t)) (on_q head prefix (t / head.chunk)) false

-- how many of the tested rows are known to break the equation of P
unfoldable pub broken_rows : Level → List (List ℕ) → Plan → Head → List (Option ℕ) → ℕ
broken_rows Raid0 images plan head prefix = 0
broken_rows Raid5 images plan head prefix = count_by (differ_in_row images plan head) (range_with_len 0 (tested plan head))
broken_rows Raid6 images plan head prefix = count_by (differ_beside_q images plan head prefix) (range_with_len 0 (tested plan head))

-- no more than may be
unfoldable pub rows_may_hold : List (List ℕ) → Plan → Head → List (Option ℕ) → Bool
rows_may_hold images plan head prefix = not (holds_every plan head) || nat_le (broken_rows head.level images plan head prefix) plan.limits.badrows
