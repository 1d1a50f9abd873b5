-- Images whose data begin at different sectors: the base of an image is the sector at which its data begin.
use Rattle.std.specs.Prelude.{ℕ, max, Bool, ◌==◌, ◌||◌, not, List, length}
use Rattle.std.specs.List.{fold, list_any, range_with_len}
use Rattle.std.specs.declared.option.Option.{Option}
use Rattle.raid_params.specs.Slots.{stands}

-- the greatest base, and 0 of none
abbrev pub greatest_base : List ℕ → ℕ
greatest_base bases = fold max 0 bases

-- the offset is that of an array with these bases: the greatest of them, or any where there are none
abbrev pub is_offset_of : List ℕ → ℕ → Bool
is_offset_of bases offset = length bases == 0 || offset == greatest_base bases

-- some image below `images` is in no slot
abbrev pub leaves_out : ℕ → List (Option ℕ) → Bool
leaves_out images slots = list_any (λ image. not (stands image slots)) (range_with_len 0 images)
