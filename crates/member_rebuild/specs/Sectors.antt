-- Sectors of a member, and how far the reading is ahead of them.
use Rattle.std.specs.Prelude.{ℕ, ◌+◌, ◌*◌, ◌≤◌, IfSome, IsSomeAnd, List, length}
use Rattle.std.specs.List.{flat_map, range_with_len}
use Rattle.std.specs.declared.option.Option.{Option}
use Rattle.raid_params.specs.declared.types.Geometry.{Geometry}
use Rattle.raid_terms.specs.Volume.{member_sector}

-- n sectors of the member of a slot from a sector on
unfoldable pub sectors_of : List (List ℕ) → Geometry → ℕ → ℕ → ℕ → List ℕ
sectors_of images geo slot first n = flat_map (member_sector images geo slot) (range_with_len first n)

-- for each sector that the sink is known to have gained, and for each of `most` more, no more than `blocks` sectors
-- were read; the counts are those of sectors read
abbrev pub IsAheadBy : ℕ → ℕ → ℕ → ℕ → Option (List ℕ) → Option (List ℕ) → Type 0
IsAheadBy blocks most from to old new =
    IfSome old (λ before. IsSomeAnd new (λ after. 512 * to + blocks * length before ≤ 512 * (from + blocks * most) + blocks * length after))
