-- How far the reading was ahead of what a sink gained.
use Rattle.std.specs.Prelude.{ℕ, ◌+◌, ◌*◌, ◌≤◌, max, IfSome, IsSomeAnd, List, length}
use Rattle.std.specs.declared.option.Option.{Option}
use Rattle.member_regions.specs.declared.regions.TheConstants.{BLOCK}
use Rattle.raid_params.specs.Size.{data_blocks}
use Rattle.raid_params.specs.declared.types.Head.{Head}

-- no more sectors were read than the sink is known to have gained, and `most` more; the counts are of sectors read
abbrev pub IsAhead : ℕ → ℕ → ℕ → Option (List ℕ) → Option (List ℕ) → Type 0
IsAhead most from to old new = IfSome old (λ before. IsSomeAnd new (λ after. 512 * to + length before ≤ 512 * (from + most) + length after))

-- the most sectors of the volume that are read and not put yet: one batch of rows, and what waits to be put
abbrev pub most_ahead : Head → ℕ
most_ahead head = data_blocks head * max BLOCK head.chunk + BLOCK
