-- Stretches of rows over which neither of two heads turns.
use Rattle.std.specs.Prelude.{ℕ, ◌+◌, ◌*◌, min}
use Rattle.raid_params.specs.declared.types.Head.{Head}
use Rattle.raid_terms.specs.Role.{turn}

-- the first row behind this one with another turn
abbrev pub turn_end : Head → ℕ → ℕ
turn_end head row = (turn head row + 1) * head.delay

-- the first row behind this one where one of two heads has another turn
abbrev pub stretch_end : Head → Head → ℕ → ℕ
stretch_end one other row = min (turn_end one row) (turn_end other row)
