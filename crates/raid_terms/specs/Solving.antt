-- The bytes of missing cells that the parity equations give.
use Rattle.std.specs.Prelude.{ℕ, Bool, nat_eq, ◌&&◌, if◌then◌else◌, List, [], count_by, slice_index, unwrap_or}
use Rattle.std.specs.List.{find, list_any}
use Rattle.raid_params.specs.declared.types.Cell.{Cell}
use Rattle.raid_terms.specs.Parity.{equations_hold, filled, is_q, p_holds, q_holds}

-- one cell alone is missing
abbrev pub is_one_lost : List Cell → Bool
is_one_lost cells = nat_eq (count_by (λ c. c.missing) cells) 1

-- Q is missing
abbrev pub is_q_lost : List Cell → Bool
is_q_lost cells = list_any (λ c. c.missing && is_q c.part) cells

-- the equations by which lost bytes are found hold. Where one cell alone is missing that is one equation,
-- Q's if the cell is Q and P's if not; elsewhere it is both
abbrev pub solves : List Cell → List ℕ → Bool
solves cells column =
    if is_one_lost cells then (if is_q_lost cells then q_holds cells column else p_holds cells column)
    else equations_hold cells column

-- the column with its missing bytes found: the first filling that solves the equations
unfoldable pub solved : List Cell → List ℕ → List ℕ
solved cells bytes = unwrap_or (find (solves cells) (filled cells bytes)) []

-- the lost byte of the missing cell at this place
abbrev pub lost_byte : List Cell → List ℕ → ℕ → ℕ
lost_byte cells bytes place = slice_index (solved cells bytes) place
