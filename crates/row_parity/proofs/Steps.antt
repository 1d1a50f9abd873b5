-- The sums of the columns, a cell at a time.
use Rattle.std.proofs.Common.{ℕ, ◌≡◌, ◌<◌, ◌+◌, List, [], ◌∷◌, length, take, get_or, zero, suc, add-one, sym, ap, ◌∙◌, arith, bit_xor}
use Rattle.gf256.proofs.Sums.{sum_associates, sum_zero}
use Rattle.raid_params.specs.declared.types.Cell.{Cell}
use Rattle.raid_params.specs.declared.types.Part.{Part}
use Rattle.row_parity.specs.Syndromes.{known_in, known_sum, sum_at}

-- one more cell
known_more : (adds : Part → ℕ → ℕ) (cells : List Cell) (bytes : List ℕ) (i : ℕ) (d : Cell) → i < length cells → length bytes ≡ length cells →
    known_sum adds (take (suc i) cells) bytes ≡ bit_xor (known_sum adds (take i cells) bytes) (known_in adds (get_or cells i d) (get_or bytes i 0))
unfolding known_sum
known_more adds [] bytes i d h e = absurd (omega arith)
known_more adds (c ∷ cs) [] i d h e = absurd (omega arith)
known_more adds (c ∷ cs) (b ∷ bs) zero d h e = sum_zero (known_in adds c b)
known_more adds (c ∷ cs) (b ∷ bs) (suc i) d h e =
    ap (bit_xor (known_in adds c b)) (known_more adds cs bs i d (omega arith) (omega arith))
    ∙ sym (sum_associates (known_in adds c b) (known_sum adds (take i cs) bs) (known_in adds (get_or cs i d) (get_or bs i 0)))

pub sum_more : (adds : Part → ℕ → ℕ) (cells : List Cell) (column : ℕ → List ℕ) (x i : ℕ) (d : Cell) → i < length cells → length (column x) ≡ length cells →
    sum_at adds (take (i + 1) cells) column x ≡ bit_xor (sum_at adds (take i cells) column x) (known_in adds (get_or cells i d) (get_or (column x) i 0))
sum_more adds cells column x i d h e = rw add-one (known_more adds cells (column x) i d h e)
