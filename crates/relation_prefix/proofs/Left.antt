-- The weights of slots, by the cells of a row, and in the equation that is left.
use Rattle.std.proofs.Common.{ℕ, zero, suc, ◌≡◌, ◌≢◌, ◌<◌, ◌+◌, ◌&&◌, Bool, true, false, List, [], ◌∷◌, Option, length, get_or, refl, ap, ◌∙◌, arith, bit_xor}
use Rattle.std.proofs.lemmas.Bool.Decides.{nat_tests}
use Rattle.std.specs.Prelude.{IsTrue}
use Rattle.gf256.specs.Field.{product}
use Rattle.gf256.proofs.Sums.{sum_zero}
use Rattle.gf256.proofs.Products.{product_zero_left}
use Rattle.raid_params.specs.Validity.{is_chunk, is_valid_head}
use Rattle.raid_params.specs.declared.types.Cell.{Cell}
use Rattle.raid_params.specs.declared.types.Head.{Head}
use Rattle.raid_params.specs.declared.types.Part.{Part}
use Rattle.raid_params.specs.declared.types.Part.TheVariants.{Block, P, Q}
use Rattle.raid_terms.specs.Cells.{cells_from, part_of}
use Rattle.relation_prefix.specs.Equations.{left_without, weight_in, weight_in_p, weight_in_q}

pub left_of_q : (part lost : Part) → weight_in_p lost ≡ 0 → weight_in_p part ≡ weight_in (left_without lost) part
left_of_q part (Block k) e = absurd (omega arith)
left_of_q part P e = absurd (omega arith)
left_of_q part Q e = refl

pub left_of_others : (part lost : Part) → weight_in_p lost ≢ 0 → bit_xor (weight_in_q part) (product (weight_in_q lost) (weight_in_p part)) ≡ weight_in (left_without lost) part
left_of_others part (Block k) e = refl
left_of_others part P e = ap (bit_xor (weight_in_q part)) (product_zero_left (weight_in_p part)) ∙ sum_zero (weight_in_q part)
left_of_others part Q e = absurd (e refl)

-- the part of a cell is that of its slot
part_from : (head : Head) (row a : ℕ) (slots : List (Option ℕ)) (i : ℕ) (d : Cell) → i < length slots → (get_or (cells_from head row a slots) i d).part ≡ part_of head row (a + i)
part_from head row a [] i d lt = absurd (omega arith)
part_from head row a (held ∷ slots) zero d lt = let e : a ≡ a + 0 = omega arith in ap (part_of head row) e
part_from head row a (held ∷ slots) (suc i) d lt = let e : a + 1 + i ≡ a + suc i = omega arith in part_from head row (a + 1) slots i d (omega arith) ∙ ap (part_of head row) e

pub part_at : (head : Head) (row : ℕ) (slots : List (Option ℕ)) (i : ℕ) (d : Cell) → i < length slots → (get_or (cells_from head row 0 slots) i d).part ≡ part_of head row i
part_at head row slots i d lt = let e : 0 + i ≡ i = omega arith in part_from head row 0 slots i d lt ∙ ap (part_of head row) e

pub and_true : (b : Bool) → b ≡ (b && true)
and_true true = refl
and_true false = refl

chunk_above : (chunk : ℕ) → IsTrue (is_chunk chunk) → 0 < chunk
unfolding is_chunk
chunk_above chunk h = grind (arith, nat_tests)

pub some_chunk : (head : Head) → IsTrue (is_valid_head head) → 0 < head.chunk
some_chunk head h = grind (arith, nat_tests, chunk_above)
