-- A column in which one data block is 1, the other data are 0 and the equations hold: its lost byte is 1.
use Rattle.std.proofs.Common.{ℕ, suc, ◌≡◌, ◌<◌, ◌≤◌, Bool, true, false, cond, ◌&&◌, List, [], ◌∷◌, map, length, get_or, drop, slice_index, count_by, refl, sym, ap, ◌∙◌, subst, arith, bit_xor}
use Rattle.std.specs.List.{AllByRecursion}
use Rattle.std.proofs.lemmas.List.Elements.{All-from_recursion}
use Rattle.raid_params.specs.declared.types.Cell.{Cell}
use Rattle.raid_params.specs.declared.types.Part.{Part}
use Rattle.raid_terms.specs.Parity.{filled, p_holds, q_holds, sum_of, IsRow}
use Rattle.raid_terms.specs.Solving.{is_one_lost, is_q_lost, lost_byte, solved, solves}
use Rattle.row_parity.specs.Syndromes.{known_sum}
use Rattle.row_parity.proofs.Fillings.{lost, put, AreBytes, put_in_filled}
use Rattle.row_parity.proofs.Members.{In, Contains-from_In}
use Rattle.row_parity.proofs.Shapes.{length_lost}
use Rattle.pq_parity.proofs.LostColumns.{one_solution, solved_by}

-- the cells, with none missing
abbrev pub there : List Cell → List Cell
there cells = map (λ cell. record { part = cell.part; missing = false }) cells

pub there_long : (cells : List Cell) → length (there cells) ≡ length cells
there_long [] = refl
there_long (cell ∷ cells) = ap suc (there_long cells)

-- the sum of all bytes is what is known where none is missing
pub sum_there : (adds : Part → ℕ → ℕ) (cells : List Cell) (bytes : List ℕ) → sum_of adds cells bytes ≡ known_sum adds (there cells) bytes
unfolding sum_of known_sum
sum_there adds [] bytes = refl
sum_there adds (cell ∷ cells) [] = refl
sum_there adds (cell ∷ cells) (byte ∷ bytes) = ap (bit_xor (adds cell.part byte)) (sum_there adds cells bytes)

-- the bytes at the missing cells
picked : List Cell → List ℕ → List ℕ
picked [] bytes = []
picked (cell ∷ cells) [] = []
picked (cell ∷ cells) (byte ∷ bytes) = cond cell.missing (byte ∷ picked cells bytes) (picked cells bytes)

pick_fit : (t : Bool) (part : Part) (parts : List Part) (byte : ℕ) (bytes : List ℕ) → byte < 256 → AreBytes parts bytes → AreBytes (cond t (part ∷ parts) parts) (cond t (byte ∷ bytes) bytes)
pick_fit true part parts byte bytes fit rest = (fit, rest)
pick_fit false part parts byte bytes fit rest = rest

picked_fit : (cells : List Cell) (bytes : List ℕ) → length bytes ≡ length cells → AllByRecursion (λ x. x < 256) bytes → AreBytes (lost cells) (picked cells bytes)
unfolding picked
picked_fit [] bytes long fit = tt
picked_fit (cell ∷ cells) [] long fit = absurd (omega arith)
picked_fit (cell ∷ cells) (byte ∷ bytes) long fit = pick_fit cell.missing cell.part (lost cells) byte (picked cells bytes) fit.0 (picked_fit cells bytes (omega arith) fit.1)

put_back : (t : Bool) (cells : List Cell) (byte : ℕ) (bytes xs : List ℕ) → put cells bytes xs ≡ bytes →
    cond t (get_or (cond t (byte ∷ xs) xs) 0 0 ∷ put cells bytes (drop 1 (cond t (byte ∷ xs) xs))) (byte ∷ put cells bytes (cond t (byte ∷ xs) xs)) ≡ byte ∷ bytes
put_back true cells byte bytes xs e = ap (λ (bs : List ℕ). byte ∷ bs) e
put_back false cells byte bytes xs e = ap (λ (bs : List ℕ). byte ∷ bs) e

put_picked : (cells : List Cell) (bytes : List ℕ) → length bytes ≡ length cells → put cells bytes (picked cells bytes) ≡ bytes
unfolding picked
put_picked [] [] long = refl
put_picked [] (byte ∷ bytes) long = absurd (omega arith)
put_picked (cell ∷ cells) [] long = absurd (omega arith)
put_picked (cell ∷ cells) (byte ∷ bytes) long = put_back cell.missing cells byte bytes (picked cells bytes) (put_picked cells bytes (omega arith))

-- a column fills itself
own_filling : (cells : List Cell) (bytes : List ℕ) → length bytes ≡ length cells → AllByRecursion (λ x. x < 256) bytes → In (filled cells bytes) bytes
own_filling cells bytes long fit =
    subst (λ (column : List ℕ). In (filled cells bytes) column) (put_picked cells bytes long) (put_in_filled cells bytes (picked cells bytes) long (picked_fit cells bytes long fit))

both_solve : (one q : Bool) (by_p by_q : Bool) → by_p ≡ true → by_q ≡ true → cond one (cond q by_q by_p) (by_p && by_q) ≡ true
both_solve true true by_p by_q p q = q
both_solve true false by_p by_q p q = p
both_solve false true by_p by_q p q = ap (λ (b : Bool). b && by_q) p ∙ q
both_solve false false by_p by_q p q = ap (λ (b : Bool). b && by_q) p ∙ q

-- a column in which the equations hold is its own solution
pub own_solution : (cells : List Cell) (bytes : List ℕ) (place : ℕ) → IsRow cells → 1 ≤ count_by (λ c. c.missing) cells → length bytes ≡ length cells → AllByRecursion (λ x. x < 256) bytes →
    p_holds cells bytes ≡ true → q_holds cells bytes ≡ true → lost_byte cells bytes place ≡ slice_index bytes place
own_solution cells bytes place row some long fit by_p by_q =
    let unique = one_solution cells bytes row some long (All-from_recursion (λ x. x < 256) bytes fit) in
    let one : 1 ≤ length (lost cells) = omega (arith, length_lost cells) in
    let own = solved_by cells bytes row long fit one in
    let solution : solves cells bytes ≡ true = both_solve (is_one_lost cells) (is_q_lost cells) (p_holds cells bytes) (q_holds cells bytes) by_p by_q in
    let here = unique.3 bytes (Contains-from_In (filled cells bytes) bytes (own_filling cells bytes long fit)) solution in
    let there = unique.3 (solved cells bytes) (Contains-from_In (filled cells bytes) (solved cells bytes) own.4) own.5 in
    ap (λ (column : List ℕ). slice_index column place) (there ∙ sym here)
