-- Rows of zeros are sound.
use Rattle.std.proofs.Common.{ℕ, zero, suc, ◌≡◌, ◌<◌, ◌≤◌, ◌+◌, ◌*◌, Bool, true, false, cond, List, [], ◌∷◌, length, map, get_or, bit_xor, refl, sym, ap, ◌∙◌, arith, Option, Some, None, IfSome}
use Rattle.std.proofs.lemmas.Bool.{and_from}
use Rattle.std.proofs.lemmas.List.{length-map}
use Rattle.std.specs.List.{AllByRecursion, list_all, range_with_len}
use Rattle.gf256.proofs.Products.{product_zero}
use Rattle.gf256.proofs.Sums.{sum_zero}
use Rattle.gf256.specs.Field.{power_of}
use Rattle.raid_params.specs.declared.types.Cell.{Cell}
use Rattle.raid_params.specs.declared.types.Part.{Part}
use Rattle.raid_params.specs.declared.types.Part.TheVariants.{Block, P, Q}
use Rattle.raid_params.specs.declared.types.Geometry.{Geometry}
use Rattle.raid_terms.specs.Parity.{in_p, in_q, is_sound, is_sound_column}
use Rattle.row_parity.specs.Syndromes.{known_in, known_sum}
use Rattle.row_parity.proofs.Columns.{sound}
use Rattle.row_parity.proofs.Fillings.{AreBytes, lost}
use Rattle.row_parity.proofs.RowSums.{part_sum}
use Rattle.member_regions.proofs.Sets.{row_length}
use Rattle.member_regions.specs.Regions.{Room}
use Rattle.member_regions.specs.ImageSums.{IsBlankAt, room_byte}
use Rattle.parity_scan.specs.ChunkRows.{IsChunkRow}
use Rattle.parity_scan.specs.ImageSums.{held_byte, slots_column}
use Rattle.parity_scan.specs.declared.left_out.ChunkRow.{ChunkRow}

-- what adds nothing where the byte is 0
abbrev AddsNothing : (Part → ℕ → ℕ) → Type 0
AddsNothing adds = (part : Part) → adds part 0 ≡ 0

p_nothing : AddsNothing in_p
p_nothing (Block k) = refl
p_nothing P = refl
p_nothing Q = refl

q_nothing : AddsNothing in_q
q_nothing (Block k) = product_zero (power_of k)
q_nothing P = refl
q_nothing Q = refl

known_nothing : (adds : Part → ℕ → ℕ) → AddsNothing adds → (missing : Bool) (part : Part) → cond missing 0 (adds part 0) ≡ 0
known_nothing adds none true part = refl
known_nothing adds none false part = none part

-- zeros add up to 0
zeros_sum : (adds : Part → ℕ → ℕ) → AddsNothing adds → (cells : List Cell) (bytes : List ℕ) → AllByRecursion (λ b. b ≡ 0) bytes → known_sum adds cells bytes ≡ 0
unfolding known_sum
zeros_sum adds none [] bytes zeros = refl
zeros_sum adds none (cell ∷ cells) [] zeros = refl
zeros_sum adds none (cell ∷ cells) (byte ∷ bytes) zeros =
    ap (λ (b : ℕ). bit_xor (known_in adds cell b) (known_sum adds cells bytes)) zeros.0
    ∙ ap (bit_xor (known_in adds cell 0)) (zeros_sum adds none cells bytes zeros.1) ∙ sum_zero (known_in adds cell 0) ∙ known_nothing adds none cell.missing cell.part

parts_sum : (adds : Part → ℕ → ℕ) → AddsNothing adds → (parts : List Part) → part_sum adds parts (map (λ part. 0) parts) ≡ 0
parts_sum adds none [] = refl
parts_sum adds none (part ∷ parts) = ap (bit_xor (adds part 0)) (parts_sum adds none parts) ∙ sum_zero (adds part 0) ∙ none part

zeros_fit : (parts : List Part) → AreBytes parts (map (λ part. 0) parts)
zeros_fit [] = tt
zeros_fit (part ∷ parts) = (omega arith, zeros_fit parts)

both_nothing : (a b : ℕ) → a ≡ 0 → b ≡ 0 → bit_xor a b ≡ 0
both_nothing a b ea eb = ap (bit_xor a) eb ∙ sum_zero a ∙ ea

column_sound : (cells : List Cell) (bytes : List ℕ) → length bytes ≡ length cells → AllByRecursion (λ b. b ≡ 0) bytes → is_sound_column cells bytes ≡ true
column_sound cells bytes long zeros =
    sound cells bytes (map (λ part. 0) (lost cells)) long (zeros_fit (lost cells)) (record {
      by_p = λ there. both_nothing (known_sum in_p cells bytes) (part_sum in_p (lost cells) (map (λ part. 0) (lost cells))) (zeros_sum in_p p_nothing cells bytes zeros) (parts_sum in_p p_nothing (lost cells));
      by_q = λ there. both_nothing (known_sum in_q cells bytes) (part_sum in_q (lost cells) (map (λ part. 0) (lost cells))) (zeros_sum in_q q_nothing cells bytes zeros) (parts_sum in_q q_nothing (lost cells));
    })

all_columns : (f : ℕ → Bool) (a n : ℕ) → ((x : ℕ) → a ≤ x → x < a + n → f x ≡ true) → list_all f (range_with_len a n) ≡ true
all_columns f a zero h = refl
all_columns f a (suc n) h =
    and_from (f a) (list_all f (range_with_len (a + 1) n)) (h a (omega arith) (omega arith)) (all_columns f (a + 1) n (λ x low high. h x (omega arith) (omega arith)))

slots_zero : (f : ℕ → ℕ) (slots : List (Option ℕ)) (n : ℕ) → ((image : ℕ) → image < n → f image ≡ 0) → ((k : ℕ) (d : Option ℕ) → k < length slots → IfSome (get_or slots k d) (λ image. image < n)) →
    AllByRecursion (λ b. b ≡ 0) (map (held_byte f) slots)
slots_zero f [] n none held = tt
slots_zero f (None ∷ slots) n none held = (refl, slots_zero f slots n none (λ k d below. held (suc k) d (omega arith)))
slots_zero f (Some image ∷ slots) n none held = (none image (held 0 None (omega arith)), slots_zero f slots n none (λ k d below. held (suc k) d (omega arith)))

-- a row of zeros is sound
pub blank_sound : (geo : Geometry) (n place : ℕ) (room : Room) (row : ChunkRow) → IsChunkRow geo n row.at row → row.within ≡ true → IsBlankAt room n place →
    true ≡ is_sound row.cells.items (slots_column room geo.slots.items place)
unfolding is_sound
blank_sound geo n place room row is within blank =
    sym (all_columns (λ x. is_sound_column row.cells.items (slots_column room geo.slots.items place x)) 0 512
    (λ x low high.
    column_sound row.cells.items (slots_column room geo.slots.items place x)
    (length-map geo.slots.items (held_byte (room_byte room (512 * place + x))) ∙ sym (row_length geo row.at row.cells.items is.cells))
    (slots_zero (room_byte room (512 * place + x)) geo.slots.items n (λ image inside. blank image x inside (omega arith)) (is.within within))))
