-- Sums over strips of columns.
use Rattle.std.proofs.Common.{ℕ, ◌≡◌, ◌<◌, ◌+◌, ◌-◌, ◌*◌, List, [], length, take, get_or, map, refl, sym, ap, ap₂, ◌∙◌, arith, bit_xor, slice_index, true, inl, inr, subst}
use Rattle.std.specs.List.{range_with_len, AllByRecursion}
use Rattle.std.proofs.lemmas.List.FromFn.{length-map-range_with_len, get_or-map-range_with_len}
use Rattle.std.proofs.lemmas.Bool.{cases_lt}
use Rattle.gf256.specs.Field.{double}
use Rattle.raid_params.specs.declared.types.Cell.{Cell}
use Rattle.raid_terms.specs.Parity.{has_q, in_p, in_q, IsRow}
use Rattle.row_parity.specs.Known.{byte_of, falling, known_p, known_q, same, ArePlaces}
use Rattle.row_parity.specs.Regions.{region_byte, region_column}
use Rattle.row_parity.specs.Syndromes.{known_in, known_sum, sum_at}
use Rattle.row_parity.specs.declared.known.Known.{Known}
use Rattle.row_parity.proofs.Apart.{none_above}
use Rattle.row_parity.proofs.Horner.{above, by_doubling, by_nothing, falling_is, known_p_is, known_q_is, scaled, total, total_at, unscaled}
use Rattle.row_parity.proofs.Regions.{map_same}
use Rattle.row_parity.proofs.Soundness.{HasBytes, region_columns}
use Rattle.row_parity.proofs.Steps.{sum_more}

-- one more cell
pub one_more_p : (cells : List Cell) (f : ℕ → ℕ) (i : ℕ) (d : Cell) (before bytes after : ℕ) → i < length cells →
    before ≡ known_sum in_p (take i cells) (map f (range_with_len 0 (length cells))) → bytes ≡ known_in in_p (get_or cells i d) (f i) → after ≡ bit_xor before bytes →
    after ≡ known_sum in_p (take (i + 1) cells) (map f (range_with_len 0 (length cells)))
one_more_p cells f i d before bytes after h was here e =
    e ∙ ap₂ bit_xor was (here ∙ ap (known_in in_p (get_or cells i d)) (sym (get_or-map-range_with_len f 0 (length cells) i i 0 h (omega arith))))
    ∙ sym (sum_more in_p cells (λ x. map f (range_with_len 0 (length cells))) 0 i d h (length-map-range_with_len f 0 (length cells)))

-- the column of a lane
pub lane_column : (sectors : List ℕ) (n stride j at lane x : ℕ) → at + lane ≡ 512 * j + x → map (region_byte sectors stride (at + lane)) (range_with_len 0 n) ≡ region_column n stride sectors j x
lane_column sectors n stride j at lane x e =
    map_same (region_byte sectors stride (at + lane)) (λ i. slice_index sectors (stride * i + (512 * j + x))) 0 n (λ i low high. ap (λ (y : ℕ). slice_index sectors (stride * i + y)) e)

-- the sums of both equations
pub both_q : (cells : List Cell) (known : Known) (f : ℕ → ℕ) (bytes : List ℕ) → IsRow cells → has_q cells ≡ true → ArePlaces cells (length cells) known → AllByRecursion (λ b. b < 256) bytes →
    length bytes ≡ length cells → ((i : ℕ) → i < length cells → get_or bytes i 0 ≡ f i) →
    bit_xor (falling double known.data_places known.end known.end f) (byte_of known.q f) ≡ known_sum in_q cells bytes
both_q cells known f bytes row q are fit long is =
    let none : known.end - known.end ≡ 0 = omega arith in
    ap₂ bit_xor
    (falling_is double scaled by_doubling known.data_places known.end known.end f cells bytes (omega arith) are.end_at fit long is are.data_at (none_above cells known row q are)
    ∙ ap (λ (k : ℕ). total (above scaled k) cells bytes) none)
    (sym (total_at known_q cells bytes f known.q long is are.q_at))
    ∙ sym (known_q_is cells bytes)

pub both_p : (cells : List Cell) (known : Known) (f : ℕ → ℕ) (bytes : List ℕ) → IsRow cells → has_q cells ≡ true → ArePlaces cells (length cells) known → AllByRecursion (λ b. b < 256) bytes →
    length bytes ≡ length cells → ((i : ℕ) → i < length cells → get_or bytes i 0 ≡ f i) →
    bit_xor (falling same known.data_places known.end known.end f) (byte_of known.p f) ≡ known_sum in_p cells bytes
both_p cells known f bytes row q are fit long is =
    let none : known.end - known.end ≡ 0 = omega arith in
    ap₂ bit_xor
    (falling_is same unscaled by_nothing known.data_places known.end known.end f cells bytes (omega arith) are.end_at fit long is are.data_at (none_above cells known row q are)
    ∙ ap (λ (k : ℕ). total (above unscaled k) cells bytes) none)
    (sym (total_at known_p cells bytes f known.p long is are.p_at))
    ∙ sym (known_p_is cells bytes)

-- no cell yet
pub none_p : (bytes : List ℕ) → 0 ≡ known_sum in_p [] bytes
unfolding known_sum
none_p bytes = refl

-- they are those of the columns
pub strip_q : (cells : List Cell) (known : Known) (sectors : List ℕ) (stride j at lane x : ℕ) → at + lane ≡ 512 * j + x → IsRow cells → has_q cells ≡ true → ArePlaces cells (length cells) known → HasBytes sectors →
    bit_xor (falling double known.data_places known.end known.end (region_byte sectors stride (at + lane))) (byte_of known.q (region_byte sectors stride (at + lane)))
    ≡ sum_at in_q cells (region_column (length cells) stride sectors j) x
strip_q cells known sectors stride j at lane x e row q are bytes =
    let column : List ℕ = region_column (length cells) stride sectors j x in
    let columns = region_columns cells sectors stride j bytes x in
    both_q cells known (region_byte sectors stride (at + lane)) (region_column (length cells) stride sectors j x) row q are columns.1 columns.0
    (λ i h. get_or-map-range_with_len (λ i. slice_index sectors (stride * i + (512 * j + x))) 0 (length cells) i i 0 h (omega arith) ∙ ap (λ (y : ℕ). slice_index sectors (stride * i + y)) (sym e))

pub strip_p : (cells : List Cell) (known : Known) (sectors : List ℕ) (stride j at lane x : ℕ) → at + lane ≡ 512 * j + x → IsRow cells → has_q cells ≡ true → ArePlaces cells (length cells) known → HasBytes sectors →
    bit_xor (falling same known.data_places known.end known.end (region_byte sectors stride (at + lane))) (byte_of known.p (region_byte sectors stride (at + lane)))
    ≡ sum_at in_p cells (region_column (length cells) stride sectors j) x
strip_p cells known sectors stride j at lane x e row q are bytes =
    let columns = region_columns cells sectors stride j bytes x in
    both_p cells known (region_byte sectors stride (at + lane)) (region_column (length cells) stride sectors j x) row q are columns.1 columns.0
    (λ i h. get_or-map-range_with_len (λ i. slice_index sectors (stride * i + (512 * j + x))) 0 (length cells) i i 0 h (omega arith) ∙ ap (λ (y : ℕ). slice_index sectors (stride * i + y)) (sym e))

-- what holds of a strip and of the columns before it
pub columns_more : (P : ℕ → Type 0) (strip : ℕ) → ((x : ℕ) → x < 64 * strip → P x) → ((lane : ℕ) → lane < 64 → P (64 * strip + lane)) → (x : ℕ) → x < 64 * (strip + 1) → P x
columns_more P strip before here x h =
    elim (cases_lt x (64 * strip)) [
      | inl less ↦ before x less
      | inr more ↦ (let e : 64 * strip + (x - 64 * strip) ≡ x = omega arith in subst P e (here (x - 64 * strip) (omega arith)))
    ]

-- what a test says of a strip it says of its columns
pub lane_passes : (P : ℕ → ℕ → Type 0) (p q : List ℕ) (f g : ℕ → ℕ) (strip : ℕ) → ((lane : ℕ) → lane < 64 → slice_index p lane ≡ f (64 * strip + lane)) →
    ((lane : ℕ) → lane < 64 → slice_index q lane ≡ g (64 * strip + lane)) → ((lane : ℕ) → lane < 64 → P (slice_index p lane) (slice_index q lane)) →
    (lane : ℕ) → lane < 64 → P (f (64 * strip + lane)) (g (64 * strip + lane))
lane_passes P p q f g strip is_p is_q pass lane h = subst (λ (a : ℕ). P a (g (64 * strip + lane))) (is_p lane h) (subst (P (slice_index p lane)) (is_q lane h) (pass lane h))

pub column_passes : (P : ℕ → ℕ → Type 0) (p q : List ℕ) (f g : ℕ → ℕ) (strip : ℕ) → strip < 8 → ((lane : ℕ) → lane < 64 → slice_index p lane ≡ f (64 * strip + lane)) →
    ((lane : ℕ) → lane < 64 → slice_index q lane ≡ g (64 * strip + lane)) → ((x : ℕ) → x < 512 → P (f x) (g x)) →
    (lane : ℕ) → lane < 64 → P (slice_index p lane) (slice_index q lane)
column_passes P p q f g strip few is_p is_q all lane h =
    subst (λ (a : ℕ). P a (slice_index q lane)) (sym (is_p lane h)) (subst (P (f (64 * strip + lane))) (sym (is_q lane h)) (all (64 * strip + lane) (omega arith)))
