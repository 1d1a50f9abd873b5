-- Sums over the cells of a row, taken in falling order of exponents.
use Rattle.std.proofs.Common.{ℕ, zero, suc, ◌≡◌, ◌≢◌, ◌<◌, ◌≤◌, ◌+◌, ◌-◌, Bool, true, false, cond, not, ◌&&◌, ◌==◌, nat_le, List, [], ◌∷◌, length, get_or, refl, sym, ap, ap₂, ◌∙◌, arith, bit_xor, inl, inr, add-one}
use Rattle.std.specs.List.{AllByRecursion}
use Rattle.std.specs.declared.option.Option.{Option}
use Rattle.std.specs.declared.option.Option.TheVariants.{None, Some}
use Rattle.std.proofs.lemmas.Bool.{cases_lt, eq-eqb, ne_eqb, false≢true}
use Rattle.std.proofs.lemmas.Bool.Decides.{nat_tests}
use Rattle.gf256.specs.Field.{double, product, power_of}
use Rattle.gf256.proofs.EachByte.{double-xor}
use Rattle.gf256.proofs.Sums.{sum_fits, sum_zero, sum_commutes}
use Rattle.gf256.proofs.Products.{product_fits, xor_swap}
use Rattle.gf256.proofs.Powers.{first, next, power_fits, product_one, commutes}
use Rattle.gf256.proofs.Doubling.{left_doubles}
use Rattle.raid_params.specs.declared.types.Cell.{Cell}
use Rattle.raid_params.specs.declared.types.Part.{Part}
use Rattle.raid_params.specs.declared.types.Part.TheVariants.{Block, P, Q}
use Rattle.raid_terms.specs.Parity.{in_p, in_q, is_p, is_q}
use Rattle.row_parity.specs.Known.{byte_of, falling, is_block, known_block, known_p, known_q, no_cell, same, IsPlaceOf}
use Rattle.row_parity.specs.Syndromes.{known_in, known_sum}

-- a step, and how often it was taken
pub record Stepping (d : ℕ → ℕ) (s : ℕ → ℕ → ℕ) : Type 0 where
  pub of_zero : d 0 ≡ 0
  pub of_sum : (a b : ℕ) → a < 256 → b < 256 → d (bit_xor a b) ≡ bit_xor (d a) (d b)
  pub none : (b : ℕ) → b < 256 → s 0 b ≡ b
  pub more : (m b : ℕ) → b < 256 → s (suc m) b ≡ d (s m b)
  pub fits : (m b : ℕ) → b < 256 → s m b < 256

-- Q's steps double, P's leave all as it is
abbrev pub scaled : ℕ → ℕ → ℕ
scaled m b = product (power_of m) b

abbrev pub unscaled : ℕ → ℕ → ℕ
unscaled m b = b

pub scaled_none : (b : ℕ) → b < 256 → product (power_of 0) b ≡ b
scaled_none b h = ap (λ (k : ℕ). product k b) first ∙ commutes 1 b (omega arith) h ∙ product_one b h

scaled_more : (m b : ℕ) → b < 256 → product (power_of (suc m)) b ≡ double (product (power_of m) b)
scaled_more m b h = ap (λ (k : ℕ). product k b) (rw add-one at (next m)) ∙ left_doubles (power_of m) b (power_fits m) h

pub scaled_next : (m b : ℕ) → b < 256 → product (power_of (m + 1)) b ≡ double (product (power_of m) b)
scaled_next m b h = rw add-one (scaled_more m b h)

pub by_doubling : Stepping double scaled
by_doubling = record {
  of_zero = refl;
  of_sum = double-xor;
  none = scaled_none;
  more = scaled_more;
  fits = λ m b h. product_fits (power_of m) b (power_fits m);
}

pub by_nothing : Stepping same unscaled
by_nothing = record { of_zero = refl; of_sum = λ a b ha hb. refl; none = λ b h. refl; more = λ m b h. refl; fits = λ m b h. h }

-- the sum of what the cells of a column add
abbrev pub total : (Cell → ℕ → ℕ) → List Cell → List ℕ → ℕ
total g [] bytes = 0
total g (cell ∷ cells) [] = 0
total g (cell ∷ cells) (byte ∷ bytes) = bit_xor (g cell byte) (total g cells bytes)

-- a byte where the cell passes a test
abbrev pub where_is : (Cell → Bool) → Cell → ℕ → ℕ
where_is test cell byte = cond (test cell) byte 0

-- what a cell that is there adds, of an exponent from k on
abbrev above_part : (ℕ → ℕ → ℕ) → ℕ → Part → ℕ → ℕ
above_part s k (Block e) byte = cond (nat_le k e) (s (e - k) byte) 0
above_part s k P byte = 0
above_part s k Q byte = 0

abbrev pub above : (ℕ → ℕ → ℕ) → ℕ → Cell → ℕ → ℕ
above s k cell byte = cond cell.missing 0 (above_part s k cell.part byte)

at_most : (n m : ℕ) → n ≤ m → nat_le n m ≡ true
at_most n m le = grind (arith, nat_tests)

beyond : (n m : ℕ) → m < n → nat_le n m ≡ false
beyond n m lt = grind (arith, nat_tests)

zero_sum : (a : ℕ) → bit_xor 0 a ≡ a
zero_sum a = sum_commutes 0 a ∙ sum_zero a

block_step : (d : ℕ → ℕ) (s : ℕ → ℕ → ℕ) → Stepping d s → (k e byte : ℕ) → byte < 256 →
    cond (nat_le k e) (s (e - k) byte) 0 ≡ bit_xor (d (cond (nat_le (suc k) e) (s (e - suc k) byte) 0)) (cond (e == k) byte 0)
block_step d s st k e byte h =
    elim (cases_lt k e) [
      | inl less ↦ (let a = at_most k e (omega arith) in let b = at_most (suc k) e (omega arith) in let ne : (e == k) ≡ false = ne_eqb e k (λ same. absurd (omega arith)) in
          let m : e - k ≡ suc (e - suc k) = omega arith in
          rw (a, b, ne) (ap (λ (n : ℕ). s n byte) m ∙ st.more (e - suc k) byte h ∙ sym (sum_zero (d (s (e - suc k) byte)))))
      | inr not_less ↦ elim (cases_lt e k) [
        | inl less ↦ (let a = beyond k e less in let b = beyond (suc k) e (omega arith) in let ne : (e == k) ≡ false = ne_eqb e k (λ same. absurd (omega arith)) in
            rw (a, b, ne) (sym (ap (λ (v : ℕ). bit_xor v 0) st.of_zero ∙ sum_zero 0)))
        | inr alike ↦ (let same : e ≡ k = omega arith in let a = at_most k e (omega arith) in let b = beyond (suc k) e (omega arith) in let eq : (e == k) ≡ true = eq-eqb e k same in
            let m : e - k ≡ 0 = omega arith in
            rw (a, b, eq) (ap (λ (n : ℕ). s n byte) m ∙ st.none byte h ∙ sym (ap (λ (v : ℕ). bit_xor v byte) st.of_zero ∙ zero_sum byte)))
      ]
    ]

nothing_step : (d : ℕ → ℕ) (s : ℕ → ℕ → ℕ) → Stepping d s → 0 ≡ bit_xor (d 0) 0
nothing_step d s st = sym (sum_zero (d 0) ∙ st.of_zero)

cell_step : (d : ℕ → ℕ) (s : ℕ → ℕ → ℕ) → Stepping d s → (k : ℕ) (missing : Bool) (part : Part) (byte : ℕ) → byte < 256 →
    cond missing 0 (above_part s k part byte) ≡ bit_xor (d (cond missing 0 (above_part s (suc k) part byte))) (cond (not missing && is_block k part) byte 0)
cell_step d s st k true part byte h = nothing_step d s st
cell_step d s st k false P byte h = nothing_step d s st
cell_step d s st k false Q byte h = nothing_step d s st
cell_step d s st k false (Block e) byte h = block_step d s st k e byte h

part_fits : (d : ℕ → ℕ) (s : ℕ → ℕ → ℕ) → Stepping d s → (k : ℕ) (part : Part) (byte : ℕ) → byte < 256 → above_part s k part byte < 256
part_fits d s st k P byte h = omega arith
part_fits d s st k Q byte h = omega arith
part_fits d s st k (Block e) byte h = either (nat_le k e)
  where
    either : (t : Bool) → cond t (s (e - k) byte) 0 < 256
    either true = st.fits (e - k) byte h
    either false = omega arith

above_fits : (d : ℕ → ℕ) (s : ℕ → ℕ → ℕ) → Stepping d s → (k : ℕ) (missing : Bool) (part : Part) (byte : ℕ) → byte < 256 → cond missing 0 (above_part s k part byte) < 256
above_fits d s st k true part byte h = omega arith
above_fits d s st k false part byte h = part_fits d s st k part byte h

total_fits : (d : ℕ → ℕ) (s : ℕ → ℕ → ℕ) → Stepping d s → (k : ℕ) (cells : List Cell) (bytes : List ℕ) → AllByRecursion (λ b. b < 256) bytes → total (above s k) cells bytes < 256
total_fits d s st k [] bytes fit = omega arith
total_fits d s st k (cell ∷ cells) [] fit = omega arith
total_fits d s st k (cell ∷ cells) (byte ∷ bytes) fit =
    sum_fits (above s k cell byte) (total (above s k) cells bytes) (above_fits d s st k cell.missing cell.part byte fit.0) (total_fits d s st k cells bytes fit.1)

-- the sum from an exponent on, by that from the next
total_step : (d : ℕ → ℕ) (s : ℕ → ℕ → ℕ) → Stepping d s → (k : ℕ) (cells : List Cell) (bytes : List ℕ) → AllByRecursion (λ b. b < 256) bytes →
    total (above s k) cells bytes ≡ bit_xor (d (total (above s (suc k)) cells bytes)) (total (where_is (known_block k)) cells bytes)
total_step d s st k [] bytes fit = nothing_step d s st
total_step d s st k (cell ∷ cells) [] fit = nothing_step d s st
total_step d s st k (cell ∷ cells) (byte ∷ bytes) fit =
    ap₂ bit_xor (cell_step d s st k cell.missing cell.part byte fit.0) (total_step d s st k cells bytes fit.1)
    ∙ xor_swap (d (above s (suc k) cell byte)) (where_is (known_block k) cell byte) (d (total (above s (suc k)) cells bytes)) (total (where_is (known_block k)) cells bytes)
    ∙ ap (λ (v : ℕ). bit_xor v (bit_xor (where_is (known_block k) cell byte) (total (where_is (known_block k)) cells bytes)))
    (sym (st.of_sum (above s (suc k) cell byte) (total (above s (suc k)) cells bytes) (above_fits d s st (suc k) cell.missing cell.part byte fit.0) (total_fits d s st (suc k) cells bytes fit.1)))

-- no cell passes
total_none : (test : Cell → Bool) (cells : List Cell) (bytes : List ℕ) → ((i : ℕ) → i < length cells → test (get_or cells i no_cell) ≡ false) → total (where_is test) cells bytes ≡ 0
total_none test [] bytes none = refl
total_none test (cell ∷ cells) [] none = refl
total_none test (cell ∷ cells) (byte ∷ bytes) none =
    ap₂ (λ (t : Bool) (v : ℕ). bit_xor (cond t byte 0) v) (none 0 (omega arith)) (total_none test cells bytes (λ i h. none (suc i) (omega arith))) ∙ sum_zero 0

-- one alone passes
total_one : (test : Cell → Bool) (cells : List Cell) (bytes : List ℕ) (place : ℕ) → place < length cells → length bytes ≡ length cells → test (get_or cells place no_cell) ≡ true →
    ((i : ℕ) → i < length cells → i ≢ place → test (get_or cells i no_cell) ≡ false) → total (where_is test) cells bytes ≡ get_or bytes place 0
total_one test [] bytes place h e is others = absurd (omega arith)
total_one test (cell ∷ cells) [] place h e is others = absurd (omega arith)
total_one test (cell ∷ cells) (byte ∷ bytes) zero h e is others =
    ap₂ (λ (t : Bool) (v : ℕ). bit_xor (cond t byte 0) v) is (total_none test cells bytes (λ i below. others (suc i) (omega arith) (λ same. absurd (omega arith)))) ∙ sum_zero byte
total_one test (cell ∷ cells) (byte ∷ bytes) (suc place) h e is others =
    ap₂ (λ (t : Bool) (v : ℕ). bit_xor (cond t byte 0) v) (others 0 (omega arith) (λ same. absurd (omega arith)))
    (total_one test cells bytes place (omega arith) (omega arith) is (λ i below apart. others (suc i) (omega arith) (λ same. apart (omega arith)))) ∙ zero_sum (get_or bytes place 0)

pub total_at : (test : Cell → Bool) (cells : List Cell) (bytes : List ℕ) (f : ℕ → ℕ) (place : Option ℕ) → length bytes ≡ length cells → ((i : ℕ) → i < length cells → get_or bytes i 0 ≡ f i) →
    IsPlaceOf test cells (length cells) place → total (where_is test) cells bytes ≡ byte_of place f
total_at test cells bytes f None e is none = total_none test cells bytes none
total_at test cells bytes f (Some place) e is at = total_one test cells bytes place at.0 e at.1 at.2 ∙ is place at.0

pub falling_start : (d : ℕ → ℕ) (places : List (Option ℕ)) (end : ℕ) (f : ℕ → ℕ) → 0 ≡ falling d places end 0 f
unfolding falling
falling_start d places end f = refl

pub falling_more : (d : ℕ → ℕ) (places : List (Option ℕ)) (end m : ℕ) (f : ℕ → ℕ) (k : ℕ) → k ≡ end - 1 - m →
    bit_xor (d (falling d places end m f)) (byte_of (get_or places k None) f) ≡ falling d places end (m + 1) f
unfolding falling
falling_more d places end m f k e =
    let at : k ≡ end - suc m = omega arith in
    rw add-one (ap (λ (i : ℕ). bit_xor (d (falling d places end m f)) (byte_of (get_or places i None) f)) at)

none_above : (s : ℕ → ℕ → ℕ) (n : ℕ) (cells : List Cell) (bytes : List ℕ) → ((i e : ℕ) → i < length cells → n ≤ e → known_block e (get_or cells i no_cell) ≡ false) → total (above s n) cells bytes ≡ 0
none_above s n [] bytes none = refl
none_above s n (cell ∷ cells) [] none = refl
none_above s n (cell ∷ cells) (byte ∷ bytes) none =
    ap₂ bit_xor (cell_none cell.missing cell.part (λ e low. none 0 e (omega arith) low)) (none_above s n cells bytes (λ i e h low. none (suc i) e (omega arith) low)) ∙ sum_zero 0
  where
    cell_none : (missing : Bool) (part : Part) → ((e : ℕ) → n ≤ e → (not missing && is_block e part) ≡ false) → cond missing 0 (above_part s n part byte) ≡ 0
    cell_none true part h = refl
    cell_none false P h = refl
    cell_none false Q h = refl
    cell_none false (Block e) h =
        elim (cases_lt e n) [
          | inl below ↦ ap (λ (t : Bool). cond t (s (e - n) byte) 0) (beyond n e below)
          | inr up ↦ absurd (false≢true (sym (h e (omega arith)) ∙ eq-eqb e e refl))
        ]

pub falling_is : (d : ℕ → ℕ) (s : ℕ → ℕ → ℕ) → Stepping d s → (places : List (Option ℕ)) (end m : ℕ) (f : ℕ → ℕ) (cells : List Cell) (bytes : List ℕ) →
    m ≤ end → end ≤ 256 → AllByRecursion (λ b. b < 256) bytes → length bytes ≡ length cells → ((i : ℕ) → i < length cells → get_or bytes i 0 ≡ f i) →
    ((k : ℕ) → k < 256 → IsPlaceOf (known_block k) cells (length cells) (get_or places k None)) →
    ((i e : ℕ) → i < length cells → end ≤ e → known_block e (get_or cells i no_cell) ≡ false) →
    falling d places end m f ≡ total (above s (end - m)) cells bytes
unfolding falling
falling_is d s st places end zero f cells bytes le short fit e is at none =
    let k : end - 0 ≡ end = omega arith in
    sym (ap (λ (n : ℕ). total (above s n) cells bytes) k ∙ none_above s end cells bytes none)
falling_is d s st places end (suc m) f cells bytes le short fit e is at none =
    let k : end - m ≡ suc (end - suc m) = omega arith in
    ap₂ (λ (a b : ℕ). bit_xor (d a) b)
    (falling_is d s st places end m f cells bytes (omega arith) short fit e is at none ∙ ap (λ (n : ℕ). total (above s n) cells bytes) k)
    (sym (total_at (known_block (end - suc m)) cells bytes f (get_or places (end - suc m) None) e is (at (end - suc m) (omega arith))))
    ∙ sym (total_step d s st (end - suc m) cells bytes fit)

-- what is known is what the data cells add, and P or Q
total_pair : (g h m : Cell → ℕ → ℕ) → ((cell : Cell) (byte : ℕ) → g cell byte ≡ bit_xor (h cell byte) (m cell byte)) → (cells : List Cell) (bytes : List ℕ) →
    total g cells bytes ≡ bit_xor (total h cells bytes) (total m cells bytes)
total_pair g h m each [] bytes = refl
total_pair g h m each (cell ∷ cells) [] = refl
total_pair g h m each (cell ∷ cells) (byte ∷ bytes) =
    ap₂ bit_xor (each cell byte) (total_pair g h m each cells bytes) ∙ xor_swap (h cell byte) (m cell byte) (total h cells bytes) (total m cells bytes)

known_total : (adds : Part → ℕ → ℕ) (cells : List Cell) (bytes : List ℕ) → known_sum adds cells bytes ≡ total (known_in adds) cells bytes
unfolding known_sum
known_total adds [] bytes = refl
known_total adds (cell ∷ cells) [] = refl
known_total adds (cell ∷ cells) (byte ∷ bytes) = ap (bit_xor (known_in adds cell byte)) (known_total adds cells bytes)

q_parts : (missing : Bool) (part : Part) (byte : ℕ) → cond missing 0 (in_q part byte) ≡ bit_xor (cond missing 0 (above_part scaled 0 part byte)) (cond (not missing && is_q part) byte 0)
q_parts true part byte = refl
q_parts false (Block e) byte =
    let a = at_most 0 e (omega arith) in
    let k : e ≡ e - 0 = omega arith in
    rw a (ap (λ (n : ℕ). product (power_of n) byte) k ∙ sym (sum_zero (product (power_of (e - 0)) byte)))
q_parts false P byte = refl
q_parts false Q byte = sym (zero_sum byte)

p_parts : (missing : Bool) (part : Part) (byte : ℕ) → cond missing 0 (in_p part byte) ≡ bit_xor (cond missing 0 (above_part unscaled 0 part byte)) (cond (not missing && is_p part) byte 0)
p_parts true part byte = refl
p_parts false (Block e) byte = let a = at_most 0 e (omega arith) in rw a (sym (sum_zero byte))
p_parts false P byte = sym (zero_sum byte)
p_parts false Q byte = refl

pub known_q_is : (cells : List Cell) (bytes : List ℕ) → known_sum in_q cells bytes ≡ bit_xor (total (above scaled 0) cells bytes) (total (where_is known_q) cells bytes)
known_q_is cells bytes = known_total in_q cells bytes ∙ total_pair (known_in in_q) (above scaled 0) (where_is known_q) (λ cell byte. q_parts cell.missing cell.part byte) cells bytes

pub known_p_is : (cells : List Cell) (bytes : List ℕ) → known_sum in_p cells bytes ≡ bit_xor (total (above unscaled 0) cells bytes) (total (where_is known_p) cells bytes)
known_p_is cells bytes = known_total in_p cells bytes ∙ total_pair (known_in in_p) (above unscaled 0) (where_is known_p) (λ cell byte. p_parts cell.missing cell.part byte) cells bytes
