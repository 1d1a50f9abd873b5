-- The one equation that decides a row.
use Rattle.std.proofs.Common.{ℕ, zero, suc, inl, inr, ◌≡◌, ◌≢◌, ◌<◌, ◌+◌, ◌*◌, Bool, true, false, cond, List, [], ◌∷◌, length, map, min, take, set, get_or, bit_xor, replicate, refl, sym, ap, subst, ◌∙◌, arith, add-one, Option, Some, None, IfSome}
use Rattle.std.proofs.Math.ListN.{get_or-eq_default}
use Rattle.std.proofs.lemmas.Bool.{cases_lt, false≢true}
use Rattle.std.proofs.lemmas.List.{get_or-map, get_or-replicate, get_or-set_other, get_or-set_same, length-map}
use Rattle.std.specs.Bool.{Decides}
use Rattle.std.specs.List.{AllByRecursion, find}
use Rattle.std.specs.Option.{option_map}
use Rattle.gf256.specs.Field.{product, power_of}
use Rattle.gf256.proofs.Sums.{sum_associates, sum_commutes, sum_fits, sum_zero}
use Rattle.gf256.proofs.Products.{additive_left, additive_right, associates, product_fits, product_zero, product_zero_left}
use Rattle.gf256.proofs.Powers.{commutes, power_fits, product_one}
use Rattle.gf256.proofs.Undoing.{no_divisor}
use Rattle.raid_params.specs.declared.types.Cell.{Cell}
use Rattle.raid_params.specs.declared.types.Part.{Part}
use Rattle.raid_params.specs.declared.types.Part.TheVariants.{Block, P, Q}
use Rattle.raid_terms.specs.Parity.{filled, has_q, in_p, in_q, is_sound, IsRow}
use Rattle.row_parity.specs.Syndromes.{AllCancel, AreColumns, Cancel, CancelByP, known_in, known_sum, sum_at}
use Rattle.row_parity.proofs.RowSums.{in_p_fits, in_q_fits}
use Rattle.row_parity.proofs.Soundness.{NotFull, sound_where_whole, sound_without_data, sound_without_p, sound_without_q, sum_at_fits}
use Rattle.member_regions.specs.ImageSums.{room_byte}
use Rattle.member_regions.specs.Regions.{Room}
use Rattle.parity_scan.specs.Equations.{AreBytesAt, DecideRow, factor_sum, IsMet, MixDecides, mixed_sum}
use Rattle.parity_scan.specs.ImageSums.{held_byte, slots_column}
use Rattle.parity_scan.specs.declared.equations.Mix.{Mix}
use Rattle.parity_scan.specs.declared.known_rows.KnownRow.{KnownRow}
use Rattle.parity_scan.proofs.Columns.{sound_alike}

-- the factors are bytes
abbrev pub AreFactors : List ℕ → Type 0
AreFactors factors = (i : ℕ) → get_or factors i 0 < 256

-- a + c is c + a, after b
swap_after : (a b c : ℕ) → bit_xor (bit_xor a b) c ≡ bit_xor (bit_xor a c) b
swap_after a b c = sum_associates a b c ∙ ap (bit_xor a) (sum_commutes b c) ∙ sym (sum_associates a c b)

-- the middle two change places
xor_swap : (a b c d : ℕ) → bit_xor (bit_xor a b) (bit_xor c d) ≡ bit_xor (bit_xor a c) (bit_xor b d)
xor_swap a b c d =
    sym (sum_associates (bit_xor a b) c d) ∙ ap (λ (s : ℕ). bit_xor s d) (swap_after a b c) ∙ sum_associates (bit_xor a c) b d

-- factors that are alike below n
alike : (f : ℕ → ℕ) (factors others : List ℕ) (n : ℕ) → ((j : ℕ) → j < n → get_or others j 0 ≡ get_or factors j 0) → factor_sum f others n ≡ factor_sum f factors n
unfolding factor_sum
alike f factors others zero same = refl
alike f factors others (suc n) same =
    ap (λ (w : ℕ). bit_xor (factor_sum f others n) (product w (f n))) (same n (omega arith))
    ∙ ap (λ (a : ℕ). bit_xor a (product (get_or factors n 0) (f n))) (alike f factors others n (λ j less. same j (omega arith)))

-- more is added to one factor
added : (f : ℕ → ℕ) (factors others : List ℕ) (n i by : ℕ) → i < n → get_or factors i 0 < 256 → by < 256 → get_or others i 0 ≡ bit_xor (get_or factors i 0) by →
    ((j : ℕ) → j ≢ i → get_or others j 0 ≡ get_or factors j 0) → factor_sum f others n ≡ bit_xor (factor_sum f factors n) (product by (f i))
unfolding factor_sum
added f factors others zero i by inside fits small here same = absurd (omega arith)
added f factors others (suc n) i by inside fits small here same =
    elim (cases_lt i n) [
      | inl less ↦
          ap (λ (w : ℕ). bit_xor (factor_sum f others n) (product w (f n))) (same n (omega arith))
          ∙ ap (λ (a : ℕ). bit_xor a (product (get_or factors n 0) (f n))) (added f factors others n i by less fits small here same)
          ∙ swap_after (factor_sum f factors n) (product by (f i)) (product (get_or factors n 0) (f n))
      | inr more ↦
          (let at : i ≡ n = omega arith in
          let fits' : get_or factors n 0 < 256 = subst (λ (k : ℕ). get_or factors k 0 < 256) at fits in
          let here' : get_or others n 0 ≡ bit_xor (get_or factors n 0) by = subst (λ (k : ℕ). get_or others k 0 ≡ bit_xor (get_or factors k 0) by) at here in
          ap (λ (w : ℕ). bit_xor (factor_sum f others n) (product w (f n))) here'
          ∙ ap (bit_xor (factor_sum f others n)) (additive_left (get_or factors n 0) by (f n) fits' small)
          ∙ ap (λ (a : ℕ). bit_xor a (bit_xor (product (get_or factors n 0) (f n)) (product by (f n)))) (alike f factors others n (λ j less. same j (omega arith)))
          ∙ sym (sum_associates (factor_sum f factors n) (product (get_or factors n 0) (f n)) (product by (f n)))
          ∙ ap (λ (k : ℕ). bit_xor (bit_xor (factor_sum f factors n) (product (get_or factors n 0) (f n))) (product by (f k))) (sym at))
    ]

-- the same where it is written
pub factor_added : (f : ℕ → ℕ) (factors : List ℕ) (i by sum : ℕ) (held : Option ℕ) → i < 24 → length factors ≡ 24 → get_or factors i 0 < 256 → by < 256 →
    sum ≡ bit_xor (get_or factors i 0) by → held ≡ Some i → factor_sum f (set factors i sum) 24 ≡ bit_xor (factor_sum f factors 24) (product by (held_byte f held))
factor_added f factors i by sum held inside long fit small is there =
    added f factors (set factors i sum) 24 i by inside fit small (get_or-set_same factors i sum 0 (omega arith) ∙ is)
    (λ j other. get_or-set_other factors i j sum 0 other)
    ∙ ap (λ (h : Option ℕ). bit_xor (factor_sum f factors 24) (product by (held_byte f h))) (sym there)

-- where no image is there nothing is added
pub nothing_added : (f : ℕ → ℕ) (factors : List ℕ) (factor : ℕ) (held : Option ℕ) → held ≡ None → factor_sum f factors 24 ≡ bit_xor (factor_sum f factors 24) (product factor (held_byte f held))
nothing_added f factors factor held none =
    sym (ap (λ (h : Option ℕ). bit_xor (factor_sum f factors 24) (product factor (held_byte f h))) none ∙ ap (bit_xor (factor_sum f factors 24)) (product_zero factor) ∙ sum_zero (factor_sum f factors 24))

-- each factor multiplied by the same
pub factors_scaled : (f : ℕ → ℕ) (factors others : List ℕ) (by n : ℕ) → by < 256 → AreFactors factors → ((i : ℕ) → i < n → get_or others i 0 ≡ product by (get_or factors i 0)) →
    factor_sum f others n ≡ product by (factor_sum f factors n)
unfolding factor_sum
factors_scaled f factors others by zero small fit same = sym (product_zero by)
factors_scaled f factors others by (suc n) small fit same =
    ap (λ (w : ℕ). bit_xor (factor_sum f others n) (product w (f n))) (same n (omega arith))
    ∙ ap (λ (a : ℕ). bit_xor a (product (product by (get_or factors n 0)) (f n))) (factors_scaled f factors others by n small fit (λ i less. same i (omega arith)))
    ∙ ap (bit_xor (product by (factor_sum f factors n))) (associates by (get_or factors n 0) (f n) small (fit n))
    ∙ sym (additive_right by (factor_sum f factors n) (product (get_or factors n 0) (f n)) small)

-- what they give is a byte
sum_is_byte : (f : ℕ → ℕ) (factors : List ℕ) (n : ℕ) → AreFactors factors → factor_sum f factors n < 256
unfolding factor_sum
sum_is_byte f factors zero fit = omega arith
sum_is_byte f factors (suc n) fit = sum_fits (factor_sum f factors n) (product (get_or factors n 0) (f n)) (sum_is_byte f factors n fit) (product_fits (get_or factors n 0) (f n) (fit n))

-- an equation multiplied by what is not 0 says the same
pub same_zeros : (f : ℕ → ℕ) (factors others : List ℕ) (lead by : ℕ) → AreFactors factors → by < 256 → product lead by ≡ 1 → factor_sum f others 24 ≡ product by (factor_sum f factors 24) →
    (factor_sum f factors 24 ≡ 0 → factor_sum f others 24 ≡ 0) × (factor_sum f others 24 ≡ 0 → factor_sum f factors 24 ≡ 0)
same_zeros f factors others lead by fit small inverse scaled = (
  λ none. scaled ∙ ap (product by) none ∙ product_zero by,
  λ none. no_divisor by (factor_sum f factors 24) small (sum_is_byte f factors 24 fit) (sym scaled ∙ none)
      (λ is. absurd (let one : 0 ≡ 1 = sym (product_zero lead) ∙ ap (product lead) (sym is) ∙ inverse in omega arith)),
)

-- at first there are no factors, and no cell was added
abbrev no_factor_yet : List ℕ
no_factor_yet = replicate 24 0

clear : (i : ℕ) → get_or (no_factor_yet) i 0 ≡ 0
clear i =
    elim (cases_lt i 24) [
      | inl less ↦ get_or-replicate 24 i 0 0 less
      | inr more ↦ get_or-eq_default no_factor_yet 0 more
    ]

no_factors : (f : ℕ → ℕ) (factors : List ℕ) (n : ℕ) → ((i : ℕ) → get_or factors i 0 ≡ 0) → factor_sum f factors n ≡ 0
unfolding factor_sum
no_factors f factors zero none = refl
no_factors f factors (suc n) none =
    ap (λ (w : ℕ). bit_xor (factor_sum f factors n) (product w (f n))) (none n) ∙ ap (bit_xor (factor_sum f factors n)) (product_zero_left (f n))
    ∙ sum_zero (factor_sum f factors n) ∙ no_factors f factors n none

none_mixed : (mix : Mix) (bytes : List ℕ) → mixed_sum mix [] bytes ≡ 0
unfolding known_sum
none_mixed mix bytes = ap (bit_xor (product mix.p 0)) (product_zero mix.q) ∙ sum_zero (product mix.p 0) ∙ product_zero mix.p

pub none_added : (f : ℕ → ℕ) (mix : Mix) (bytes : List ℕ) → factor_sum f no_factor_yet 24 ≡ mixed_sum mix [] bytes
none_added f mix bytes = no_factors f no_factor_yet 24 clear ∙ sym (none_mixed mix bytes)

zero_sum : (a : ℕ) → bit_xor 0 a ≡ a
zero_sum a = sum_commutes 0 a ∙ sum_zero a

-- one more cell
known_next : (adds : Part → ℕ → ℕ) (cells : List Cell) (bytes : List ℕ) (n : ℕ) (d : Cell) → n < length cells → length bytes ≡ length cells →
    known_sum adds (take (suc n) cells) bytes ≡ bit_xor (known_sum adds (take n cells) bytes) (known_in adds (get_or cells n d) (get_or bytes n 0))
unfolding known_sum
known_next adds [] bytes n d inside long = absurd (omega arith)
known_next adds (cell ∷ cells) [] n d inside long = absurd (omega arith)
known_next adds (cell ∷ cells) (byte ∷ bytes) zero d inside long = sum_zero (known_in adds cell byte) ∙ sym (zero_sum (known_in adds cell byte))
known_next adds (cell ∷ cells) (byte ∷ bytes) (suc n) d inside long =
    ap (bit_xor (known_in adds cell byte)) (known_next adds cells bytes n d (omega arith) (omega arith))
    ∙ sym (sum_associates (known_in adds cell byte) (known_sum adds (take n cells) bytes) (known_in adds (get_or cells n d) (get_or bytes n 0)))

-- what is added for both equations
abbrev pub cell_sum : Mix → Cell → ℕ → ℕ
cell_sum mix cell byte = bit_xor (product mix.p (known_in in_p cell byte)) (product mix.q (known_in in_q cell byte))

mixed_next : (mix : Mix) (cells : List Cell) (bytes : List ℕ) (n : ℕ) (d : Cell) → mix.p < 256 → mix.q < 256 → n < length cells → length bytes ≡ length cells →
    mixed_sum mix (take (suc n) cells) bytes ≡ bit_xor (mixed_sum mix (take n cells) bytes) (cell_sum mix (get_or cells n d) (get_or bytes n 0))
mixed_next mix cells bytes n d hp hq inside long =
    let p = known_sum in_p (take n cells) bytes in
    let q = known_sum in_q (take n cells) bytes in
    let a = known_in in_p (get_or cells n d) (get_or bytes n 0) in
    let b = known_in in_q (get_or cells n d) (get_or bytes n 0) in
    ap (λ (s : ℕ). bit_xor (product mix.p s) (product mix.q (known_sum in_q (take (suc n) cells) bytes))) (known_next in_p cells bytes n d inside long)
    ∙ ap (λ (s : ℕ). bit_xor (product mix.p (bit_xor p a)) (product mix.q s)) (known_next in_q cells bytes n d inside long)
    ∙ ap (λ (s : ℕ). bit_xor s (product mix.q (bit_xor q b))) (additive_right mix.p p a hp)
    ∙ ap (bit_xor (bit_xor (product mix.p p) (product mix.p a))) (additive_right mix.q q b hq)
    ∙ xor_swap (product mix.p p) (product mix.p a) (product mix.q q) (product mix.q b)

pub factors_next : (f : ℕ → ℕ) (mix : Mix) (cells : List Cell) (slots : List (Option ℕ)) (factors others : List ℕ) (place factor : ℕ) (d : Cell) →
    mix.p < 256 → mix.q < 256 → place < length cells → length cells ≡ length slots → ((byte : ℕ) → product factor byte ≡ cell_sum mix (get_or cells place d) byte) →
    factor_sum f others 24 ≡ bit_xor (factor_sum f factors 24) (product factor (held_byte f (get_or slots place None))) →
    factor_sum f factors 24 ≡ mixed_sum mix (take place cells) (map (held_byte f) slots) → factor_sum f others 24 ≡ mixed_sum mix (take (place + 1) cells) (map (held_byte f) slots)
factors_next f mix cells slots factors others place factor d hp hq inside long counts more so_far =
    let bytes = map (held_byte f) slots in
    let byte : get_or (map (held_byte f) slots) place 0 ≡ held_byte f (get_or slots place None) = get_or-map (held_byte f) slots place None 0 (omega arith) in
    more ∙ ap (λ (a : ℕ). bit_xor a (product factor (held_byte f (get_or slots place None)))) so_far
    ∙ ap (bit_xor (mixed_sum mix (take place cells) bytes)) (counts (held_byte f (get_or slots place None)))
    ∙ ap (λ (b : ℕ). bit_xor (mixed_sum mix (take place cells) bytes) (cell_sum mix (get_or cells place d) b)) (sym byte)
    ∙ sym (mixed_next mix cells bytes place d hp hq inside (length-map slots (held_byte f) ∙ sym long))
    ∙ ap (λ (n : ℕ). mixed_sum mix (take n cells) bytes) (sym (add-one place))

-- the factor of a cell
pub missing_factor : (mix : Mix) (cell : Cell) (byte : ℕ) → cell.missing ≡ true → product 0 byte ≡ cell_sum mix cell byte
missing_factor mix cell byte gone =
    product_zero_left byte ∙ sym (none_known mix (known_in in_p cell byte) (known_in in_q cell byte) (ap (λ (m : Bool). cond m 0 (in_p cell.part byte)) gone) (ap (λ (m : Bool). cond m 0 (in_q cell.part byte)) gone))
  where
    none_known : (mix : Mix) (a b : ℕ) → a ≡ 0 → b ≡ 0 → bit_xor (product mix.p a) (product mix.q b) ≡ 0
    none_known mix a b ea eb =
        ap (λ (x : ℕ). bit_xor (product mix.p x) (product mix.q b)) ea ∙ ap (λ (x : ℕ). bit_xor (product mix.p 0) (product mix.q x)) eb
        ∙ ap (bit_xor (product mix.p 0)) (product_zero mix.q) ∙ sum_zero (product mix.p 0) ∙ product_zero mix.p

there_factor : (mix : Mix) (cell : Cell) (byte : ℕ) (part : Part) → cell.missing ≡ false → cell.part ≡ part → cell_sum mix cell byte ≡ bit_xor (product mix.p (in_p part byte)) (product mix.q (in_q part byte))
there_factor mix cell byte part there is =
    ap (λ (m : Bool). bit_xor (product mix.p (cond m 0 (in_p cell.part byte))) (product mix.q (cond m 0 (in_q cell.part byte)))) there
    ∙ ap (λ (o : Part). bit_xor (product mix.p (in_p o byte)) (product mix.q (in_q o byte))) is

pub block_factor : (mix : Mix) (cell : Cell) (k power times factor byte : ℕ) → mix.p < 256 → mix.q < 256 → cell.missing ≡ false → cell.part ≡ Block k →
    power ≡ power_of k → times ≡ product mix.q power → factor ≡ bit_xor mix.p times → product factor byte ≡ cell_sum mix cell byte
block_factor mix cell k power times factor byte hp hq there is e1 e2 e3 =
    let whole : factor ≡ bit_xor mix.p (product mix.q (power_of k)) = e3 ∙ ap (bit_xor mix.p) (e2 ∙ ap (product mix.q) e1) in
    ap (λ (w : ℕ). product w byte) whole ∙ additive_left mix.p (product mix.q (power_of k)) byte hp (product_fits mix.q (power_of k) hq)
    ∙ ap (bit_xor (product mix.p byte)) (associates mix.q (power_of k) byte hq (power_fits k)) ∙ sym (there_factor mix cell byte (Block k) there is)

pub p_factor : (mix : Mix) (cell : Cell) (byte : ℕ) → cell.missing ≡ false → cell.part ≡ P → product mix.p byte ≡ cell_sum mix cell byte
p_factor mix cell byte there is =
    sym (there_factor mix cell byte P there is ∙ ap (bit_xor (product mix.p byte)) (product_zero mix.q) ∙ sum_zero (product mix.p byte))

pub q_factor : (mix : Mix) (cell : Cell) (byte : ℕ) → cell.missing ≡ false → cell.part ≡ Q → product mix.q byte ≡ cell_sum mix cell byte
q_factor mix cell byte there is =
    sym (there_factor mix cell byte Q there is ∙ ap (λ (a : ℕ). bit_xor a (product mix.q byte)) (product_zero mix.p) ∙ zero_sum (product mix.q byte))

-- the same asked in other words
decides_as : (b : Bool) (A B : Type 0) → (A → B) → (B → A) → Decides b A → Decides b B
decides_as b A B to back d = (λ h. to (d.0 h), λ h. d.1 (back h))

one_times : (a : ℕ) → a < 256 → product 1 a ≡ a
one_times a h = commutes 1 a (omega arith) h ∙ product_one a h

p_alone : (a b : ℕ) → a < 256 → bit_xor (product 1 a) (product 0 b) ≡ a
p_alone a b h = ap (bit_xor (product 1 a)) (product_zero_left b) ∙ sum_zero (product 1 a) ∙ one_times a h

q_alone : (a b : ℕ) → b < 256 → bit_xor (product 0 a) (product 1 b) ≡ b
q_alone a b h = ap (λ (s : ℕ). bit_xor s (product 1 b)) (product_zero_left a) ∙ zero_sum (product 1 b) ∙ one_times b h

q_by_p : (g a b : ℕ) → b < 256 → bit_xor (product g a) (product 1 b) ≡ bit_xor b (product g a)
q_by_p g a b h = ap (bit_xor (product g a)) (one_times b h) ∙ sum_commutes (product g a) b

p_fits : (cells : List Cell) (column : ℕ → List ℕ) → AreColumns cells column → (x : ℕ) → sum_at in_p cells column x < 256
p_fits cells column bytes x = sum_at_fits in_p in_p_fits cells column x bytes

q_fits : (cells : List Cell) (column : ℕ → List ℕ) → AreColumns cells column → (x : ℕ) → sum_at in_q cells column x < 256
q_fits cells column bytes x = sum_at_fits in_q in_q_fits cells column x bytes

-- what is asked of each column
abbrev Each : (ℕ → ℕ) → Type 0
Each f = (x : ℕ) → x < 512 → f x ≡ 0

each_as : (f g : ℕ → ℕ) → ((x : ℕ) → f x ≡ g x) → Each f → Each g
each_as f g same each = λ x below. sym (same x) ∙ each x below

-- a row is sound just where the sum is 0 in each column
abbrev OfColumns : List Cell → Mix → Type 0
OfColumns cells mix = (column : ℕ → List ℕ) → AreColumns cells column → Decides (is_sound cells column) (Each (λ x. mixed_sum mix cells (column x)))

-- no cell is missing, and there is no Q
columns_of_all : (cells : List Cell) (o : Option Part) → IsRow cells → NotFull cells → o ≡ option_map (λ c. c.part) (find (λ c. c.missing) cells) → o ≡ None → has_q cells ≡ false →
    OfColumns cells (record { p = 1; q = 0 })
columns_of_all cells o row ne first is no_q = λ column bytes.
    let same : (x : ℕ) → mixed_sum (record { p = 1; q = 0 }) cells (column x) ≡ sum_at in_p cells column x = λ x. p_alone (sum_at in_p cells column x) (sum_at in_q cells column x) (p_fits cells column bytes x) in
    decides_as (is_sound cells column) (AllCancel cells column) (Each (λ x. mixed_sum (record { p = 1; q = 0 }) cells (column x)))
    (λ both. each_as (sum_at in_p cells column) (λ x. mixed_sum (record { p = 1; q = 0 }) cells (column x)) (λ x. sym (same x)) both.0)
    (λ each. (each_as (λ x. mixed_sum (record { p = 1; q = 0 }) cells (column x)) (sum_at in_p cells column) same each, λ q. absurd (false≢true (sym no_q ∙ q))))
    (sound_where_whole cells column o row ne bytes first is)

-- Q is
columns_without_q : (cells : List Cell) (o : Option Part) → IsRow cells → NotFull cells → o ≡ option_map (λ c. c.part) (find (λ c. c.missing) cells) → o ≡ Some Q →
    OfColumns cells (record { p = 1; q = 0 })
columns_without_q cells o row ne first is = λ column bytes.
    let same : (x : ℕ) → mixed_sum (record { p = 1; q = 0 }) cells (column x) ≡ sum_at in_p cells column x = λ x. p_alone (sum_at in_p cells column x) (sum_at in_q cells column x) (p_fits cells column bytes x) in
    decides_as (is_sound cells column) (Cancel in_p cells column) (Each (λ x. mixed_sum (record { p = 1; q = 0 }) cells (column x)))
    (each_as (sum_at in_p cells column) (λ x. mixed_sum (record { p = 1; q = 0 }) cells (column x)) (λ x. sym (same x)))
    (each_as (λ x. mixed_sum (record { p = 1; q = 0 }) cells (column x)) (sum_at in_p cells column) same)
    (sound_without_q cells column o row ne bytes first is)

-- P is
columns_without_p : (cells : List Cell) (o : Option Part) → IsRow cells → NotFull cells → o ≡ option_map (λ c. c.part) (find (λ c. c.missing) cells) → o ≡ Some P →
    OfColumns cells (record { p = 0; q = 1 })
columns_without_p cells o row ne first is = λ column bytes.
    let same : (x : ℕ) → mixed_sum (record { p = 0; q = 1 }) cells (column x) ≡ sum_at in_q cells column x = λ x. q_alone (sum_at in_p cells column x) (sum_at in_q cells column x) (q_fits cells column bytes x) in
    decides_as (is_sound cells column) (Cancel in_q cells column) (Each (λ x. mixed_sum (record { p = 0; q = 1 }) cells (column x)))
    (each_as (sum_at in_q cells column) (λ x. mixed_sum (record { p = 0; q = 1 }) cells (column x)) (λ x. sym (same x)))
    (each_as (λ x. mixed_sum (record { p = 0; q = 1 }) cells (column x)) (sum_at in_q cells column) same)
    (sound_without_p cells column o row ne bytes first is)

-- a data block is
columns_without_data : (cells : List Cell) (o : Option Part) (k : ℕ) → IsRow cells → NotFull cells → o ≡ option_map (λ c. c.part) (find (λ c. c.missing) cells) → o ≡ Some (Block k) →
    OfColumns cells (record { p = power_of k; q = 1 })
columns_without_data cells o k row ne first is = λ column bytes.
    let by_p = λ (x : ℕ). bit_xor (sum_at in_q cells column x) (product (power_of k) (sum_at in_p cells column x)) in
    let same : (x : ℕ) → mixed_sum (record { p = power_of k; q = 1 }) cells (column x) ≡ by_p x = λ x. q_by_p (power_of k) (sum_at in_p cells column x) (sum_at in_q cells column x) (q_fits cells column bytes x) in
    decides_as (is_sound cells column) (CancelByP k cells column) (Each (λ x. mixed_sum (record { p = power_of k; q = 1 }) cells (column x)))
    (each_as by_p (λ x. mixed_sum (record { p = power_of k; q = 1 }) cells (column x)) (λ x. sym (same x)))
    (each_as (λ x. mixed_sum (record { p = power_of k; q = 1 }) cells (column x)) by_p same)
    (sound_without_data cells column o k row ne bytes first is)

-- each with its factors
pub mix_of_all : (cells : List Cell) (o : Option Part) → IsRow cells → NotFull cells → o ≡ option_map (λ c. c.part) (find (λ c. c.missing) cells) → o ≡ None → has_q cells ≡ false →
    MixDecides cells (record { p = 1; q = 0 })
mix_of_all cells o row ne first is no_q = record { p = omega arith; q = omega arith; columns = columns_of_all cells o row ne first is no_q }

pub mix_without_q : (cells : List Cell) (o : Option Part) → IsRow cells → NotFull cells → o ≡ option_map (λ c. c.part) (find (λ c. c.missing) cells) → o ≡ Some Q →
    MixDecides cells (record { p = 1; q = 0 })
mix_without_q cells o row ne first is = record { p = omega arith; q = omega arith; columns = columns_without_q cells o row ne first is }

pub mix_without_p : (cells : List Cell) (o : Option Part) → IsRow cells → NotFull cells → o ≡ option_map (λ c. c.part) (find (λ c. c.missing) cells) → o ≡ Some P →
    MixDecides cells (record { p = 0; q = 1 })
mix_without_p cells o row ne first is = record { p = omega arith; q = omega arith; columns = columns_without_p cells o row ne first is }

pub mix_without_data : (cells : List Cell) (o : Option Part) (k : ℕ) → IsRow cells → NotFull cells → o ≡ option_map (λ c. c.part) (find (λ c. c.missing) cells) → o ≡ Some (Block k) →
    MixDecides cells (record { p = power_of k; q = 1 })
mix_without_data cells o k row ne first is = record { p = power_fits k; q = omega arith; columns = columns_without_data cells o k row ne first is }

-- the columns of a sector, and the last of them again after it
abbrev cut : Room → List (Option ℕ) → ℕ → ℕ → List ℕ
cut room slots place x = slots_column room slots place (min x 511)

slots_fit : (f : ℕ → ℕ) (slots : List (Option ℕ)) → ((k image : ℕ) → k < length slots → get_or slots k None ≡ Some image → f image < 256) → AllByRecursion (λ b. b < 256) (map (held_byte f) slots)
slots_fit f [] bytes = tt
slots_fit f (None ∷ slots) bytes = (omega arith, slots_fit f slots (λ k image below is. bytes (suc k) image (omega arith) is))
slots_fit f (Some image ∷ slots) bytes = (bytes 0 image (omega arith) refl, slots_fit f slots (λ k image' below is. bytes (suc k) image' (omega arith) is))

cut_columns : (cells : List Cell) (slots : List (Option ℕ)) (place : ℕ) (room : Room) → length cells ≡ length slots → AreBytesAt room slots place → AreColumns cells (cut room slots place)
cut_columns cells slots place room long bytes = λ x. (
  length-map slots (held_byte (room_byte room (512 * place + min x 511))) ∙ sym long,
  slots_fit (room_byte room (512 * place + min x 511)) slots (λ k image below is. bytes k image (min x 511) below is (omega arith)),
)

cut_here : (x : ℕ) → x < 512 → min x 511 ≡ x
cut_here x below = omega arith

-- so the factors by image decide a row
pub factors_decide : (cells : List Cell) (slots : List (Option ℕ)) (mix : Mix) (factors others : List ℕ) → length cells ≡ length slots → MixDecides cells mix →
    ((f : ℕ → ℕ) → factor_sum f factors 24 ≡ mixed_sum mix cells (map (held_byte f) slots)) →
    ((f : ℕ → ℕ) → (factor_sum f factors 24 ≡ 0 → factor_sum f others 24 ≡ 0) × (factor_sum f others 24 ≡ 0 → factor_sum f factors 24 ≡ 0)) → DecideRow cells slots others
factors_decide cells slots mix factors others long decides sums zeros = λ room place bytes.
    let d = decides.columns (cut room slots place) (cut_columns cells slots place room long bytes) in
    let same : is_sound cells (cut room slots place) ≡ is_sound cells (slots_column room slots place) =
    sound_alike cells (cut room slots place) (slots_column room slots place) (λ x below. ap (λ (k : ℕ). filled cells (slots_column room slots place k)) (cut_here x below)) in
    let f = λ (x : ℕ). room_byte room (512 * place + x) in (
      λ sound x below.
          let zero : mixed_sum mix cells (slots_column room slots place x) ≡ 0 = subst (λ (k : ℕ). mixed_sum mix cells (slots_column room slots place k) ≡ 0) (cut_here x below) (d.0 (same ∙ sound) x below) in
          (zeros (f x)).0 (sums (f x) ∙ zero),
      λ met. sym same ∙ d.1 (λ x below.
          subst (λ (k : ℕ). mixed_sum mix cells (slots_column room slots place k) ≡ 0) (sym (cut_here x below)) (sym (sums (f x)) ∙ (zeros (f x)).1 (met x below))),
    )

-- no row is known at first
pub none_known : (room : Room) (place : ℕ) → IfSome (get_or (replicate 256 None) place None) (λ (row : KnownRow). Decides row.is_sound (IsMet room place row.factors))
none_known room place =
    let none : get_or (replicate 256 None) place None ≡ None = elim (cases_lt place 256) [
      | inl less ↦ get_or-replicate 256 place None None less
      | inr more ↦ get_or-eq_default (replicate 256 None) None more
    ] in
    subst (λ (o : Option KnownRow). IfSome o (λ row. Decides row.is_sound (IsMet room place row.factors))) (sym none) tt

-- what is said of all cells
pub if_all : (cells : List Cell) (mix : Option Mix) (o : Option Part) → IsRow cells → NotFull cells → o ≡ option_map (λ c. c.part) (find (λ c. c.missing) cells) → o ≡ None →
    IfSome mix (λ m. (m ≡ record { p = 1; q = 0 }) × (has_q cells ≡ false)) → IfSome mix (MixDecides cells)
if_all cells None o row ne first is said = tt
if_all cells (Some mix) o row ne first is said = subst (MixDecides cells) (sym said.0) (mix_of_all cells o row ne first is said.1)
