-- The weights that find a lost byte.
use Rattle.std.proofs.Common.{ℕ, ◌≡◌, ◌<◌, refl, sym, ap, ap₂, ◌∙◌, arith, bit_xor}
use Rattle.std.specs.declared.option.Option.{Option}
use Rattle.std.specs.declared.option.Option.TheVariants.{None, Some}
use Rattle.raid_params.specs.declared.types.Part.{Part}
use Rattle.raid_params.specs.declared.types.Part.TheVariants.{Block, P, Q}
use Rattle.gf256.specs.Field.{product, power_of}
use Rattle.gf256.proofs.Sums.{sum_fits, sum_commutes, sum_zero, sum_self, equal_from_sum, moved}
use Rattle.gf256.proofs.Products.{product_zero_left, additive_left, additive_right, associates, xor_swap}
use Rattle.gf256.proofs.Powers.{power_fits, product_one, commutes, not_zero, sum_not_zero}
use Rattle.gf256.proofs.Undoing.{has_inverse}
use Rattle.lane_kernels.specs.Formulas.{weighed_sum}
use Rattle.row_parity.specs.LostBytes.{Apart, Finds}

one_times : (x : ℕ) → x < 256 → product 1 x ≡ x
one_times x h = commutes 1 x (omega arith) h ∙ product_one x h

pub weighed_p : (p q : ℕ) → p < 256 → weighed_sum 1 0 p q ≡ p
weighed_p p q h = ap₂ (λ (a b : ℕ). bit_xor a b) (one_times p h) (product_zero_left q) ∙ sum_zero p

weighed_q : (b p q : ℕ) → weighed_sum 0 b p q ≡ product b q
weighed_q b p q = ap (λ (a : ℕ). bit_xor a (product b q)) (product_zero_left p)

-- what weighs nothing adds nothing
pub no_weight : (a w v : ℕ) → w ≡ 0 → bit_xor a (product w v) ≡ a
no_weight a w v e = ap (bit_xor a) (ap (λ (f : ℕ). product f v) e ∙ product_zero_left v) ∙ sum_zero a

-- what a factor made is undone by its inverse
undone : (a w y q : ℕ) → a < 256 → w < 256 → y < 256 → product a w ≡ 1 → q ≡ product a y → y ≡ product w q
undone a w y q ha hw hy e made =
    sym (ap (product w) made ∙ sym (associates w a y hw ha) ∙ ap (λ (v : ℕ). product v y) (commutes w a hw ha ∙ e) ∙ one_times y hy)

-- from a + (x + 0) = 0
same : (a x : ℕ) → bit_xor a (bit_xor x 0) ≡ 0 → a ≡ x
same a x e = equal_from_sum a x (ap (bit_xor a) (sym (sum_zero x)) ∙ e)

pub finds_p : Finds P None 1 0
finds_p x y p q hx hy hp hq f = sym (equal_from_sum p x f) ∙ sym (weighed_p p q hp)

pub finds_p_beside_q : Finds P (Some Q) 1 0
finds_p_beside_q x y p q hx hy hp hq f = sym (same p x f.0) ∙ sym (weighed_p p q hp)

pub finds_data : (k : ℕ) → Finds (Block k) None 1 0
finds_data k x y p q hx hy hp hq f = sym (equal_from_sum p x f) ∙ sym (weighed_p p q hp)

pub finds_data_beside_q : (k : ℕ) → Finds (Block k) (Some Q) 1 0
finds_data_beside_q k x y p q hx hy hp hq f = sym (same p x f.0) ∙ sym (weighed_p p q hp)

pub finds_q : Finds Q None 0 1
finds_q x y p q hx hy hp hq f = sym (equal_from_sum q x f) ∙ sym (weighed_q 1 p q ∙ one_times q hq)

pub finds_q_beside_p : Finds Q (Some P) 0 1
finds_q_beside_p x y p q hx hy hp hq f = sym (same q x f.1) ∙ sym (weighed_q 1 p q ∙ one_times q hq)

pub finds_q_beside_data : (k a : ℕ) → a ≡ power_of k → Finds Q (Some (Block k)) a 1
finds_q_beside_data k a is x y p q hx hy hp hq f =
    let e : p ≡ y = equal_from_sum p y f.0 in
    moved x (product (power_of k) y) q (sym (equal_from_sum q (bit_xor x (product (power_of k) y)) f.1))
    ∙ sum_commutes q (product (power_of k) y)
    ∙ ap₂ (λ (s t : ℕ). bit_xor s t) (ap₂ (λ (s t : ℕ). product s t) (sym is) (sym e)) (sym (one_times q hq))

pub finds_p_beside_data : (k w : ℕ) → w < 256 → product (power_of k) w ≡ 1 → Finds P (Some (Block k)) 1 w
finds_p_beside_data k w hw e x y p q hx hy hp hq f =
    moved x y p (sym (equal_from_sum p (bit_xor x y) f.0))
    ∙ ap₂ (λ (s t : ℕ). bit_xor s t) (sym (one_times p hp)) (undone (power_of k) w y q (power_fits k) hw hy e (equal_from_sum q (product (power_of k) y) f.1))

pub finds_data_beside_p : (k w : ℕ) → w < 256 → product (power_of k) w ≡ 1 → Finds (Block k) (Some P) 0 w
finds_data_beside_p k w hw e x y p q hx hy hp hq f =
    undone (power_of k) w x q (power_fits k) hw hx e (same q (product (power_of k) x) f.1) ∙ sym (weighed_q w p q)

-- (a x + b y) + b (x + y) is (a + b) x
eliminated : (a b x y : ℕ) → a < 256 → b < 256 → bit_xor (bit_xor (product a x) (product b y)) (product b (bit_xor x y)) ≡ product (bit_xor a b) x
eliminated a b x y ha hb =
    ap (bit_xor (bit_xor (product a x) (product b y))) (additive_right b x y hb)
    ∙ xor_swap (product a x) (product b y) (product b x) (product b y)
    ∙ ap (bit_xor (bit_xor (product a x) (product b x))) (sum_self (product b y))
    ∙ sum_zero (bit_xor (product a x) (product b x)) ∙ sym (additive_left a b x ha hb)

pub finds_data_beside_data : (i j a w : ℕ) → w < 256 → product (bit_xor (power_of i) (power_of j)) w ≡ 1 → a ≡ product (power_of j) w → Finds (Block i) (Some (Block j)) a w
finds_data_beside_data i j a w hw e is x y p q hx hy hp hq f =
    let b = power_of j in
    let hb = power_fits j in
    let ep : p ≡ bit_xor x y = equal_from_sum p (bit_xor x y) f.0 in
    let eq : q ≡ bit_xor (product (power_of i) x) (product (power_of j) y) = equal_from_sum q (bit_xor (product (power_of i) x) (product (power_of j) y)) f.1 in
    undone (bit_xor (power_of i) (power_of j)) w x (bit_xor q (product (power_of j) p)) (sum_fits (power_of i) (power_of j) (power_fits i) hb) hw hx e
    (ap₂ (λ (s t : ℕ). bit_xor s (product (power_of j) t)) eq ep ∙ eliminated (power_of i) (power_of j) x y (power_fits i) hb)
    ∙ additive_right w q (product (power_of j) p) hw
    ∙ sum_commutes (product w q) (product w (product (power_of j) p))
    ∙ ap (λ (s : ℕ). bit_xor s (product w q)) (sym (associates w (power_of j) p hw hb) ∙ ap (λ (s : ℕ). product s p) (commutes w (power_of j) hw hb ∙ sym is))

-- parts that may be missing together have weights
pub weights_exist : (part : Part) (other : Option Part) → Apart part other → (a b : ℕ) × Finds part other a b
weights_exist P None h = (1, 0, finds_p)
weights_exist P (Some P) h = absurd h
weights_exist P (Some Q) h = (1, 0, finds_p_beside_q)
weights_exist P (Some (Block k)) h = let i = has_inverse (power_of k) (power_fits k) (not_zero k) in (1, i.0, finds_p_beside_data k i.0 i.1 i.2)
weights_exist Q None h = (0, 1, finds_q)
weights_exist Q (Some P) h = (0, 1, finds_q_beside_p)
weights_exist Q (Some Q) h = absurd h
weights_exist Q (Some (Block k)) h = (power_of k, 1, finds_q_beside_data k (power_of k) refl)
weights_exist (Block k) None h = (1, 0, finds_data k)
weights_exist (Block k) (Some P) h = let i = has_inverse (power_of k) (power_fits k) (not_zero k) in (0, i.0, finds_data_beside_p k i.0 i.1 i.2)
weights_exist (Block k) (Some Q) h = (1, 0, finds_data_beside_q k)
weights_exist (Block i) (Some (Block j)) h =
    let w = has_inverse (bit_xor (power_of i) (power_of j)) (sum_fits (power_of i) (power_of j) (power_fits i) (power_fits j)) (sum_not_zero i j h.0 h.1 h.2) in
    (product (power_of j) w.0, w.0, finds_data_beside_data i j (product (power_of j) w.0) w.0 w.1 w.2 refl)
