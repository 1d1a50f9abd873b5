-- Bytes for the missing parts that cancel what is known.
use Rattle.std.proofs.Common.{ℕ, ◌≡◌, ◌≢◌, ◌<◌, ◌+◌, Bool, true, false, cond, List, [], ◌∷◌, length, nat_eq, refl, sym, ap, ◌∙◌, arith, bit_xor}
use Rattle.std.proofs.lemmas.Bool.{eqb-false, false≢true}
use Rattle.std.proofs.lemmas.Map.Keys.{IsDistinct-head}
use Rattle.raid_params.specs.declared.types.Part.{Part}
use Rattle.raid_params.specs.declared.types.Part.TheVariants.{Block, P, Q}
use Rattle.gf256.specs.Field.{product, power_of}
use Rattle.gf256.proofs.Sums.{sum_fits, sum_associates, sum_zero, sum_self}
use Rattle.gf256.proofs.Products.{product_fits, additive_left, additive_right, associates}
use Rattle.gf256.proofs.Powers.{power_fits, product_one, commutes, not_zero, sum_not_zero}
use Rattle.gf256.proofs.Undoing.{has_inverse}
use Rattle.raid_terms.specs.Parity.{in_p, in_q}
use Rattle.row_parity.proofs.Fillings.{AreBytes}
use Rattle.row_parity.proofs.RowSums.{sum_swap}
use Rattle.row_parity.proofs.Shapes.{MayBeLost}
use Rattle.row_parity.proofs.Columns.{Cancels}

-- a + (a + 0) is 0
pub twice : (a : ℕ) → bit_xor a (bit_xor a 0) ≡ 0
twice a = ap (bit_xor a) (sum_zero a) ∙ sum_self a

-- a + ((a + b) + b) is 0
thrice : (a b : ℕ) → bit_xor a (bit_xor (bit_xor a b) (bit_xor b 0)) ≡ 0
thrice a b =
    ap (λ x. bit_xor a (bit_xor (bit_xor a b) x)) (sum_zero b)
    ∙ ap (bit_xor a) (sum_associates a b b ∙ ap (bit_xor a) (sum_self b)) ∙ twice a

-- a quotient by a factor that is not 0
pub quotient : (a q : ℕ) → a < 256 → a ≢ 0 → q < 256 → (y : ℕ) × (y < 256) × (product a y ≡ q)
quotient a q ha ne hq =
    let i = has_inverse a ha ne in
    let w = i.0 in (
      product i.0 q,
      product_fits i.0 q i.1,
      sym (associates a i.0 q ha i.1) ∙ ap (λ x. product x q) i.2 ∙ commutes 1 q (omega arith) hq ∙ product_one q hq,
    )

-- bytes for these parts that cancel p and q
abbrev pub Solution : Bool → Bool → List Part → ℕ → ℕ → Type 0
Solution has_p has_q parts p q = (xs : List ℕ) × AreBytes parts xs × Cancels has_p has_q parts xs p q

-- two parts may change places
swapped : (a b : Part) (p q : ℕ) → Solution true true (a ∷ b ∷ []) p q → Solution true true (b ∷ a ∷ []) p q
swapped a b p q ([], fit, c) = absurd fit
swapped a b p q ((x ∷ []), fit, c) = absurd fit.1
swapped a b p q ((x ∷ y ∷ []), fit, c) = (
  (y ∷ x ∷ []),
  (fit.1.0, (fit.0, tt)),
  record {
    by_p = λ h. ap (bit_xor p) (sum_swap (in_p b y) (in_p a x) 0) ∙ c.by_p h;
    by_q = λ h. ap (bit_xor q) (sum_swap (in_q b y) (in_q a x) 0) ∙ c.by_q h;
  },
)
swapped a b p q ((x ∷ y ∷ z ∷ zs), fit, c) = absurd fit.1.1

p_and_q : (p q : ℕ) → p < 256 → q < 256 → Solution true true (P ∷ Q ∷ []) p q
p_and_q p q hp hq = ((p ∷ q ∷ []), (hp, (hq, tt)), record { by_p = λ h. twice p; by_q = λ h. twice q })

p_and_data : (k p q : ℕ) → p < 256 → q < 256 → Solution true true (P ∷ Block k ∷ []) p q
p_and_data k p q hp hq =
    let y = quotient (power_of k) q (power_fits k) (not_zero k) hq in (
      (bit_xor p y.0 ∷ y.0 ∷ []),
      (sum_fits p y.0 hp y.1, (y.1, tt)),
      record {
        by_p = λ h. thrice p y.0;
        by_q = λ h. ap (λ (z : ℕ). bit_xor q (bit_xor z 0)) y.2 ∙ twice q;
      },
    )

q_and_data : (k p q : ℕ) → p < 256 → q < 256 → Solution true true (Q ∷ Block k ∷ []) p q
q_and_data k p q hp hq =
    let w = product (power_of k) p in (
      (bit_xor q (product (power_of k) p) ∷ p ∷ []),
      (sum_fits q (product (power_of k) p) hq (product_fits (power_of k) p (power_fits k)), (hp, tt)),
      record {
        by_p = λ h. twice p;
        by_q = λ h. thrice q (product (power_of k) p);
      },
    )

-- a x + b (p + x), where (a + b) x is q + b p
both : (a b p q x : ℕ) → a < 256 → b < 256 → p < 256 → x < 256 → product (bit_xor a b) x ≡ bit_xor q (product b p) →
    bit_xor q (bit_xor (product a x) (bit_xor (product b (bit_xor p x)) 0)) ≡ 0
both a b p q x ha hb hp hx e =
    ap (λ (z : ℕ). bit_xor q (bit_xor (product a x) z)) (sum_zero (product b (bit_xor p x)) ∙ additive_right b p x hb)
    ∙ ap (bit_xor q) (sum_swap (product a x) (product b p) (product b x))
    ∙ sym (sum_associates q (product b p) (bit_xor (product a x) (product b x)))
    ∙ ap (λ (z : ℕ). bit_xor z (bit_xor (product a x) (product b x))) (sym e)
    ∙ ap (bit_xor (product (bit_xor a b) x)) (sym (additive_left a b x ha hb))
    ∙ sum_self (product (bit_xor a b) x)

two_data : (i j p q : ℕ) → i < 255 → j < 255 → i ≢ j → p < 256 → q < 256 → Solution true true (Block i ∷ Block j ∷ []) p q
two_data i j p q hi hj ne hp hq =
    let x = quotient (bit_xor (power_of i) (power_of j)) (bit_xor q (product (power_of j) p)) (sum_fits (power_of i) (power_of j) (power_fits i) (power_fits j))
    (sum_not_zero i j hi hj ne) (sum_fits q (product (power_of j) p) hq (product_fits (power_of j) p (power_fits j))) in (
      (x.0 ∷ bit_xor p x.0 ∷ []),
      (x.1, (sum_fits p x.0 hp x.1, tt)),
      record {
        by_p = λ h. ap (bit_xor p) (sum_swap x.0 (bit_xor p x.0) 0) ∙ thrice p x.0;
        by_q = λ h. both (power_of i) (power_of j) p q x.0 (power_fits i) (power_fits j) hp x.1 x.2;
      },
    )

-- two parts of a row with P and Q
pub two : (a b : Part) (p q : ℕ) → MayBeLost true true (a ∷ b ∷ []) → p < 256 → q < 256 → Solution true true (a ∷ b ∷ []) p q
two P P p q m hp hq = absurd (let h = m.p_there in omega arith)
two P Q p q m hp hq = p_and_q p q hp hq
two P (Block k) p q m hp hq = p_and_data k p q hp hq
two Q P p q m hp hq = swapped P Q p q (p_and_q p q hp hq)
two Q Q p q m hp hq = absurd (let h = m.q_there in omega arith)
two Q (Block k) p q m hp hq = q_and_data k p q hp hq
two (Block i) P p q m hp hq = swapped P (Block i) p q (p_and_data i p q hp hq)
two (Block i) Q p q m hp hq = swapped Q (Block i) p q (q_and_data i p q hp hq)
two (Block i) (Block j) p q m hp hq =
    let s = m.short refl in
    two_data i j p q s.0 s.1.0 (eqb-false i j (IsDistinct-head nat_eq i (j ∷ []) (m.apart refl)).0) hp hq

-- one part of a row with P alone
pub one_by_p : (part : Part) (p q : ℕ) → MayBeLost true false (part ∷ []) → p < 256 → Solution true false (part ∷ []) p q
one_by_p P p q m hp = ((p ∷ []), (hp, tt), record { by_p = λ h. twice p; by_q = λ h. cc })
one_by_p (Block k) p q m hp = ((p ∷ []), (hp, tt), record { by_p = λ h. twice p; by_q = λ h. cc })
one_by_p Q p q m hp = absurd (let h = m.q_there in omega arith)

-- where as many are missing as hold parity, there are always such bytes
pub full : (has_p has_q : Bool) (parts : List Part) (p q : ℕ) → MayBeLost has_p has_q parts → length parts ≡ cond has_p 1 0 + cond has_q 1 0 →
    p < 256 → q < 256 → Solution has_p has_q parts p q
full false true parts p q m e hp hq = absurd (false≢true (m.beside refl))
full false false [] p q m e hp hq = ([], tt, record { by_p = λ h. cc; by_q = λ h. cc })
full false false (a ∷ bs) p q m e hp hq = absurd (omega arith)
full true false [] p q m e hp hq = absurd (omega arith)
full true false (a ∷ []) p q m e hp hq = one_by_p a p q m hp
full true false (a ∷ b ∷ cs) p q m e hp hq = absurd (omega arith)
full true true [] p q m e hp hq = absurd (omega arith)
full true true (a ∷ []) p q m e hp hq = absurd (omega arith)
full true true (a ∷ b ∷ []) p q m e hp hq = two a b p q m hp hq
full true true (a ∷ b ∷ c ∷ ds) p q m e hp hq = absurd (omega arith)
