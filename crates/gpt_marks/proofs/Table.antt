use Rattle.std.proofs.Common.{ℕ, ◌≡◌, ◌<◌, ◌*◌, ◌/◌, ◌%◌, suc, zero, Bool, true, false, refl, ◌==◌, ◌&&◌, get_or, arith, subst, inl, inr, sym, ap, ◌∙◌, bit_xor, cond}
use Rattle.std.proofs.lemmas.Bool.{and_parts, eqb-true, cases_lt}
use Rattle.std.proofs.lemmas.Nat.{xor_shr, xor_mod, xor_comm}
use lib.Bits.{xor_assoc, xor_zero_r, xor_shifted}
use Rattle.gpt_marks.specs.Crc.{bit_step, bit_steps}
use Rattle.gpt_marks.specs.declared.crc.TheConstants.{TABLE}

abbrev each_below : ℕ → (ℕ → Bool) → Bool
each_below zero p = true
each_below (suc n) p = p n && each_below n p

at_each : (n : ℕ) (p : ℕ → Bool) → each_below n p ≡ true → (k : ℕ) → k < n → p k ≡ true
at_each zero p h k lt = absurd (omega arith)
at_each (suc n) p h k lt =
    elim (cases_lt k n) [
      | inl below ↦ at_each n p (and_parts (p n) (each_below n p) h).1 k below
      | inr above ↦ (let e : n ≡ k = omega arith in let P : ℕ → Type 0 = λ m. p m ≡ true in subst P e (and_parts (p n) (each_below n p) h).0)
    ]

-- each entry of the table is the register after eight bits of its place
pub table_is : (k : ℕ) → k < 256 → get_or TABLE k 0 ≡ bit_steps 8 k
unfolding bit_steps
table_is k h = eqb-true (get_or TABLE k 0) (bit_steps 8 k) (at_each 256 (λ j. get_or TABLE j 0 == bit_steps 8 j) refl k h)

abbrev picked : ℕ → ℕ
picked d = cond (d == 1) 0xEDB88320 0

-- a step without its cases
step_is : (r : ℕ) → bit_step r ≡ bit_xor (r / 2) (picked (r % 2))
step_is r = elim (r % 2 == 1) as (λ t. cond t (bit_xor (r / 2) 0xEDB88320) (r / 2) ≡ bit_xor (r / 2) (cond t 0xEDB88320 0)) [ true ↦ refl | false ↦ sym (xor_zero_r (r / 2)) ]

picked_xor : (x y : ℕ) → x < 2 → y < 2 → picked (bit_xor x y) ≡ bit_xor (picked x) (picked y)
picked_xor zero zero hx hy = refl
picked_xor zero (suc zero) hx hy = refl
picked_xor (suc zero) zero hx hy = refl
picked_xor (suc zero) (suc zero) hx hy = refl
picked_xor x (suc (suc y)) hx hy = absurd (omega arith)
picked_xor (suc (suc x)) y hx hy = absurd (omega arith)

xor_swap : (a b c d : ℕ) → bit_xor (bit_xor a b) (bit_xor c d) ≡ bit_xor (bit_xor a c) (bit_xor b d)
xor_swap a b c d =
    xor_assoc a b (bit_xor c d) ∙ ap (bit_xor a) (sym (xor_assoc b c d) ∙ ap (λ (x : ℕ). bit_xor x d) (xor_comm b c) ∙ xor_assoc c b d)
    ∙ sym (xor_assoc a c (bit_xor b d))

step-xor : (x y : ℕ) → bit_step (bit_xor x y) ≡ bit_xor (bit_step x) (bit_step y)
step-xor x y =
    step_is (bit_xor x y)
    ∙ ap (λ (h : ℕ). bit_xor h (picked (bit_xor x y % 2))) (xor_shr x y 1)
    ∙ ap (λ (d : ℕ). bit_xor (bit_xor (x / 2) (y / 2)) (picked d)) (xor_mod x y 1)
    ∙ ap (bit_xor (bit_xor (x / 2) (y / 2))) (picked_xor (x % 2) (y % 2) (omega arith) (omega arith))
    ∙ xor_swap (x / 2) (y / 2) (picked (x % 2)) (picked (y % 2))
    ∙ ap (λ (l : ℕ). bit_xor l (bit_xor (y / 2) (picked (y % 2)))) (sym (step_is x)) ∙ ap (bit_xor (bit_step x)) (sym (step_is y))

steps-xor : (n x y : ℕ) → bit_steps n (bit_xor x y) ≡ bit_xor (bit_steps n x) (bit_steps n y)
unfolding bit_steps
steps-xor zero x y = refl
steps-xor (suc n) x y = ap bit_step (steps-xor n x y) ∙ step-xor (bit_steps n x) (bit_steps n y)

step_even : (x : ℕ) → bit_step (2 * x) ≡ x
step_even x = step_is (2 * x) ∙ (let e : (2 * x) % 2 ≡ 0 = omega arith in let h : (2 * x) / 2 ≡ x = omega arith in ap (λ (d : ℕ). bit_xor ((2 * x) / 2) (picked d)) e ∙ xor_zero_r ((2 * x) / 2) ∙ h)

high_only : (x : ℕ) → bit_steps 8 (x * 256) ≡ x
unfolding bit_steps
high_only x =
    (let e : x * 256 ≡ 2 * (2 * (2 * (2 * (2 * (2 * (2 * (2 * x))))))) = omega arith in
    ap (bit_steps 8) e ∙ simp step_even)

-- eight bits at once
pub by_table : (r : ℕ) → bit_steps 8 r ≡ bit_xor (get_or TABLE (r % 256) 0) (r / 256)
by_table r =
    (let e : bit_xor (r / 256 * 256) (r % 256) ≡ r = xor_shifted (r / 256) 8 (r % 256) (omega arith) ∙ omega arith in
    ap (bit_steps 8) (sym e) ∙ steps-xor 8 (r / 256 * 256) (r % 256) ∙ xor_comm (bit_steps 8 (r / 256 * 256)) (bit_steps 8 (r % 256))
    ∙ ap (λ (t : ℕ). bit_xor t (bit_steps 8 (r / 256 * 256))) (sym (table_is (r % 256) (omega arith))) ∙ ap (bit_xor (get_or TABLE (r % 256) 0)) (high_only (r / 256)))
