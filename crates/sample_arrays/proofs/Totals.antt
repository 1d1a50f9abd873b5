-- Sums over the items of a row and sums over its slots.
use Rattle.std.proofs.Common.{◌≡◌, ◌≢◌, ℕ, zero, suc, ◌+◌, ◌<◌, ◌≤◌, Bool, cond, ◌==◌, bit_xor, inl, inr, refl, sym, ap, ap₂, ◌∙◌, arith}
use Rattle.std.proofs.lemmas.Bool.{cases_eq, eq-eqb, ne_eqb}
use Rattle.gf256.proofs.Products.{xor_swap}
use Rattle.gf256.proofs.Sums.{sum_commutes, sum_self, sum_zero}

-- the sum over the first n items
abbrev pub items_sum : (ℕ → ℕ) → ℕ → ℕ
items_sum f zero = 0
items_sum f (suc n) = bit_xor (items_sum f n) (f n)

-- the sum over n slots from a on
abbrev pub slots_sum : (ℕ → ℕ) → ℕ → ℕ → ℕ
slots_sum f a zero = 0
slots_sum f a (suc n) = bit_xor (f a) (slots_sum f (a + 1) n)

pub zero_sum : (x : ℕ) → bit_xor 0 x ≡ x
zero_sum x = sum_commutes 0 x ∙ sum_zero x

pub slots_same : (f g : ℕ → ℕ) (a n : ℕ) → ((s : ℕ) → a ≤ s → s < a + n → f s ≡ g s) → slots_sum f a n ≡ slots_sum g a n
slots_same f g a zero same = refl
slots_same f g a (suc n) same = ap₂ bit_xor (same a (omega arith) (omega arith)) (slots_same f g (a + 1) n (λ s le lt. same s (omega arith) (omega arith)))

slots_none : (a n : ℕ) → slots_sum (λ s. 0) a n ≡ 0
slots_none a zero = refl
slots_none a (suc n) = zero_sum (slots_sum (λ s. 0) (a + 1) n) ∙ slots_none (a + 1) n

slots_both : (f g : ℕ → ℕ) (a n : ℕ) → slots_sum (λ s. bit_xor (f s) (g s)) a n ≡ bit_xor (slots_sum f a n) (slots_sum g a n)
slots_both f g a zero = sym (sum_self 0)
slots_both f g a (suc n) =
    ap (bit_xor (bit_xor (f a) (g a))) (slots_both f g (a + 1) n)
    ∙ xor_swap (f a) (g a) (slots_sum f (a + 1) n) (slots_sum g (a + 1) n)

-- a sum over slots of sums over items is a sum over items of sums over slots
turned : (h : ℕ → ℕ → ℕ) (a n d : ℕ) → slots_sum (λ s. items_sum (λ i. h i s) d) a n ≡ items_sum (λ i. slots_sum (h i) a n) d
turned h a n zero = slots_none a n
turned h a n (suc d) =
    slots_both (λ s. items_sum (λ i. h i s) d) (h d) a n
    ∙ ap (λ (x : ℕ). bit_xor x (slots_sum (h d) a n)) (turned h a n d)

pub items_same : (f g : ℕ → ℕ) (d : ℕ) → ((i : ℕ) → i < d → f i ≡ g i) → items_sum f d ≡ items_sum g d
items_same f g zero same = refl
items_same f g (suc d) same = ap₂ bit_xor (items_same f g d (λ i lt. same i (omega arith))) (same d (omega arith))

pub items_none : (f : ℕ → ℕ) (d : ℕ) → ((i : ℕ) → i < d → f i ≡ 0) → items_sum f d ≡ 0
items_none f zero none = refl
items_none f (suc d) none = ap₂ bit_xor (items_none f d (λ i lt. none i (omega arith))) (none d (omega arith)) ∙ sum_self 0

-- where only one item counts
pub items_one : (f : ℕ → ℕ) (d i : ℕ) → i < d → ((j : ℕ) → j < d → j ≢ i → f j ≡ 0) → items_sum f d ≡ f i
items_one f zero i below off = absurd (omega arith)
items_one f (suc d) i below off = elim (cases_eq d i) [
  | inl e ↦
      ap (λ (x : ℕ). bit_xor x (f d)) (items_none f d (λ j lt. off j (omega arith) (λ q. let x : j ≡ i = q in omega arith)))
      ∙ zero_sum (f d) ∙ ap f e
  | inr ne ↦
      ap₂ bit_xor (items_one f d i (omega arith) (λ j lt other. off j (omega arith) other)) (off d (omega arith) ne)
      ∙ sum_zero (f i)
]

-- what stands on one slot only
abbrev pub on_slot : ℕ → ℕ → ℕ → ℕ
on_slot place x s = cond (place == s) x 0

slots_off : (place x a n : ℕ) → place < a → slots_sum (on_slot place x) a n ≡ 0
slots_off place x a zero before = refl
slots_off place x a (suc n) before =
    ap₂ bit_xor (ap (λ (b : Bool). cond b x 0) (ne_eqb place a (λ e. let same : place ≡ a = e in omega arith))) (slots_off place x (a + 1) n (omega arith))
    ∙ sum_self 0

slots_one : (place x a n : ℕ) → a ≤ place → place < a + n → slots_sum (on_slot place x) a n ≡ x
slots_one place x a zero low high = absurd (omega arith)
slots_one place x a (suc n) low high = elim (cases_eq place a) [
  | inl e ↦
      ap₂ bit_xor (ap (λ (b : Bool). cond b x 0) (eq-eqb place a e)) (slots_off place x (a + 1) n (omega arith)) ∙ sum_zero x
  | inr ne ↦
      ap₂ bit_xor (ap (λ (b : Bool). cond b x 0) (ne_eqb place a ne)) (slots_one place x (a + 1) n (omega arith) (omega arith)) ∙ zero_sum x
]

-- what the slots of a row add to an equation: each item's on its slot, and their sum on one more
pub cancels : (add item_of value : ℕ → ℕ) (place n d : ℕ) → place < n → ((i : ℕ) → i < d → item_of i < n) →
    ((s : ℕ) → s < n → add s ≡ bit_xor (on_slot place (items_sum value d) s) (items_sum (λ i. on_slot (item_of i) (value i) s) d)) →
    slots_sum add 0 n ≡ 0
cancels add item_of value place n d within inside parts =
    slots_same add (λ s. bit_xor (on_slot place (items_sum value d) s) (items_sum (λ i. on_slot (item_of i) (value i) s) d)) 0 n
    (λ s low high. parts s (omega arith))
    ∙ slots_both (on_slot place (items_sum value d)) (λ s. items_sum (λ i. on_slot (item_of i) (value i) s) d) 0 n
    ∙ ap₂ bit_xor (slots_one place (items_sum value d) 0 n (omega arith) (omega arith))
    (turned (λ i s. on_slot (item_of i) (value i) s) 0 n d
    ∙ items_same (λ i. slots_sum (on_slot (item_of i) (value i)) 0 n) value d
    (λ i lt. let h = inside i lt in slots_one (item_of i) (value i) 0 n (omega arith) (omega arith)))
    ∙ sum_self (items_sum value d)
