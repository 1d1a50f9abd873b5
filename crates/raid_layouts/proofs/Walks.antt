-- How many data slots the walk from the slot after Q meets before a slot.
use Rattle.std.proofs.Common.{◌≡◌, ◌≢◌, ℕ, zero, suc, ◌+◌, ◌-◌, ◌*◌, ◌%◌, ◌<◌, ◌≤◌, inl, inr, sym, arith, ap, ◌∙◌, refl, nat_le, cond, Bool, true, false, ◌&&◌, List, [], ◌∷◌, map}
use Rattle.std.proofs.Math.Nat.{mod-eq_of_lt, add-mul-mod_self_left}
use Rattle.std.proofs.lemmas.Bool.{cases_eq}
use Rattle.std.proofs.lemmas.Bool.Decides.{nat_tests}
use Rattle.std.proofs.lemmas.List.Sums.{take_while-cons, sum_by-cons}
use Rattle.std.specs.List.{range_with_len, take_while, count_by}
use Rattle.std.specs.Prelude.{◌==◌, nat_lt, not}
use Rattle.raid_terms.specs.Exponent.{number_after_q}
use Rattle.raid_layouts.proofs.Single.{round_once}

other : (a b : ℕ) → a ≢ b → not (a == b) ≡ true
other a b ne = grind (arith, nat_tests)

itself : (a b : ℕ) → a ≡ b → not (a == b) ≡ false
itself a b e = grind (arith, nat_tests)

-- a walk f that comes to `slot` at step d, to p at step dp, and to q no earlier than to `slot`
record IsWalk (f : ℕ → ℕ) (p q slot d dp : ℕ) : Type 0 where
  at_slot : f d ≡ slot
  not_yet : (k : ℕ) → k < d → f k ≢ slot
  at_p : f dp ≡ p
  not_p : (k : ℕ) → k < d → k ≢ dp → f k ≢ p
  not_q : (k : ℕ) → k < d → f k ≢ q

abbrev is_data : ℕ → ℕ → ℕ → Bool
is_data p q t = not (t == p) && not (t == q)

abbrev keeps : ℕ → ℕ → Bool
keeps slot t = not (t == slot)

-- one where P is met from step a on and before step d
abbrev passed : ℕ → ℕ → ℕ → ℕ
passed a d dp = cond (nat_le a dp && nat_lt dp d) 1 0

data_here : (p q t : ℕ) → t ≢ p → t ≢ q → is_data p q t ≡ true
data_here p q t a b = grind (arith, nat_tests)

p_here : (p q t : ℕ) → t ≡ p → is_data p q t ≡ false
p_here p q t a = grind (arith, nat_tests)

passed_none : (a d dp : ℕ) → a ≡ d → passed a d dp ≡ 0
passed_none a d dp e = grind (arith, nat_tests)

passed_later : (a d dp : ℕ) → a ≢ dp → passed a d dp ≡ passed (a + 1) d dp
passed_later a d dp ne = grind (arith, nat_tests)

passed_now : (a d dp : ℕ) → a ≡ dp → a < d → (passed a d dp ≡ 1) × (passed (a + 1) d dp ≡ 0)
passed_now a d dp e h = (grind (arith, nat_tests), grind (arith, nat_tests))

-- how many data slots come before the slot
abbrev met : ℕ → ℕ → ℕ → List ℕ → ℕ
met p q slot xs = count_by (is_data p q) (take_while (keeps slot) xs)

met_end : (p q slot x : ℕ) (xs : List ℕ) → keeps slot x ≡ false → met p q slot (x ∷ xs) ≡ 0
met_end p q slot x xs k =
    ap (λ (l : List ℕ). count_by (is_data p q) l) (take_while-cons (keeps slot) x xs ∙ ap (λ (b : Bool). cond b (x ∷ take_while (keeps slot) xs) []) k)

met_data : (p q slot x : ℕ) (xs : List ℕ) → keeps slot x ≡ true → is_data p q x ≡ true → met p q slot (x ∷ xs) ≡ 1 + met p q slot xs
met_data p q slot x xs k h =
    ap (λ (l : List ℕ). count_by (is_data p q) l) (take_while-cons (keeps slot) x xs ∙ ap (λ (b : Bool). cond b (x ∷ take_while (keeps slot) xs) []) k)
    ∙ sum_by-cons (λ t. cond (is_data p q t) 1 0) x (take_while (keeps slot) xs)
    ∙ ap (λ (b : Bool). cond b 1 0 + met p q slot xs) h

met_p : (p q slot x : ℕ) (xs : List ℕ) → keeps slot x ≡ true → is_data p q x ≡ false → met p q slot (x ∷ xs) ≡ 0 + met p q slot xs
met_p p q slot x xs k h =
    ap (λ (l : List ℕ). count_by (is_data p q) l) (take_while-cons (keeps slot) x xs ∙ ap (λ (b : Bool). cond b (x ∷ take_while (keeps slot) xs) []) k)
    ∙ sum_by-cons (λ t. cond (is_data p q t) 1 0) x (take_while (keeps slot) xs)
    ∙ ap (λ (b : Bool). cond b 1 0 + met p q slot xs) h

count_is : (f : ℕ → ℕ) (p q slot d dp : ℕ) → IsWalk f p q slot d dp → (m a : ℕ) → a ≤ d → d < a + m →
    met p q slot (map f (range_with_len a m)) + passed a d dp ≡ d - a
count_is f p q slot d dp w zero a le lt = absurd (omega arith)
count_is f p q slot d dp w (suc m) a le lt =
    let rest = map f (range_with_len (a + 1) m) in
    elim (cases_eq a d) [
      | inl e ↦
          let end : met p q slot (f a ∷ rest) ≡ 0 = met_end p q slot (f a) rest (itself (f a) slot (ap f e ∙ w.at_slot)) in
          let none : passed a d dp ≡ 0 = passed_none a d dp e in
          omega arith
      | inr ne ↦
          let before : a < d = omega arith in
          let keep : keeps slot (f a) ≡ true = other (f a) slot (w.not_yet a before) in
          let after : met p q slot rest + passed (a + 1) d dp ≡ d - (a + 1) = count_is f p q slot d dp w m (a + 1) (omega arith) (omega arith) in
          elim (cases_eq a dp) [
            | inl e ↦
                let one : met p q slot (f a ∷ rest) ≡ 0 + met p q slot rest = met_p p q slot (f a) rest keep (p_here p q (f a) (ap f e ∙ w.at_p)) in
                let now : (passed a d dp ≡ 1) × (passed (a + 1) d dp ≡ 0) = passed_now a d dp e before in
                let x = now.0 in
                let y = now.1 in
                omega arith
            | inr later ↦
                let one : met p q slot (f a ∷ rest) ≡ 1 + met p q slot rest
                = met_data p q slot (f a) rest keep (data_here p q (f a) (w.not_p a before later) (w.not_q a before)) in
                let same : passed a d dp ≡ passed (a + 1) d dp = passed_later a d dp later in
                omega arith
          ]
    ]

-- the steps of the walk from the slot after Q differ up to once round
steps_once : (n q i j : ℕ) → q < n → i < n → j < n → (q + 1 + i) % n ≡ (q + 1 + j) % n → i ≡ j
steps_once n q i j h k l e = round_once n (q + 1) i j (omega arith) (omega arith) k l e

-- the number of a slot to which the walk comes at step d, with P at step dp
pub number_is : (n p q slot d dp : ℕ) → q < n → d < n - 1 → dp < n - 1 → slot ≡ (q + 1 + d) % n → p ≡ (q + 1 + dp) % n →
    number_after_q n p q slot + passed 0 d dp ≡ d
number_is n p q slot d dp h k l at on =
    let q_is : (q + 1 + (n - 1)) % n ≡ q =
    let e : q + 1 + (n - 1) ≡ q + n * 1 = omega arith in
    ap (λ (x : ℕ). x % n) e ∙ add-mul-mod_self_left q n 1 ∙ mod-eq_of_lt h in
    let w : IsWalk (λ i. (q + 1 + i) % n) p q slot d dp = record {
      at_slot = sym at;
      not_yet = λ i lt e. let x = steps_once n q i d h (omega arith) (omega arith) (e ∙ at) in omega arith;
      at_p = sym on;
      not_p = λ i lt ne e. ne (steps_once n q i dp h (omega arith) (omega arith) (e ∙ on));
      not_q = λ i lt e. let x = steps_once n q i (n - 1) h (omega arith) (omega arith) (e ∙ sym q_is) in omega arith;
    } in
    let whole : d - 0 ≡ d = omega arith in
    count_is (λ i. (q + 1 + i) % n) p q slot d dp w n 0 (omega arith) (omega arith) ∙ whole

-- P is met before the slot, or after it
pub number_past_p : (n p q slot d dp : ℕ) → q < n → d < n - 1 → dp < n - 1 → slot ≡ (q + 1 + d) % n → p ≡ (q + 1 + dp) % n → dp < d →
    number_after_q n p q slot + 1 ≡ d
number_past_p n p q slot d dp h k l at on lt =
    let e : number_after_q n p q slot + passed 0 d dp ≡ d = number_is n p q slot d dp h k l at on in
    let one : passed 0 d dp ≡ 1 = grind (arith, nat_tests) in
    omega arith

pub number_up_to_p : (n p q slot d dp : ℕ) → q < n → d < n - 1 → dp < n - 1 → slot ≡ (q + 1 + d) % n → p ≡ (q + 1 + dp) % n → d ≤ dp →
    number_after_q n p q slot ≡ d
number_up_to_p n p q slot d dp h k l at on le =
    let e : number_after_q n p q slot + passed 0 d dp ≡ d = number_is n p q slot d dp h k l at on in
    let none : passed 0 d dp ≡ 0 = grind (arith, nat_tests) in
    omega arith

apart_steps : (d e dp k x y : ℕ) → d ≢ dp → e ≢ dp → x ≡ passed 0 d dp → y ≡ passed 0 e dp → k + x ≡ d → k + y ≡ e → d ≡ e
apart_steps d e dp k x y dn en px py a b = grind (arith, nat_tests)

-- data slots of one number are one slot
pub number_once : (n p q s t k : ℕ) (d e dp : ℕ) → q < n → d < n - 1 → e < n - 1 → dp < n - 1 →
    s ≡ (q + 1 + d) % n → t ≡ (q + 1 + e) % n → p ≡ (q + 1 + dp) % n → s ≢ p → t ≢ p →
    k ≡ number_after_q n p q s → k ≡ number_after_q n p q t → s ≡ t
number_once n p q s t k d e dp h hd he hp at_s at_t at_p s_not t_not ks kt =
    let x : number_after_q n p q s + passed 0 d dp ≡ d = number_is n p q s d dp h hd hp at_s at_p in
    let y : number_after_q n p q t + passed 0 e dp ≡ e = number_is n p q t e dp h he hp at_t at_p in
    let d_not : d ≢ dp = λ f. s_not (at_s ∙ ap (λ (i : ℕ). (q + 1 + i) % n) f ∙ sym at_p) in
    let e_not : e ≢ dp = λ f. t_not (at_t ∙ ap (λ (i : ℕ). (q + 1 + i) % n) f ∙ sym at_p) in
    let same : d ≡ e = apart_steps d e dp k (passed 0 d dp) (passed 0 e dp) d_not e_not refl refl (omega arith) (omega arith) in
    at_s ∙ ap (λ (i : ℕ). (q + 1 + i) % n) same ∙ sym at_t
