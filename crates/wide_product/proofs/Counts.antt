-- Counts that stop at 2^64, and ranks below it.
use Rattle.std.proofs.Common.{ℕ, ◌≡◌, ◌≤◌, ◌*◌, ◌-◌, ◌^◌, min, ap, ap₂, ◌∙◌, arith, inl, inr}
use Rattle.std.proofs.Math.Nat.{mul-zero, zero-mul}
use Rattle.std.proofs.lemmas.Bool.{cases_eq, cases_lt}
use Rattle.std.proofs.lemmas.Nat.{mul-le}

-- a product of counts that stop stops where the product does
pub stops_times : (n m : ℕ) → min (min n (2 ^ 64) * min m (2 ^ 64)) (2 ^ 64) ≡ min (n * m) (2 ^ 64)
stops_times n m = elim (cases_eq n 0) [
  | inl none ↦
      let low : min n (2 ^ 64) ≡ 0 = omega arith in
      let a : min n (2 ^ 64) * min m (2 ^ 64) ≡ 0 = ap (λ (k : ℕ). k * min m (2 ^ 64)) low ∙ zero-mul (min m (2 ^ 64)) in
      let b : n * m ≡ 0 = ap (λ (k : ℕ). k * m) none ∙ zero-mul m in
      omega arith
  | inr some ↦ elim (cases_eq m 0) [
    | inl none ↦
        let low : min m (2 ^ 64) ≡ 0 = omega arith in
        let a : min n (2 ^ 64) * min m (2 ^ 64) ≡ 0 = ap (λ (k : ℕ). min n (2 ^ 64) * k) low ∙ mul-zero (min n (2 ^ 64)) in
        let b : n * m ≡ 0 = ap (λ (k : ℕ). n * k) none ∙ mul-zero n in
        omega arith
    | inr more ↦ both n m (let s : n ≡ 0 → ⊥ = some in omega arith) (let s : m ≡ 0 → ⊥ = more in omega arith)
  ]
]
  where
    both : (n m : ℕ) → 1 ≤ n → 1 ≤ m → min (min n (2 ^ 64) * min m (2 ^ 64)) (2 ^ 64) ≡ min (n * m) (2 ^ 64)
    both n m some more = elim (cases_lt n (2 ^ 64)) [
      | inl few ↦ elim (cases_lt m (2 ^ 64)) [
        | inl fewer ↦
            let a : min n (2 ^ 64) ≡ n = omega arith in
            let b : min m (2 ^ 64) ≡ m = omega arith in
            ap₂ (λ (x y : ℕ). min (x * y) (2 ^ 64)) a b
        | inr many ↦
            let a : 1 * (2 ^ 64) ≤ min n (2 ^ 64) * min m (2 ^ 64) = mul-le 1 (2 ^ 64) (min n (2 ^ 64)) (min m (2 ^ 64)) (omega arith) (omega arith) in
            let b : 1 * (2 ^ 64) ≤ n * m = mul-le 1 (2 ^ 64) n m some (omega arith) in
            omega arith
      ]
      | inr many ↦
          let a : (2 ^ 64) * 1 ≤ min n (2 ^ 64) * min m (2 ^ 64) = mul-le (2 ^ 64) 1 (min n (2 ^ 64)) (min m (2 ^ 64)) (omega arith) (omega arith) in
          let b : (2 ^ 64) * 1 ≤ n * m = mul-le (2 ^ 64) 1 n m (omega arith) more in
          omega arith
    ]

-- so does one that is cut at the end of 128 bits first
low : (p q r : ℕ) → p ≡ q → min q (2 ^ 64) ≡ r → min (min p (2 ^ 128 - 1)) (2 ^ 64) ≡ r
low p q r e f = omega arith

pub product_stops : (a b n m : ℕ) → a ≡ min n (2 ^ 64) → b ≡ min m (2 ^ 64) → min (min (a * b) (2 ^ 128 - 1)) (2 ^ 64) ≡ min (n * m) (2 ^ 64)
product_stops a b n m e f = low (a * b) (min n (2 ^ 64) * min m (2 ^ 64)) (min (n * m) (2 ^ 64)) (ap₂ (λ (x y : ℕ). x * y) e f) (stops_times n m)
