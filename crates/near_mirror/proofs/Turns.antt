-- Remainders and rows of sums.
use Rattle.std.proofs.Common.{◌≡◌, ℕ, zero, suc, ◌+◌, ◌*◌, ◌%◌, ◌/◌, ◌<◌, ◌≤◌, arith, ap, sym, ◌∙◌, inl, inr}
use Rattle.std.proofs.lemmas.Bool.{cases_lt}
use Rattle.std.proofs.lemmas.Nat.{mul-le, div-add-mod', mod-mul-add, mod_below}

-- whole chunks do not reach past what they are cut from
pub whole_below : (x n : ℕ) → x / n * n ≤ x
whole_below x n = let split : x / n * n + x % n ≡ x = div-add-mod' x n in omega arith

pub div_short : (x n : ℕ) → x / n ≤ x
div_short x zero = omega arith
div_short x (suc n) =
    let whole = whole_below x (suc n) in
    let more : x / suc n * 1 ≤ x / suc n * suc n = mul-le (x / suc n) 1 (x / suc n) (suc n) (omega arith) (omega arith) in
    omega arith

-- a whole number of turns does not change where one stands
pub whole_turns : (q a m : ℕ) → 0 < m → (q * m + a) % m ≡ a % m
whole_turns q a m some =
    let split : a / m * m + a % m ≡ a = div-add-mod' a m in
    let joined : (q + a / m) * m ≡ q * m + a / m * m = grind arith in
    let same : q * m + a ≡ (q + a / m) * m + a % m = omega arith in
    ap (λ (x : ℕ). x % m) same ∙ mod-mul-add (q + a / m) m (a % m) (mod_below a m some)

-- two steps shorter than a turn that lead from one place to one place are the same
pub same_step : (c a b m : ℕ) → a < m → b < m → (c + a) % m ≡ (c + b) % m → a ≡ b
same_step c a b m short other e =
    let first : (c + a) / m * m + (c + a) % m ≡ c + a = div-add-mod' (c + a) m in
    let second : (c + b) / m * m + (c + b) % m ≡ c + b = div-add-mod' (c + b) m in
    elim (cases_lt ((c + a) / m) ((c + b) / m)) [
      | inl lt ↦
          let more : ((c + a) / m + 1) * m ≤ (c + b) / m * m = mul-le ((c + a) / m + 1) m ((c + b) / m) m (omega arith) (omega arith) in
          let step : ((c + a) / m + 1) * m ≡ (c + a) / m * m + m = grind arith in
          absurd (omega arith)
      | inr le ↦ elim (cases_lt ((c + b) / m) ((c + a) / m)) [
        | inl lt ↦
            let more : ((c + b) / m + 1) * m ≤ (c + a) / m * m = mul-le ((c + b) / m + 1) m ((c + a) / m) m (omega arith) (omega arith) in
            let step : ((c + b) / m + 1) * m ≡ (c + b) / m * m + m = grind arith in
            absurd (omega arith)
        | inr more ↦
            let row : (c + a) / m ≡ (c + b) / m = omega arith in
            let rows : (c + a) / m * m ≡ (c + b) / m * m = ap (λ (q : ℕ). q * m) row in
            omega arith
      ]
    ]

-- two chunks of one row that are on one slot after the same step are the same
pub same_in_row : (c d j m : ℕ) → 0 < m → c / m ≡ d / m → (c + j) % m ≡ (d + j) % m → c ≡ d
same_in_row c d j m some row e =
    let first : c / m * m + c % m ≡ c = div-add-mod' c m in
    let second : d / m * m + d % m ≡ d = div-add-mod' d m in
    let rows : c / m * m ≡ d / m * m = ap (λ (q : ℕ). q * m) row in
    let here : c + j ≡ (c / m * m + j) + c % m = omega arith in
    let there : d + j ≡ (c / m * m + j) + d % m = omega arith in
    let places = same_step (c / m * m + j) (c % m) (d % m) m (mod_below c m some) (mod_below d m some)
    (sym (ap (λ (x : ℕ). x % m) here) ∙ e ∙ ap (λ (x : ℕ). x % m) there) in
    omega arith
