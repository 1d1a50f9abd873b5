-- The numbers of ways fit, and how a row of them gives the next.
use Rattle.std.proofs.Common.{ℕ, ◌≡◌, ◌≤◌, ◌+◌, ◌-◌, ◌*◌, ◌^◌, refl, sym, ap, ◌∙◌, arith, zero, suc, Bool, true, false, ◌&&◌, cond, nat_le}
use Rattle.raid_params.specs.declared.limits.TheConstants.{MOST}
use Rattle.std.proofs.lemmas.Nat.{mul-le}
use Rattle.std.proofs.Math.Nat.{pow-suc, pow-zero, pow-le-pow_right, le_trans}
use Rattle.std.proofs.Math.Numerals.{add-one}
use Rattle.slot_math.specs.Ways.{ways}

one_or_none : (b : Bool) → cond b 1 0 ≤ 1
one_or_none true = omega arith
one_or_none false = omega arith

-- with at most c unused images there are at most (c + 1) ^ m ways
ways_below : (low high c u m e : ℕ) → u ≤ c → ways low high u m e ≤ (c + 1) ^ m
unfolding ways
ways_below low high c u zero e h = rw pow-zero (one_or_none (nat_le low e && nat_le e high))
ways_below low high c u (suc m) e h =
    let a : ways low high (u - 1) m e ≤ (c + 1) ^ m = ways_below low high c (u - 1) m e (omega arith) in
    let b : ways low high u m (e + 1) ≤ (c + 1) ^ m = ways_below low high c u m (e + 1) h in
    let p : u * ways low high (u - 1) m e ≤ c * (c + 1) ^ m = mul-le u (ways low high (u - 1) m e) c ((c + 1) ^ m) h a in
    rw pow-suc (omega arith)

pub ways_fit : (low high u m e : ℕ) → u ≤ MOST → m ≤ MOST → ways low high u m e ≤ (MOST + 1) ^ MOST
ways_fit low high u m e hu hm = le_trans (ways_below low high MOST u m e hu) (pow-le-pow_right {n = MOST + 1} (omega arith) {i = m} {j = MOST} hm)

pub ways_zero : (low high u e : ℕ) → ways low high u 0 e ≡ cond (nat_le low e && nat_le e high) 1 0
unfolding ways
ways_zero low high u e = refl

-- one step of the table
pub ways_next : (low high free left k m e x y : ℕ) → k + m + 1 ≤ left → x ≡ ways low high (free + k + m - left) m (e + k) → y ≡ ways low high (free + (k + 1) + m - left) m (e + (k + 1)) →
    (free + k + m + 1 - left) * x + y ≡ ways low high (free + k + (m + 1) - left) (m + 1) (e + k)
unfolding ways
ways_next low high free left k m e x y h p q =
    let u = free + k + m + 1 - left in
    let same : free + k + (m + 1) - left ≡ free + k + m + 1 - left = omega arith in
    let less : free + k + m - left ≡ u - 1 = omega arith in
    let next : free + (k + 1) + m - left ≡ u = omega arith in
    ap (λ (t : ℕ). u * t + y) (p ∙ ap (λ (v : ℕ). ways low high v m (e + k)) less)
    ∙ ap (λ (t : ℕ). u * ways low high (u - 1) m (e + k) + t) (q ∙ ap (λ (v : ℕ). ways low high v m (e + (k + 1))) next ∙ ap (ways low high u m) (let r : e + (k + 1) ≡ (e + k) + 1 = omega arith in r))
    ∙ ap (λ (n : ℕ). ways low high u n (e + k)) (sym (add-one m))
    ∙ ap (λ (v : ℕ). ways low high v (m + 1) (e + k)) (sym same)

pub small_product : (u x y : ℕ) → u ≤ MOST → x ≤ (MOST + 1) ^ MOST → y ≤ (MOST + 1) ^ MOST → u * x + y ≤ (MOST + 1) ^ (MOST + 1)
small_product u x y hu hx hy = let p : u * x ≤ MOST * (MOST + 1) ^ MOST = mul-le u x MOST ((MOST + 1) ^ MOST) hu hx in omega arith
