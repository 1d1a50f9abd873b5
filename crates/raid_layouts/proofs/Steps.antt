-- A row further on, and the item of a slot by formulas.
use Rattle.std.proofs.Common.{◌≡◌, ◌≢◌, ℕ, ◌+◌, ◌-◌, ◌%◌, ◌<◌, ◌≤◌, arith, ap, ◌∙◌}
use Rattle.std.proofs.Math.Nat.{mod-add-mod}
use Rattle.raid_terms.specs.Role.{leftward}
use Rattle.raid_layouts.proofs.Single.{round_behind, round_before}
use Rattle.raid_layouts.proofs.Double.{two_on, two_round}

-- one more, by the remainder
pub next_turn : (n row : ℕ) → leftward n (row % n + 1) ≡ leftward n (row + 1)
next_turn n row = ap (λ (t : ℕ). n - 1 - t) (mod-add-mod row n 1)

-- the items from the second slot after P on
pub second_behind : (n p s : ℕ) → s < n → p < s → s ≢ (p + 1) % n → s ≡ (p + 2 + (s - p - 1 - 1)) % n
second_behind n p s h k nq =
    let two : p + 1 < s = two_on n p s h k nq in
    let e : p + 1 + (s - p - 1) ≡ p + 2 + (s - p - 1 - 1) = omega arith in
    round_behind n p s h k ∙ ap (λ (x : ℕ). x % n) e

pub second_before : (n p s : ℕ) → s < p → p < n → s ≢ (p + 1) % n → s ≡ (p + 2 + (s + n - p - 1 - 1)) % n
second_before n p s h k nq =
    let two : p + 2 ≤ s + n = two_round n p s h k nq in
    let e : p + 1 + (s + n - p - 1) ≡ p + 2 + (s + n - p - 1 - 1) = omega arith in
    round_before n p s h k ∙ ap (λ (x : ℕ). x % n) e
