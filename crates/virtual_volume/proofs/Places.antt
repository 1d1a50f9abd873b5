-- How long a batch of rows is.
use Rattle.std.proofs.Common.{◌≡◌, ℕ, ◌*◌, ◌/◌, ◌<◌, ◌≤◌, inl, inr, arith, ap}
use Rattle.std.specs.Prelude.{max}
use Rattle.std.proofs.lemmas.Bool.{cases_lt}

-- it has no more sectors than a block, or than a chunk
pub short_batch : (chunk rows : ℕ) → 0 < chunk → rows ≡ max (256 / chunk) 1 → rows * chunk ≤ max 256 chunk
short_batch chunk rows h e =
    elim (cases_lt (256 / chunk) 1) [
      | inl few ↦ (let one : rows ≡ 1 = omega arith in let same : rows * chunk ≡ 1 * chunk = ap (λ (n : ℕ). n * chunk) one in omega arith)
      | inr more ↦ (let some : rows ≡ 256 / chunk = omega arith in let same : rows * chunk ≡ 256 / chunk * chunk = ap (λ (n : ℕ). n * chunk) some in
          let turned : 256 / chunk * chunk ≡ chunk * (256 / chunk) = grind arith in omega arith)
    ]
