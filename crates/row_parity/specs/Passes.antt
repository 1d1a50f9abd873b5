-- What the sums of a column have to be.
use Rattle.std.specs.Prelude.{ℕ, ◌≡◌, bit_xor}
use Rattle.gf256.specs.Field.{power_of, product}
use Rattle.row_parity.specs.declared.strips.Test.{Test}
use Rattle.row_parity.specs.declared.strips.Test.TheVariants.{Both, Q, QByP}

-- the sums p of P's equation and q of Q's pass the test
abbrev pub Passes : Test → ℕ → ℕ → Type 0
Passes Both p q = (p ≡ 0) × (q ≡ 0)
Passes Q p q = q ≡ 0
Passes (QByP k) p q = bit_xor q (product (power_of k) p) ≡ 0
