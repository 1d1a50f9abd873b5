-- What the kernels give at one place, in the field of 256 elements.
use Rattle.std.specs.Prelude.{ℕ, bit_xor}
use Rattle.gf256.specs.Field.{double, product}

-- 2a + b
abbrev pub double_sum : ℕ → ℕ → ℕ
double_sum a b = bit_xor (double a) b

-- a + factor * b
abbrev pub scaled_sum : ℕ → ℕ → ℕ → ℕ
scaled_sum factor a b = bit_xor a (product factor b)

-- by_p * p + by_q * q
abbrev pub weighed_sum : ℕ → ℕ → ℕ → ℕ → ℕ
weighed_sum by_p by_q p q = bit_xor (product by_p p) (product by_q q)
