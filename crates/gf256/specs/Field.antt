-- The field of 256 elements: a byte is a polynomial over two elements, reduced by 0x11D. The sum is `bit_xor`.
use Rattle.std.specs.Prelude.{ℕ, zero, suc, ◌*◌, ◌/◌, ◌%◌, ◌==◌, nat_lt, if◌then◌else◌, bit_xor}

-- 2 * x: a shift, reduced by 0x11D (which is 285) where it leaves the byte
abbrev pub double : ℕ → ℕ
double x = if nat_lt x 128 then 2 * x else bit_xor (2 * x) 285

-- a where b is odd
abbrev pub if_odd : ℕ → ℕ → ℕ
if_odd b a = if b % 2 == 1 then a else 0

-- a times the lowest n binary digits of b
unfoldable pub times : ℕ → ℕ → ℕ → ℕ
times zero a b = 0
times (suc n) a b = bit_xor (double (times n a (b / 2))) (if_odd b a)

-- a * b, for b below 256: it is 0 where b is 0, and elsewhere 2 * (a * (b / 2)), plus a where b is odd
abbrev pub product : ℕ → ℕ → ℕ
product a b = times 8 a b

-- 2 multiplied k times
unfoldable pub power_of : ℕ → ℕ
power_of zero = 1
power_of (suc k) = double (power_of k)
