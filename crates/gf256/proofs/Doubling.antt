-- Doubling, as a product by 2.
use Rattle.std.proofs.Common.{ℕ, ◌≡◌, ◌<◌, ◌^◌, ◌==◌, refl, ap, ◌∙◌, bit_xor}
use Rattle.std.proofs.lemmas.Bool.{eqb-true}
use Rattle.gf256.specs.Field.{times, double, product}
use Rattle.gf256.proofs.EachByte.{at_each, double-xor, double_fits}
use Rattle.gf256.proofs.Products.{times-double}
use Rattle.gf256.proofs.Powers.{commutes}

pub by_two : (a : ℕ) → a < 2 ^ 8 → double a ≡ product 2 a
unfolding times
by_two a h = eqb-true (double a) (product 2 a) (at_each 256 (λ j. double j == product 2 j) refl a h)

pub sum_doubles : (a b : ℕ) → a < 2 ^ 8 → b < 2 ^ 8 → double (bit_xor a b) ≡ bit_xor (double a) (double b)
sum_doubles = double-xor

pub right_doubles : (a b : ℕ) → a < 2 ^ 8 → b < 2 ^ 8 → product a (double b) ≡ double (product a b)
right_doubles = times-double

pub left_doubles : (a b : ℕ) → a < 2 ^ 8 → b < 2 ^ 8 → product (double a) b ≡ double (product a b)
left_doubles a b ha hb =
    commutes (double a) b (double_fits a ha) hb ∙ times-double b a hb ha ∙ ap double (commutes b a hb ha)
