-- Multiplying by a byte that is not 0 can be undone.
use Rattle.std.proofs.Common.{ℕ, ◌≡◌, ◌≢◌, ◌<◌, ◌^◌, ◌-◌, ◌%◌, get_or, sym, ap, ◌∙◌, arith}
use Rattle.gf256.specs.Field.{product}
use Rattle.gf256.specs.declared.tables.TheConstants.{POWERS, LOGARITHMS}
use Rattle.gf256.proofs.Products.{associates, product_zero}
use Rattle.gf256.proofs.Powers.{commutes, product_one, by_logarithm_inverse, inverse_fits}

pub has_inverse : (a : ℕ) → a < 2 ^ 8 → a ≢ 0 → (x : ℕ) × (x < 2 ^ 8) × (product a x ≡ 1)
has_inverse a h ne = (get_or POWERS ((255 - get_or LOGARITHMS a 0) % 255) 0, inverse_fits a h, by_logarithm_inverse a h ne)

-- a, times b, times the inverse of a
undone : (a b x : ℕ) → a < 2 ^ 8 → b < 2 ^ 8 → x < 2 ^ 8 → product a x ≡ 1 → product x (product a b) ≡ b
undone a b x ha hb hx e =
    sym (associates x a b hx ha) ∙ ap (λ (y : ℕ). product y b) (commutes x a hx ha ∙ e) ∙ commutes 1 b (omega arith) hb ∙ product_one b hb

pub cancels : (a b c : ℕ) → a < 2 ^ 8 → b < 2 ^ 8 → c < 2 ^ 8 → product a b ≡ product a c → a ≢ 0 → b ≡ c
cancels a b c ha hb hc e ne =
    let i = has_inverse a ha ne in
    sym (undone a b i.0 ha hb i.1 i.2) ∙ ap (product i.0) e ∙ undone a c i.0 ha hc i.1 i.2

pub no_divisor : (a b : ℕ) → a < 2 ^ 8 → b < 2 ^ 8 → product a b ≡ 0 → a ≢ 0 → b ≡ 0
no_divisor a b ha hb e ne = cancels a b 0 ha hb (omega arith) (e ∙ sym (product_zero a)) ne

pub only_inverse : (a : ℕ) → a < 2 ^ 8 → a ≢ 0 → (x : ℕ) → x < 2 ^ 8 → product a x ≡ 1 → x ≡ get_or POWERS ((255 - get_or LOGARITHMS a 0) % 255) 0
only_inverse a ha ne x hx e =
    cancels a x (get_or POWERS ((255 - get_or LOGARITHMS a 0) % 255) 0) ha hx (inverse_fits a ha) (e ∙ sym (by_logarithm_inverse a ha ne)) ne

-- a, times the inverse of b, times b
pub undoes : (a b i : ℕ) → a < 2 ^ 8 → b < 2 ^ 8 → i < 2 ^ 8 → product b i ≡ 1 → product (product a i) b ≡ a
undoes a b i ha hb hi e = associates a i b ha hi ∙ ap (product a) (commutes i b hi hb ∙ e) ∙ product_one a ha

pub only_quotient : (a b i : ℕ) → b < 2 ^ 8 → product b i ≡ 1 → (x : ℕ) → x < 2 ^ 8 → product x b ≡ a → x ≡ product a i
only_quotient a b i hb e x hx f = sym (product_one x hx) ∙ ap (product x) (sym e) ∙ sym (associates x b i hx hb) ∙ ap (λ (y : ℕ). product y i) f
