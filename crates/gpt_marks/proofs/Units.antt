-- Blocks of 1 sector and of 8.
use Rattle.std.specs.Prelude.{◌==◌}
use Rattle.std.proofs.Common.{◌≡◌, ◌≢◌, ℕ, ◌*◌, ◌/◌, ◌%◌, ◌<◌, ◌≤◌, inl, inr, false, sym, arith, subst}
use Rattle.std.proofs.lemmas.Bool.Decides.{nat_tests}
use Rattle.gpt_marks.specs.Header.{IsUnit}

-- a block has a sector
pub some_sectors : (unit : ℕ) → IsUnit unit → 0 < unit
some_sectors unit (inl one) = omega (arith, one)
some_sectors unit (inr eight) = omega (arith, eight)

-- an image of whole blocks that has a sector has a block
pub some_blocks : (unit length sector : ℕ) → IsUnit unit → sector < length → length % unit ≡ 0 → 1 ≤ length / unit
some_blocks unit length sector (inl one) some whole = subst (λ (u : ℕ). length % u ≡ 0 → 1 ≤ length / u) (sym one) (λ h. omega arith) whole
some_blocks unit length sector (inr eight) some whole = subst (λ (u : ℕ). length % u ≡ 0 → 1 ≤ length / u) (sym eight) (λ h. omega arith) whole

-- no block begins at a sector that is no multiple of its sectors
pub not_begun : (unit sector lba : ℕ) → IsUnit unit → sector % unit ≢ 0 → (unit * lba == sector) ≡ false
not_begun unit sector lba (inl one) part = subst (λ (u : ℕ). sector % u ≢ 0 → (u * lba == sector) ≡ false) (sym one) (λ h. grind (arith, nat_tests)) part
not_begun unit sector lba (inr eight) part = subst (λ (u : ℕ). sector % u ≢ 0 → (u * lba == sector) ≡ false) (sym eight) (λ h. grind (arith, nat_tests)) part

-- and at a multiple of them the one block of that number
pub begins : (unit sector lba : ℕ) → IsUnit unit → sector % unit ≡ 0 → (lba == sector / unit) ≡ (unit * lba == sector)
begins unit sector lba (inl one) whole = subst (λ (u : ℕ). sector % u ≡ 0 → (lba == sector / u) ≡ (u * lba == sector)) (sym one) (λ h. grind (arith, nat_tests)) whole
begins unit sector lba (inr eight) whole = subst (λ (u : ℕ). sector % u ≡ 0 → (lba == sector / u) ≡ (u * lba == sector)) (sym eight) (λ h. grind (arith, nat_tests)) whole
