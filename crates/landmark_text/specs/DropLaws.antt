-- Proofs that each sector of an image has a name of its own, without a comma. The implementation of `Spelled` gives
-- them as its law, which may cite `specs` alone.
use Rattle.std.proofs.Common.{◌≡◌, ◌≢◌, ◌<◌, ◌^◌, ℕ, List, [], ◌∷◌, ◌++◌, All, decimal, refl, ap₂, arith}
use Rattle.std.proofs.lemmas.Fmt.{decimal_injective}
use Rattle.std.proofs.lemmas.List.Elements.{All-head, All-tail, All-cons, All-append}
use Rattle.mark_kinds.specs.declared.table.DropAt.{DropAt}
use Rattle.value_text.specs.NameLaws.{number_law, without_separator}
use Rattle.value_text.specs.Spelling.{IsSpelling}
use Rattle.landmark_text.specs.Names.{IsDrop, drop_name}

-- two texts that are cut at the first colon are the same where their parts are
pub cut_once : (a b v w : List ℕ) → All (λ x. x ≢ 58) a → All (λ x. x ≢ 58) b → a ++ 58 ∷ v ≡ b ++ 58 ∷ w → (a ≡ b) × (v ≡ w)
cut_once [] [] v w na nb e = (refl, (cc))
cut_once [] (y ∷ b) v w na nb e = absurd (All-head (λ x. x ≢ 58) y b nb (cc))
cut_once (x ∷ a) [] v w na nb e = absurd (All-head (λ x. x ≢ 58) x a na (cc))
cut_once (x ∷ a) (y ∷ b) v w na nb e =
    let rest = cut_once a b v w (All-tail (λ x. x ≢ 58) x a na) (All-tail (λ x. x ≢ 58) y b nb) (cc) in
    (ap₂ (λ (k : ℕ) (ks : List ℕ). k ∷ ks) (cc) rest.0, rest.1)

pub decimal_has_no_colon : (n : ℕ) → n < 2 ^ 64 → All (λ x. x ≢ 58) (decimal n)
decimal_has_no_colon n small = without_separator 58 (decimal n) refl (number_law.has_no_separator n small)

drop_with : ℕ → ℕ → DropAt
drop_with image sector = record { image = image; sector = sector }

one_drop : (x y : DropAt) → IsDrop x → IsDrop y → drop_name x ≡ drop_name y → x ≡ y
unfolding drop_with
one_drop x y p q e =
    let px = p.image in
    let py = q.image in
    let sx = p.sector in
    let sy = q.sector in
    let both = cut_once (decimal x.image) (decimal y.image) (decimal x.sector) (decimal y.sector)
    (decimal_has_no_colon x.image (omega arith)) (decimal_has_no_colon y.image (omega arith)) e in
    let image = decimal_injective x.image y.image (omega arith) (omega arith) both.0 in
    let sector = decimal_injective x.sector y.sector (omega arith) (omega arith) both.1 in
    let same : drop_with x.image x.sector ≡ drop_with y.image y.sector = ap₂ drop_with image sector in
    same

abbrev IsOther : ℕ → Type 0
IsOther byte = byte ≢ 44

drop_has_no_comma : (x : DropAt) → IsDrop x → All (λ byte. byte ≢ 44) (drop_name x)
drop_has_no_comma x p =
    let px = p.image in
    let sx = p.sector in
    All-append IsOther (decimal x.image) (58 ∷ decimal x.sector) (without_separator 44 (decimal x.image) refl (number_law.has_no_separator x.image (omega arith)))
    (All-cons IsOther 58 (decimal x.sector) (λ e. absurd (omega (arith, e))) (without_separator 44 (decimal x.sector) refl (number_law.has_no_separator x.sector (omega arith))))

pub drop_law : IsSpelling drop_name IsDrop
drop_law = record { one_value = one_drop; has_none = drop_has_no_comma }
