-- The two numbers of a sector of an image, in its text.
use Rattle.std.proofs.Common.{◌≡◌, ◌≢◌, ℕ, ◌<◌, ◌^◌, List, [], ◌∷◌, ◌++◌, All, refl, sym, ◌∙◌, arith, decimal, subst}
use Rattle.std.proofs.lemmas.Fmt.{decimal_injective}
use Rattle.std.proofs.lemmas.List.Elements.{All-head, All-tail}
use Rattle.mark_kinds.specs.declared.table.DropAt.{DropAt}
use Rattle.landmark_text.specs.DropLaws.{cut_once, decimal_has_no_colon}
use Rattle.landmark_text.specs.Names.{IsDrop, drop_name}

has_colon : (a v : List ℕ) → All (λ x. x ≢ 58) (a ++ 58 ∷ v) → ⊥
has_colon [] v h = All-head (λ x. x ≢ 58) 58 v h refl
has_colon (x ∷ a) v h = has_colon a v (All-tail (λ x. x ≢ 58) x (a ++ 58 ∷ v) h)

-- a text without a colon is none of a sector
pub without_colon : (text : List ℕ) → All (λ x. x ≢ 58) text → (x : DropAt) → text ≢ drop_name x
without_colon text none x e = has_colon (decimal x.image) (decimal x.sector) (subst (λ t. All (λ x. x ≢ 58) t) e none)

-- the parts of the text are those of the sector
pub parts : (text image sector : List ℕ) (x : DropAt) → All (λ x. x ≢ 58) image → text ≡ image ++ 58 ∷ sector → IsDrop x → text ≡ drop_name x → (image ≡ decimal x.image) × (sector ≡ decimal x.sector)
parts text image sector x plain at is e =
    let few = is.image in
    cut_once image (decimal x.image) sector (decimal x.sector) plain (decimal_has_no_colon x.image (omega arith)) (sym at ∙ e)

-- and so are the numbers
pub numbers : (text image_text sector_text : List ℕ) (x : DropAt) (image sector : ℕ) → All (λ x. x ≢ 58) image_text → text ≡ image_text ++ 58 ∷ sector_text → (image < 2 ^ 8) × (image_text ≡ decimal image) → (sector < 2 ^ 64) × (sector_text ≡ decimal sector) →
    IsDrop x → text ≡ drop_name x → (image ≡ x.image) × (sector ≡ x.sector)
numbers text image_text sector_text x image sector plain at first second is e =
    let both = parts text image_text sector_text x plain at is e in
    let small = first.0 in
    let few = is.image in
    let near = is.sector in
    (decimal_injective image x.image (omega arith) (omega arith) (sym first.1 ∙ both.0), decimal_injective sector x.sector second.0 (omega arith) (sym second.1 ∙ both.1))
