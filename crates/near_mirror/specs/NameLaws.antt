-- Each layout has a name of its own, without a separator. The implementations of `Spelled` and `Field` give it as their law.
use Rattle.std.proofs.Common.{◌≡◌, ◌≤◌, ℕ, true, IsTrue, List, ◌++◌, get_or, codes, decimal, refl, ap, ◌∙◌, arith}
use Rattle.std.specs.List.{list_all}
use Rattle.std.specs.Cmp.Derive.{both_true}
use Rattle.std.proofs.lemmas.Bool.Decides.{nat_tests}
use Rattle.std.proofs.lemmas.Fmt.{decimal_injective}
use Rattle.std.proofs.lemmas.List.{append_cancel_left}
use Rattle.std.proofs.lemmas.List.Folds.{list_all-append}
use Rattle.value_text.specs.NameLaws.{number_law}
use Rattle.value_text.specs.Spelling.{is_plain, IsFieldName}
use Rattle.near_mirror.specs.Heads.{are_copies}
use Rattle.near_mirror.specs.Words.{copying_name, layout_name}
use Rattle.near_mirror.specs.declared.types.CopyLayout.{CopyLayout}
use Rattle.near_mirror.specs.declared.types.Copying.{Copying}
use Rattle.near_mirror.specs.declared.types.Copying.TheVariants.{Near, Far, Offset}

other_start : (xs ys : List ℕ) → xs ≡ ys → get_or xs 0 0 ≡ get_or ys 0 0
other_start xs ys e = ap (λ (l : List ℕ). get_or l 0 0) e

-- what a text begins with tells how copies lie, and what follows
pub same_copying : (a b : Copying) (xs ys : List ℕ) → copying_name a ++ xs ≡ copying_name b ++ ys → (a ≡ b) × (xs ≡ ys)
same_copying Near Near xs ys e = (refl, append_cancel_left (codes "near") xs ys e)
same_copying Far Far xs ys e = (refl, append_cancel_left (codes "far") xs ys e)
same_copying Offset Offset xs ys e = (refl, append_cancel_left (codes "offset") xs ys e)
same_copying Near Far xs ys e = absurd (let start = other_start _ _ e in omega arith)
same_copying Near Offset xs ys e = absurd (let start = other_start _ _ e in omega arith)
same_copying Far Near xs ys e = absurd (let start = other_start _ _ e in omega arith)
same_copying Far Offset xs ys e = absurd (let start = other_start _ _ e in omega arith)
same_copying Offset Near xs ys e = absurd (let start = other_start _ _ e in omega arith)
same_copying Offset Far xs ys e = absurd (let start = other_start _ _ e in omega arith)

pub few_copies : (copies : ℕ) → IsTrue (are_copies copies) → copies ≤ 4
few_copies copies h = grind (arith, nat_tests)

layout_with : Copying → ℕ → CopyLayout
layout_with copying copies = record { copying = copying; copies = copies }

same_layout : (x y : CopyLayout) → x.copying ≡ y.copying → x.copies ≡ y.copies → x ≡ y
unfolding layout_with
same_layout x y p q = let same : layout_with x.copying x.copies ≡ layout_with y.copying y.copies = cc in same

one_layout : (x y : CopyLayout) → IsTrue (are_copies x.copies) → IsTrue (are_copies y.copies) → layout_name x ≡ layout_name y → x ≡ y
one_layout x y p q e =
    let parts = same_copying x.copying y.copying (decimal x.copies) (decimal y.copies) e in
    same_layout x y parts.0 (decimal_injective x.copies y.copies (omega (arith, few_copies x.copies p)) (omega (arith, few_copies y.copies q)) parts.1)

plain_copying : (copying : Copying) → list_all is_plain (copying_name copying) ≡ true
plain_copying Near = refl
plain_copying Far = refl
plain_copying Offset = refl

layout_has_no_separator : (x : CopyLayout) → IsTrue (are_copies x.copies) → list_all is_plain (layout_name x) ≡ true
layout_has_no_separator x p =
    list_all-append is_plain (copying_name x.copying) (decimal x.copies)
    ∙ both_true (plain_copying x.copying) (number_law.has_no_separator x.copies (omega (arith, few_copies x.copies p)))

pub layout_law : IsFieldName layout_name (λ layout. IsTrue (are_copies layout.copies))
layout_law = record { one_value = one_layout; has_no_separator = layout_has_no_separator }
