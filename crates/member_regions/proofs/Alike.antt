-- Columns that agree where a member is there.
use Rattle.std.proofs.Common.{◌≡◌, ℕ, suc, ◌+◌, ◌*◌, ◌<◌, false, List, [], ◌∷◌, length, get_or, map, refl, sym, ap, ◌∙◌, arith, Some, None}
use Rattle.std.specs.Option.{is_none}
use Rattle.std.specs.List.{flat_map, range_with_len}
use Rattle.std.specs.declared.option.Option.{Option}
use Rattle.raid_params.specs.declared.types.Head.{Head}
use Rattle.raid_terms.specs.Cells.{cells_from}
use Rattle.raid_terms.specs.Parity.{filled, member_byte}

-- bytes before each of these columns
abbrev before : List (List ℕ) → List ℕ → List (List ℕ)
before columns bytes = flat_map (λ b. map (λ rest. b ∷ rest) columns) bytes

-- columns that agree where a member is there are filled alike: the bytes of missing members count for nothing
pub filled_alike : (f : Option ℕ → ℕ) (g : ℕ → ℕ) (head : Head) (row slot a : ℕ) (slots : List (Option ℕ)) →
    ((i : ℕ) → i < length slots → is_none (get_or slots i None) ≡ false → g (a + i) ≡ f (get_or slots i None)) →
    filled (cells_from head row slot slots) (map g (range_with_len a (length slots))) ≡ filled (cells_from head row slot slots) (map f slots)
unfolding filled
filled_alike f g head row slot a [] same = refl
filled_alike f g head row slot a (None ∷ slots) same =
    ap (λ (columns : List (List ℕ)). before columns (range_with_len 0 256))
    (filled_alike f g head row (slot + 1) (a + 1) slots (λ i below there. let on : a + 1 + i ≡ a + suc i = omega arith in ap g on ∙ same (suc i) (omega arith) there))
filled_alike f g head row slot a (Some image ∷ slots) same =
    let at : a + 0 ≡ a = omega arith in
    let here : g a ≡ f (Some image) = ap g (sym at) ∙ same 0 (omega arith) refl in
    ap (λ (v : ℕ). before (filled (cells_from head row (slot + 1) slots) (map g (range_with_len (a + 1) (length slots)))) (v ∷ [])) here
    ∙ ap (λ (columns : List (List ℕ)). before columns (f (Some image) ∷ []))
    (filled_alike f g head row (slot + 1) (a + 1) slots (λ i below there. let on : a + 1 + i ≡ a + suc i = omega arith in ap g on ∙ same (suc i) (omega arith) there))

-- a byte of a later sector
pub later_byte : (images : List (List ℕ)) (offset first j x : ℕ) (held : Option ℕ) → member_byte images offset first (512 * j + x) held ≡ member_byte images offset (first + j) x held
later_byte images offset first j x None = refl
later_byte images offset first j x (Some i) = ap (λ k. get_or (get_or images i []) k 0) (omega arith)
