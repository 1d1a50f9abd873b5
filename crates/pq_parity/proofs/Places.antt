-- The missing cells before a place, at it and after it.
use Rattle.std.proofs.Common.{ℕ, zero, suc, ◌≡◌, ◌+◌, Bool, true, false, cond, List, [], ◌∷◌, ◌++◌, length, take, drop, get_or, refl, ap, ◌∙◌, arith, add-one}
use Rattle.std.specs.List.{find, slice_get}
use Rattle.std.specs.Option.{option_map}
use Rattle.std.specs.declared.option.Option.{Option}
use Rattle.std.specs.declared.option.Option.TheVariants.{None, Some}
use Rattle.raid_params.specs.declared.types.Cell.{Cell}
use Rattle.raid_params.specs.declared.types.Part.{Part}
use Rattle.row_parity.specs.LostBytes.{first_missing}
use Rattle.row_parity.proofs.Fillings.{lost, put, AreBytes}

-- the first of some parts
abbrev pub first : List Part → Option Part
first [] = None
first (part ∷ parts) = Some part

first_step : (t : Bool) (cell : Cell) (cells : List Cell) → first_missing cells ≡ first (lost cells) →
    option_map (λ c. c.part) (cond t (Some cell) (find (λ c. c.missing) cells)) ≡ first (cond t (cell.part ∷ lost cells) (lost cells))
first_step true cell cells e = refl
first_step false cell cells e = e

pub first_lost : (cells : List Cell) → first_missing cells ≡ first (lost cells)
first_lost [] = refl
first_lost (cell ∷ cells) = first_step cell.missing cell cells (first_lost cells)

here : (t : Bool) (part : Part) (parts : List Part) → t ≡ true → cond t (part ∷ parts) parts ≡ part ∷ parts
here t part parts e = ap (λ (b : Bool). cond b (part ∷ parts) parts) e

split_step : (t : Bool) (part : Part) (all before after : List Part) → all ≡ before ++ after → cond t (part ∷ all) all ≡ cond t (part ∷ before) before ++ after
split_step true part all before after e = ap (λ (ps : List Part). part ∷ ps) e
split_step false part all before after e = e

lost-split : (cells : List Cell) (place : ℕ) (cell : Cell) → slice_get cells place ≡ Some cell → cell.missing ≡ true →
    lost cells ≡ lost (take place cells) ++ (cell.part ∷ lost (drop (suc place) cells))
lost-split [] place cell is missing = absurd (let h : None ≡ Some cell = is in cc)
lost-split (c ∷ cs) zero cell is missing =
    let same : c ≡ cell = cc in
    ap (λ (d : Cell). cond d.missing (d.part ∷ lost cs) (lost cs)) same ∙ here cell.missing cell.part (lost cs) missing
lost-split (c ∷ cs) (suc place) cell is missing =
    split_step c.missing c.part (lost cs) (lost (take place cs)) (cell.part ∷ lost (drop (suc place) cs)) (lost-split cs place cell is missing)

pub lost_around : (cells : List Cell) (place : ℕ) (cell : Cell) → slice_get cells place ≡ Some cell → cell.missing ≡ true →
    lost cells ≡ lost (take place cells) ++ (cell.part ∷ lost (drop (place + 1) cells))
lost_around cells place cell is missing = rw add-one (lost-split cells place cell is missing)

put_step : (t : Bool) (part : Part) (cells before : List Cell) (bytes xs : List ℕ) (byte place : ℕ) → AreBytes (cond t (part ∷ lost cells) (lost cells)) xs →
    ((ys : List ℕ) → AreBytes (lost cells) ys → get_or (put cells bytes ys) place 0 ≡ get_or ys (length (lost before)) 0) →
    get_or (cond t (get_or xs 0 0 ∷ put cells bytes (drop 1 xs)) (byte ∷ put cells bytes xs)) (suc place) 0 ≡ get_or xs (length (cond t (part ∷ lost before) (lost before))) 0
put_step true part cells before bytes [] byte place fit next = absurd fit
put_step true part cells before bytes (x ∷ xs) byte place fit next = next xs fit.1
put_step false part cells before bytes xs byte place fit next = next xs fit

-- the byte at a missing cell
pub put_at : (cells : List Cell) (bytes xs : List ℕ) (place : ℕ) (cell : Cell) → length bytes ≡ length cells → AreBytes (lost cells) xs →
    slice_get cells place ≡ Some cell → cell.missing ≡ true → get_or (put cells bytes xs) place 0 ≡ get_or xs (length (lost (take place cells))) 0
put_at [] bytes xs place cell e fit is missing = absurd (let h : None ≡ Some cell = is in cc)
put_at (c ∷ cs) [] xs place cell e fit is missing = absurd (omega arith)
put_at (c ∷ cs) (b ∷ bs) xs zero cell e fit is missing =
    let same : c ≡ cell = cc in
    ap (λ (t : Bool). get_or (cond t (get_or xs 0 0 ∷ put cs bs (drop 1 xs)) (b ∷ put cs bs xs)) 0 0) (ap (λ (d : Cell). d.missing) same ∙ missing)
put_at (c ∷ cs) (b ∷ bs) xs (suc place) cell e fit is missing =
    put_step c.missing c.part cs (take place cs) bs xs b place fit (λ ys f. put_at cs bs ys place cell (omega arith) f is missing)
