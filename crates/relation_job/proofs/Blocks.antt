-- A row of a block.
use Rattle.std.proofs.Common.{◌≡◌, ℕ, zero, suc, ◌+◌, ◌*◌, ◌-◌, ◌<◌, ◌≤◌, List, [], ◌∷◌, ◌++◌, length, take, drop, get_or, slice_index, refl, sym, ap, ap₂, ◌∙◌, arith}
use Rattle.std.specs.Prelude.{slice_range}
use Rattle.std.specs.List.{flat_map, range_with_len}
use Rattle.std.proofs.Math.Seq.{drop-append-add}
use Rattle.relation_job.specs.Blocks.{block_bytes, block_row, block_sector, row_sectors}
use Rattle.relation_job.specs.Relating.{row_bytes, row_sector}

take_take : (n r : ℕ) (xs : List ℕ) → take n (take (n + r) xs) ≡ take n xs
take_take zero r xs = refl
take_take (suc n) r [] = let more : suc n + r ≡ suc (n + r) = omega arith in ap (λ (k : ℕ). take (suc n) (take k [])) more
take_take (suc n) r (x ∷ xs) = let more : suc n + r ≡ suc (n + r) = omega arith in ap (λ (k : ℕ). take (suc n) (take k (x ∷ xs))) more ∙ ap (λ (l : List ℕ). x ∷ l) (take_take n r xs)

drop_none : (n : ℕ) → drop {A = ℕ} n [] ≡ []
drop_none zero = refl
drop_none (suc n) = refl

drop_drop : (s a : ℕ) (xs : List ℕ) → drop a (drop s xs) ≡ drop (s + a) xs
drop_drop zero a xs = ap (λ (k : ℕ). drop k xs) (omega arith)
drop_drop (suc s) a [] = drop_none a ∙ sym (drop_none (suc s + a))
drop_drop (suc s) a (x ∷ xs) = let more : suc (s + a) ≡ suc s + a = omega arith in drop_drop s a xs ∙ ap (λ (k : ℕ). drop k (x ∷ xs)) more

-- m bytes from place a on
abbrev cut : List ℕ → ℕ → ℕ → List ℕ
cut xs a m = take m (drop a xs)

cut_is : (xs : List ℕ) (a m : ℕ) → slice_range xs a (a + m) ≡ cut xs a m
cut_is xs a m = let same : a + m - a ≡ m = omega arith in ap (λ (k : ℕ). take k (drop a xs)) same

drop_take : (a m : ℕ) (xs : List ℕ) → drop a (take (a + m) xs) ≡ take m (drop a xs)
drop_take zero m xs = let same : 0 + m ≡ m = omega arith in ap (λ (k : ℕ). take k xs) same
drop_take (suc a) zero [] = let more : suc a + zero ≡ suc (a + zero) = omega arith in ap (λ (k : ℕ). drop (suc a) (take k [])) more
drop_take (suc a) (suc m) [] = let more : suc a + suc m ≡ suc (a + suc m) = omega arith in ap (λ (k : ℕ). drop (suc a) (take k [])) more
drop_take (suc a) m (x ∷ xs) = let more : suc a + m ≡ suc (a + m) = omega arith in ap (λ (k : ℕ). drop (suc a) (take k (x ∷ xs))) more ∙ drop_take a m xs

-- a part of a part
cut_cut : (xs : List ℕ) (s a m r : ℕ) → cut (cut xs s (a + (m + r))) a m ≡ cut xs (s + a) m
cut_cut xs s a m r = ap (take m) (drop_take a (m + r) (drop s xs)) ∙ take_take m r (drop a (drop s xs)) ∙ ap (take m) (drop_drop s a xs)

part_of_part : (xs : List ℕ) (s a m all : ℕ) → a + m ≤ all → slice_range (slice_range xs s (s + all)) a (a + m) ≡ slice_range xs (s + a) (s + a + m)
part_of_part xs s a m all within =
    let long : all ≡ a + (m + (all - (a + m))) = omega arith in
    cut_is (slice_range xs s (s + all)) a m ∙ ap (λ (l : List ℕ). cut l a m) (cut_is xs s all ∙ ap (cut xs s) long) ∙ cut_cut xs s a m (all - (a + m)) ∙ sym (cut_is xs (s + a) m)

take_left : (m : ℕ) (xs ys : List ℕ) → m ≤ length xs → take m (xs ++ ys) ≡ take m xs
take_left zero xs ys within = refl
take_left (suc m) [] ys within = absurd (omega arith)
take_left (suc m) (x ∷ xs) ys within = ap (λ (l : List ℕ). x ∷ l) (take_left m xs ys (omega arith))

cut_left : (xs ys : List ℕ) (a m : ℕ) → a + m ≤ length xs → cut (xs ++ ys) a m ≡ cut xs a m
cut_left xs ys zero m within = take_left m xs ys (omega arith)
cut_left [] ys (suc a) m within = absurd (omega arith)
cut_left (x ∷ xs) ys (suc a) m within = cut_left xs ys a m (omega arith)

-- a part of one of many pieces of equal length
piece_at : (f : ℕ → List ℕ) (a n all i c m : ℕ) → ((k : ℕ) → a ≤ k → k < a + n → length (f k) ≡ all) → i < n → c + m ≤ all → cut (flat_map f (range_with_len a n)) (all * i + c) m ≡ cut (f (a + i)) c m
piece_at f a zero all i c m each lt within = absurd (omega arith)
piece_at f a (suc n) all zero c m each lt within =
    let long = each a (omega arith) (omega arith) in
    let place : all * 0 + c ≡ c = omega arith in
    let here : a ≡ a + 0 = omega arith in
    ap (λ (k : ℕ). cut (f a ++ flat_map f (range_with_len (a + 1) n)) k m) place ∙ cut_left (f a) (flat_map f (range_with_len (a + 1) n)) c m (omega (arith, long)) ∙ ap (λ (k : ℕ). cut (f k) c m) here
piece_at f a (suc n) all (suc i) c m each lt within =
    let long = each a (omega arith) (omega arith) in
    let place : all * suc i + c ≡ length (f a) + (all * i + c) = omega (arith, long) in
    let here : a + 1 + i ≡ a + suc i = omega arith in
    ap (λ (k : ℕ). cut (f a ++ flat_map f (range_with_len (a + 1) n)) k m) place ∙ ap (take m) (drop-append-add (f a) (flat_map f (range_with_len (a + 1) n)) (all * i + c))
    ∙ piece_at f (a + 1) n all i c m (λ k low high. each k (omega arith) (omega arith)) (omega arith) within
    ∙ ap (λ (k : ℕ). cut (f k) c m) here

flat_same : (f g : ℕ → List ℕ) (a n : ℕ) → ((k : ℕ) → a ≤ k → k < a + n → f k ≡ g k) → flat_map f (range_with_len a n) ≡ flat_map g (range_with_len a n)
flat_same f g a zero same = refl
flat_same f g a (suc n) same = ap₂ (λ (x y : List ℕ). x ++ y) (same a (omega arith) (omega arith)) (flat_same f g (a + 1) n (λ k low high. same k (omega arith) (omega arith)))

-- a row of a block is that row
pub row_of_block : (images : List (List ℕ)) (offsets : List ℕ) (row rows place number : ℕ) (block : List ℕ) → block ≡ block_bytes images offsets row rows → place < rows → number ≡ row + place →
    ((image : ℕ) → image < length images → length (row_sectors images offsets row rows image) ≡ 512 * rows) → block_row block (length images) rows place ≡ row_bytes images offsets number
row_of_block images offsets row rows place number block is lt at each = flat_same (block_sector block rows place) (row_sector images offsets number) 0 (length images) same
  where
    same : (image : ℕ) → 0 ≤ image → image < 0 + length images → block_sector block rows place image ≡ row_sector images offsets number image
    same image low high =
        let f = row_sectors images offsets row rows in
        let bytes = get_or images image [] in
        let from = 512 * (row + slice_index offsets image) in
        let spot : 512 * (rows * image + place) ≡ 512 * rows * image + 512 * place = omega arith in
        let first : 0 + image ≡ image = omega arith in
        let goal : from + 512 * place ≡ 512 * (number + slice_index offsets image) = omega (arith, at) in
        cut_is block (512 * (rows * image + place)) 512
        ∙ ap₂ (λ (l : List ℕ) (k : ℕ). cut l k 512) is spot
        ∙ piece_at f 0 (length images) (512 * rows) image (512 * place) 512 (λ k below above. each k (omega arith)) (omega arith) (omega arith)
        ∙ ap (λ (k : ℕ). cut (f k) (512 * place) 512) first
        ∙ sym (cut_is (f image) (512 * place) 512)
        ∙ part_of_part bytes from (512 * place) 512 (512 * rows) (omega arith)
        ∙ ap (λ (k : ℕ). slice_range bytes k (k + 512)) goal
