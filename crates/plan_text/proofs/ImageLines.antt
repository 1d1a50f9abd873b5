-- The lengths of images, line by line.
use Rattle.std.proofs.Common.{◌≡◌, ◌≤◌, ◌<◌, ◌-◌, ℕ, Bool, zero, suc, List, [], ◌∷◌, ◌++◌, All, drop, length, map, codes, decimal, refl, sym, ap, ◌∙◌, arith, length-append}
use Rattle.std.proofs.lemmas.Fmt.{decimal_injective}
use Rattle.std.proofs.lemmas.List.{map-append, append_cancel_left}
use Rattle.std.proofs.lemmas.List.Elements.{All-head, All-tail, All-nil, All-cons, All-append}
use Rattle.arrayvec.specs.declared.array_vec.ArrayVec.{ArrayVec}
use Rattle.raid_params.specs.declared.limits.TheConstants.{MOST}
use Rattle.plan_text.specs.Parts.{AreImages, sectors_end}
use Rattle.plan_text.specs.PlanText.{image_lines}
use Rattle.value_text.specs.Spelling.{named}
use Rattle.plan_text.proofs.Refusals.{StandsIn, one_line}
use Rattle.plan_text.proofs.Versions.{few_sectors, some_sectors}

abbrev pub Lengths : Type 0
Lengths = ArrayVec ℕ MOST (Unit {0})

abbrev IsBelow : ℕ → ℕ → Type 0
IsBelow end n = n < end

abbrev pub length_line : ℕ → List ℕ
length_line n = named (codes "length") (decimal n)

abbrev pub images_line : ℕ → List ℕ
images_line n = named (codes "images") (decimal n)

zeros : ℕ → List ℕ
zeros zero = []
zeros (suc n) = 0 ∷ zeros n

many_zeros : (n : ℕ) → length (zeros n) ≡ n
unfolding zeros
many_zeros zero = refl
many_zeros (suc n) = let more = many_zeros n in omega arith

short_zeros : (end n : ℕ) → 1 ≤ end → All (IsBelow end) (zeros n)
unfolding zeros
short_zeros end zero high = All-nil (IsBelow end)
short_zeros end (suc n) high = All-cons (IsBelow end) 0 (zeros n) (omega arith) (short_zeros end n high)

pub are_images : (each : Bool) (ls : List ℕ) (n : ℕ) → length ls ≡ n → 1 ≤ n → n ≤ MOST → All (λ n. n < sectors_end each) ls → AreImages each ls
are_images each ls n many some most short = (
  record { some = omega arith; most = omega arith; short = λ k d lt. let below = short k d lt in let few = few_sectors each in omega arith },
  short,
)

-- the same number of images has the same line
pub same_count : (m n : ℕ) → m ≤ MOST → n ≤ MOST → images_line m ≡ images_line n → m ≡ n
same_count m n p q e = decimal_injective m n (omega arith) (omega arith) (append_cancel_left (codes "images ") (decimal m) (decimal n) e)

pub stands_count : (each : Bool) → StandsIn {W = Lengths} (λ n. (1 ≤ n) × (n ≤ MOST)) (λ n. images_line n ∷ []) (λ w. AreImages each w.items) (λ w. image_lines w.items) []
stands_count each = record {
  made = λ n p. (record { items = zeros n }, map length_line (zeros n), are_images each (zeros n) n (many_zeros n) p.0 (omega (arith, p.1)) (short_zeros (sectors_end each) n (some_sectors each)), ap (λ (k : ℕ). images_line k ∷ map length_line (zeros n)) (many_zeros n));
  shape = λ w tail is e. (length w.items, _, (is.0.some, omega (arith, is.0.most)), sym e);
  apart = λ x y m more p q e. one_line images_line x y m more e;
}

-- fewer lines than there are go on with one more
next_length : (end : ℕ) (ls ys : List ℕ) (tail : List (List ℕ)) → length ls < length ys → All (IsBelow end) ys → map length_line ys ≡ map length_line ls ++ tail → (y : ℕ) × (more : List (List ℕ)) × (y < end) × (tail ≡ length_line y ∷ more)
next_length end [] [] tail lt all e = absurd (omega arith)
next_length end [] (y ∷ ys) tail lt all e = (y, map length_line ys, All-head (IsBelow end) y ys all, sym e)
next_length end (l ∷ ls) [] tail lt all e = absurd (omega arith)
next_length end (l ∷ ls) (y ∷ ys) tail lt all e = next_length end ls ys tail (omega arith) (All-tail (IsBelow end) y ys all) (let same : map length_line ys ≡ map length_line ls ++ tail = ap (λ (xs : List (List ℕ)). drop 1 xs) e in same)

abbrev first : List (List ℕ) → List ℕ
first [] = []
first (x ∷ xs) = x

pub stands_length : (each : Bool) (count : ℕ) (ls : List ℕ) → 1 ≤ count → count ≤ MOST → length ls < count → All (λ n. n < sectors_end each) ls →
    StandsIn {W = Lengths} (λ n. (0 ≤ n) × (n ≤ sectors_end each - 1)) (λ n. length_line n ∷ []) (λ w. AreImages each w.items) (λ w. image_lines w.items) (images_line count ∷ map length_line ls)
stands_length each count ls some most lt short = record {
  made = λ n p.
      let rest = zeros (count - length ls - 1) in
      let high = some_sectors each in
      let many : length (ls ++ n ∷ rest) ≡ count = length-append ls (n ∷ rest) ∙ (let more = many_zeros (count - length ls - 1) in omega arith) in (
        record { items = ls ++ n ∷ rest },
        map length_line rest,
        are_images each (ls ++ n ∷ rest) count many some (omega arith) (All-append (IsBelow (sectors_end each)) ls (n ∷ rest) short (All-cons (IsBelow (sectors_end each)) n rest (omega (arith, p.1)) (short_zeros (sectors_end each) (count - length ls - 1) high))),
        ap (λ (k : ℕ). images_line k ∷ map length_line (ls ++ n ∷ rest)) many ∙ ap (λ (xs : List (List ℕ)). images_line count ∷ xs) (map-append length_line ls (n ∷ rest)),
      );
  shape = λ w tail is e.
      let line : images_line (length w.items) ≡ images_line count = ap (λ (xs : List (List ℕ)). first xs) e in
      let many = same_count (length w.items) count is.0.most (omega arith) line in
      let next = next_length (sectors_end each) ls w.items tail (omega arith) is.1 (ap (λ (xs : List (List ℕ)). drop 1 xs) e) in
      (next.0, next.1, (omega arith, omega (arith, next.2)), next.3);
  apart = λ x y m more p q e. one_line length_line x y m more e;
}

-- one more length
pub more_lengths : (count : ℕ) (ls : List ℕ) (n : ℕ) → (images_line count ∷ map length_line ls) ++ length_line n ∷ [] ≡ images_line count ∷ map length_line (ls ++ n ∷ [])
more_lengths count ls n = ap (λ (xs : List (List ℕ)). images_line count ∷ xs) (sym (map-append length_line ls (n ∷ [])))

-- the lines of as many lengths
pub all_lengths : (ls : List ℕ) (count : ℕ) → length ls ≡ count → images_line count ∷ map length_line ls ≡ image_lines ls
all_lengths ls count many = ap (λ (k : ℕ). images_line k ∷ map length_line ls) (sym many)
