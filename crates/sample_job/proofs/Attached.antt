-- The images of a generated array, attached in their order.
use Rattle.std.proofs.Common.{◌≡◌, ℕ, suc, ◌*◌, ◌/◌, ◌<◌, ◌≤◌, ◌^◌, Bool, true, false, cond, List, [], ◌∷◌, length, map, get_or, decimal, All, None, Some, Option, refl, sym, ap, ◌∙◌, arith}
use Rattle.std.proofs.Math.ListN.{get_or-map}
use Rattle.std.proofs.lemmas.Fmt.{decimal_injective}
use Rattle.std.proofs.lemmas.List.{take_all}
use Rattle.std.proofs.lemmas.Bool.Decides.{nat_tests}
use Rattle.std.proofs.lemmas.List.Sums.{position_or_len_is}
use Rattle.std.proofs.lemmas.Slice.Eq.{bytes_eq-Decides}
use Rattle.std.specs.Str.{bytes_eq}
use Rattle.std.specs.List.{position_or_len}
use Rattle.std.specs.Prelude.{nat_lt, option_and_then, position}
use Rattle.std.proofs.lemmas.List.Elements.{All-cons, All-head, All-nil, All-tail}
use Rattle.std.proofs.lemmas.List.FromFn.{fill_by_all, get_or-map-range_with_len, length-map-range_with_len}
use Rattle.std.specs.List.{range_with_len}
use Rattle.std.specs.Option.{option_map}
use Rattle.outside.specs.Attached.{told_all}
use Rattle.image_source.specs.Memory.{Shelf, bytes_of, image_of, number_of, seen_of, told_bytes}
use Rattle.outside.specs.Seen.{Image, whole_sectors}
use Rattle.member_regions.specs.Members.{held}
use Rattle.raid_params.specs.declared.types.Geometry.{Geometry}
use Rattle.sample_arrays.specs.Arrays.{end_of, sampled, sampled_image, IsFile}
use Rattle.sample_arrays.specs.Laws.{sampled_bytes}
use Rattle.sample_job.specs.Sampling.{sampled_images}

-- images that reach to an end are known whole
whole : (bytes : List ℕ) (end : ℕ) → length bytes ≡ 512 * end → whole_sectors bytes ≡ bytes
whole bytes end long =
    let sectors : length bytes / 512 ≡ end = omega arith in
    take_all (512 * (length bytes / 512)) bytes (omega arith)

told_files : (files : List (List ℕ × List ℕ)) (end : ℕ) → All (IsFile end) files → told_all (map (λ file. image_of file.1) files) ≡ Some (map (λ file. file.1) files)
told_files [] end all = refl
told_files (file ∷ files) end all =
    let P : List ℕ × List ℕ → Type 0 = IsFile end in
    let first = All-head P file files all in
    let is : option_map whole_sectors (told_bytes file.1) ≡ Some file.1 =
    ap (λ (t : Option (List ℕ)). option_map whole_sectors t) first.told ∙ ap (λ (bytes : List ℕ). Some bytes) (whole file.1 end first.long) in
    ap (λ (t : Option (List ℕ)). option_and_then (λ bytes. option_map (λ others. bytes ∷ others) (told_all (map (λ (f : List ℕ × List ℕ). image_of f.1) files))) t) is
    ∙ ap (λ (told : Option (List (List ℕ))). option_map (λ others. file.1 ∷ others) told) (told_files files end (All-tail P file files all))

pub all_told : (number : ℕ) (set : Geometry) (rows : ℕ) (xfs : Bool) → All (IsFile (end_of set.head rows)) (sampled number set rows xfs) →
    told_all (sampled_images number set rows xfs) ≡ Some (sampled_bytes number set rows xfs)
unfolding sampled_images
all_told number set rows xfs all = told_files (sampled number set rows xfs) (end_of set.head rows) all

-- and have `end` sectors
lengths_are : (files : List (List ℕ × List ℕ)) (end : ℕ) → All (IsFile end) files → All (λ image. image.sectors ≡ end) (map (λ file. image_of file.1) files)
lengths_are [] end all = All-nil (λ (image : Image). image.sectors ≡ end)
lengths_are (file ∷ files) end all =
    let P : List ℕ × List ℕ → Type 0 = IsFile end in
    let long = (All-head P file files all).long in
    All-cons (λ (image : Image). image.sectors ≡ end) (image_of file.1) (map (λ (f : List ℕ × List ℕ). image_of f.1) files) (omega arith) (lengths_are files end (All-tail P file files all))

pub all_long : (number : ℕ) (set : Geometry) (rows : ℕ) (xfs : Bool) → All (IsFile (end_of set.head rows)) (sampled number set rows xfs) →
    All (λ image. image.sectors ≡ end_of set.head rows) (sampled_images number set rows xfs)
unfolding sampled_images
all_long number set rows xfs all = lengths_are (sampled number set rows xfs) (end_of set.head rows) all

-- how many they are
length_maps : {A B : Type 0} (f : A → B) (xs : List A) → length (map f xs) ≡ length xs
length_maps f [] = refl
length_maps f (x ∷ xs) = ap suc (length_maps f xs)

pub file_count : (number : ℕ) (set : Geometry) (rows : ℕ) (xfs : Bool) → length (sampled number set rows xfs) ≡ held set.slots.items
unfolding sampled
file_count number set rows xfs = length-map-range_with_len (λ image. (decimal image, sampled_image number set rows xfs image)) 0 (held set.slots.items)

pub image_count : (number : ℕ) (set : Geometry) (rows : ℕ) (xfs : Bool) → length (sampled_images number set rows xfs) ≡ held set.slots.items
unfolding sampled_images
image_count number set rows xfs = length_maps (λ (file : List ℕ × List ℕ). image_of file.1) (sampled number set rows xfs) ∙ file_count number set rows xfs

-- the images that are attached as the files of all numbers
pub attached_are : (number : ℕ) (set : Geometry) (rows : ℕ) (xfs : Bool) (shelf : Shelf) (n : ℕ) → shelf.files ≡ sampled number set rows xfs → shelf.attached ≡ range_with_len 0 n → n ≡ held set.slots.items →
    (seen_of shelf).attached ≡ sampled_images number set rows xfs
unfolding sampled_images
attached_are number set rows xfs shelf n files numbers all =
    let none : List ℕ × List ℕ = ([], []) in
    let count : length (map (λ (file : List ℕ × List ℕ). image_of file.1) shelf.files) ≡ n =
    length_maps (λ (file : List ℕ × List ℕ). image_of file.1) shelf.files ∙ ap (λ (l : List (List ℕ × List ℕ)). length l) files ∙ file_count number set rows xfs ∙ sym all in
    ap (λ (ks : List ℕ). map (λ k. image_of (bytes_of shelf.files k)) ks) numbers
    ∙ sym (fill_by_all (λ k. image_of (bytes_of shelf.files k)) (map (λ (file : List ℕ × List ℕ). image_of file.1) shelf.files) n (image_of [])
    count (λ k lt. get_or-map (λ (file : List ℕ × List ℕ). image_of file.1) shelf.files k none))
    ∙ ap (λ (l : List (List ℕ × List ℕ)). map (λ (file : List ℕ × List ℕ). image_of file.1) l) files

-- the file of a number is the one of this name
not_true : (b : Bool) → (b ≡ true → ⊥) → b ≡ false
not_true true none = absurd (none refl)
not_true false none = refl

other_name : (k j : ℕ) → k < j → j < 2 ^ 64 → bytes_eq (decimal k) (decimal j) ≡ false
other_name k j below small = not_true (bytes_eq (decimal k) (decimal j)) (λ same.
    let e : k ≡ j = decimal_injective k j (omega arith) small ((bytes_eq-Decides (decimal k) (decimal j)).0 same) in
    omega arith)

own_name : (j : ℕ) → bytes_eq (decimal j) (decimal j) ≡ true
own_name j = (bytes_eq-Decides (decimal j) (decimal j)).1 refl

number_in : (f : ℕ → List ℕ × List ℕ) (n j : ℕ) (test : List ℕ × List ℕ → Bool) → j < n → ((k : ℕ) → k < j → test (f k) ≡ false) → test (f j) ≡ true → position test (map f (range_with_len 0 n)) ≡ Some j
number_in f n j test below others own =
    let none : List ℕ × List ℕ = ([], []) in
    let long : length (map f (range_with_len 0 n)) ≡ n = length-map-range_with_len f 0 n in
    let at : (k : ℕ) → k < n → get_or (map f (range_with_len 0 n)) k none ≡ f k = λ k lt. get_or-map-range_with_len f 0 n k k none lt (omega arith) in
    let first : position_or_len test (map f (range_with_len 0 n)) ≡ j =
    position_or_len_is test (map f (range_with_len 0 n)) j none (omega arith) (λ k lt. ap test (at k (omega arith)) ∙ others k lt) (λ _. ap test (at j below) ∙ own) in
    let found : nat_lt (position_or_len test (map f (range_with_len 0 n))) (length (map f (range_with_len 0 n))) ≡ true = grind (arith, nat_tests) in
    ap (λ (b : Bool). cond b (Some (position_or_len test (map f (range_with_len 0 n)))) None) found ∙ ap (λ (k : ℕ). Some k) first

pub number_is : (number : ℕ) (set : Geometry) (rows : ℕ) (xfs : Bool) (j : ℕ) → j < held set.slots.items → held set.slots.items ≤ 24 → number_of (sampled number set rows xfs) (decimal j) ≡ Some j
unfolding sampled
number_is number set rows xfs j below few =
    number_in (λ image. (decimal image, sampled_image number set rows xfs image)) (held set.slots.items) j (λ file. bytes_eq file.0 (decimal j)) below
    (λ k lt. other_name k j lt (omega arith)) (own_name j)
