-- What blocks hold once one more image was read.
use Rattle.std.proofs.Common.{◌≡◌, ℕ, zero, suc, ◌+◌, ◌*◌, ◌/◌, ◌<◌, ◌≤◌, List, [], ◌∷◌, ◌++◌, length, take, drop, get_or, map, slice_range, refl, ap, sym, subst, ◌∙◌, arith, IfSome, IsSomeAnd, Some, None, Option, All}
use Rattle.std.proofs.lemmas.List.Elements.{All-head, All-tail}
use Rattle.std.specs.Prelude.{option_and_then, slice_get}
use Rattle.std.proofs.lemmas.Nat.{mul-le}
use Rattle.std.proofs.lemmas.List.{map_more, take_all, ext_get_or}
use Rattle.std.proofs.lemmas.List.FromFn.{map-range_with_len_more, get_or-map-range_with_len, length-map-range_with_len}
use Rattle.std.proofs.lemmas.Slice.{between-put_mid, take-put_mid_below, between_is}
use Rattle.std.proofs.lemmas.Option.{slice_get-get_or}
use borrow.Rule.Slice.PartMut.{put_mid}
use Rattle.outside.specs.Attached.{told_all}
use Rattle.outside.specs.Seen.{Image, AreTold, AreWithin}
use Rattle.outside.proofs.Told.{told_all_at, told_all_length}
use Rattle.survey_engine.specs.Sweep.{blocks_in, sectors_of}
use Rattle.survey_engine.specs.declared.sweep.TheConstants.{BLOCK, BLOCK_BYTES}

-- a part before the one that was written
before : (a k from to : ℕ) (xs ys : List ℕ) → to ≤ a → a ≤ length xs → slice_range (put_mid a k xs ys) from to ≡ slice_range xs from to
before a k from to xs ys below within =
    between_is (put_mid a k xs ys) from to ∙ ap (λ (l : List ℕ). drop from l) (take-put_mid_below a k xs ys to below within) ∙ sym (between_is xs from to)

-- the blocks before the image's are as they were
same_before : (a k count : ℕ) (xs ys : List ℕ) (n : ℕ) → count ≤ BLOCK → BLOCK_BYTES * n ≤ a → a ≤ length xs → blocks_in n count (put_mid a k xs ys) ≡ blocks_in n count xs
unfolding blocks_in
same_before a k count xs ys n fits below within =
    ext_get_or [] (blocks_in n count (put_mid a k xs ys)) (blocks_in n count xs)
    (length-map-range_with_len (λ i. slice_range (put_mid a k xs ys) (BLOCK_BYTES * i) (BLOCK_BYTES * i + 512 * count)) 0 n ∙ sym (length-map-range_with_len (λ i. slice_range xs (BLOCK_BYTES * i) (BLOCK_BYTES * i + 512 * count)) 0 n))
    (λ i less.
    let short : i < n = omega (arith, length-map-range_with_len (λ i. slice_range (put_mid a k xs ys) (BLOCK_BYTES * i) (BLOCK_BYTES * i + 512 * count)) 0 n) in
    let most : BLOCK_BYTES * (i + 1) ≤ BLOCK_BYTES * n = mul-le BLOCK_BYTES (i + 1) BLOCK_BYTES n (omega arith) (omega arith) in
    get_or-map-range_with_len (λ i. slice_range (put_mid a k xs ys) (BLOCK_BYTES * i) (BLOCK_BYTES * i + 512 * count)) 0 n i i [] short (omega arith)
    ∙ before a k (BLOCK_BYTES * i) (BLOCK_BYTES * i + 512 * count) xs ys (omega arith) within
    ∙ sym (get_or-map-range_with_len (λ i. slice_range xs (BLOCK_BYTES * i) (BLOCK_BYTES * i + 512 * count)) 0 n i i [] short (omega arith)))

-- and one more block is what was read
pub one_more : (i k count : ℕ) (xs to : List ℕ) → count ≤ BLOCK → BLOCK_BYTES * i ≤ length xs → length to ≡ 512 * count →
    blocks_in (i + 1) count (put_mid (BLOCK_BYTES * i) k xs to) ≡ blocks_in i count xs ++ to ∷ []
unfolding blocks_in
one_more i k count xs to fits within long =
    map-range_with_len_more (λ i'. slice_range (put_mid (BLOCK_BYTES * i) k xs to) (BLOCK_BYTES * i') (BLOCK_BYTES * i' + 512 * count)) 0 i i (omega arith)
    ∙ ap (λ (l : List (List ℕ)). l ++ slice_range (put_mid (BLOCK_BYTES * i) k xs to) (BLOCK_BYTES * i) (BLOCK_BYTES * i + 512 * count) ∷ []) (same_before (BLOCK_BYTES * i) k count xs to i fits (omega arith) within)
    ∙ ap (λ (x : List ℕ). blocks_in i count xs ++ x ∷ []) (between-put_mid (BLOCK_BYTES * i) k xs to (BLOCK_BYTES * i + 512 * count) within (omega arith))

-- the known bytes of an image
pub told_bytes : (attached : List Image) (all : List (List ℕ)) (i sector : ℕ) (to : List ℕ) → told_all attached ≡ Some all → i < length attached →
    AreTold attached i sector to → to ≡ slice_range (get_or all i []) (512 * sector) (512 * sector + length to)
told_bytes attached all i sector to e below told =
    let within : i < length all = omega (arith, told_all_length attached all e) in
    let bytes : option_and_then (λ image. image.bytes) (slice_get attached i) ≡ Some (get_or all i []) = told_all_at attached all i e ∙ slice_get-get_or all i [] within in
    rw bytes at told

-- the blocks of the first images hold their sectors
pub HoldFirst : List Image → ℕ → ℕ → ℕ → List ℕ → Type 0
HoldFirst attached n first count bytes = IfSome (told_all attached) (λ all. blocks_in n count bytes ≡ map (sectors_of first count) (take n all))

hold_more : (attached : List Image) (told : Option (List (List ℕ))) (i k first count : ℕ) (xs to : List ℕ) → told_all attached ≡ told → i < length attached → count ≤ BLOCK → BLOCK_BYTES * i ≤ length xs → length to ≡ 512 * count →
    IfSome told (λ all. blocks_in i count xs ≡ map (sectors_of first count) (take i all)) → AreTold attached i first to →
    IfSome told (λ all. blocks_in (i + 1) count (put_mid (BLOCK_BYTES * i) k xs to) ≡ map (sectors_of first count) (take (i + 1) all))
hold_more attached None i k first count xs to e below fits within long hold are = tt
hold_more attached (Some all) i k first count xs to e below fits within long hold are =
    let inside : i < length all = omega (arith, told_all_length attached all e) in
    let ends : 512 * first + length to ≡ 512 * (first + count) = omega arith in
    let read : to ≡ sectors_of first count (get_or all i []) = told_bytes attached all i first to e below are ∙ ap (λ (n : ℕ). slice_range (get_or all i []) (512 * first) n) ends in
    one_more i k count xs to fits within long
    ∙ ap (λ (l : List (List ℕ)). l ++ to ∷ []) hold
    ∙ ap (λ (x : List ℕ). map (sectors_of first count) (take i all) ++ x ∷ []) read
    ∙ sym (map_more (sectors_of first count) all i [] inside)

pub held_more : (attached : List Image) (i k first count : ℕ) (xs to : List ℕ) → i < length attached → count ≤ BLOCK → BLOCK_BYTES * i ≤ length xs → length to ≡ 512 * count →
    HoldFirst attached i first count xs → AreTold attached i first to → HoldFirst attached (i + 1) first count (put_mid (BLOCK_BYTES * i) k xs to)
unfolding HoldFirst
held_more attached i k first count xs to below fits within long hold are =
    hold_more attached (told_all attached) i k first count xs to refl below fits within long hold are

none_held : (told : Option (List (List ℕ))) (first count : ℕ) (bytes : List ℕ) → IfSome told (λ all. blocks_in 0 count bytes ≡ map (sectors_of first count) (take 0 all))
unfolding blocks_in
none_held None first count bytes = tt
none_held (Some all) first count bytes = refl

-- before the first
pub held_none : (attached : List Image) (first count : ℕ) (bytes : List ℕ) → HoldFirst attached 0 first count bytes
unfolding HoldFirst
held_none attached first count bytes = none_held (told_all attached) first count bytes

all_held : (attached : List Image) (told : Option (List (List ℕ))) (n first count : ℕ) (bytes : List ℕ) → told_all attached ≡ told → length attached ≤ n →
    IfSome told (λ all. blocks_in n count bytes ≡ map (sectors_of first count) (take n all)) → IfSome told (λ all. blocks_in n count bytes ≡ map (sectors_of first count) all)
all_held attached None n first count bytes e most hold = tt
all_held attached (Some all) n first count bytes e most hold =
    hold ∙ ap (map (sectors_of first count)) (take_all n all (omega (arith, told_all_length attached all e)))

-- and after the last
pub held_all : (attached : List Image) (n m first count : ℕ) (bytes : List ℕ) → length attached ≡ m → m ≤ n → n ≤ m → HoldFirst attached n first count bytes →
    IfSome (told_all attached) (λ all. blocks_in m count bytes ≡ map (sectors_of first count) all)
unfolding HoldFirst
held_all attached n m first count bytes long low high hold =
    let same : n ≡ m = omega arith in
    subst (λ (k : ℕ). IfSome (told_all attached) (λ all. blocks_in k count bytes ≡ map (sectors_of first count) all)) same (all_held attached (told_all attached) n first count bytes refl (omega arith) hold)

-- what is asked of a reading
pub all_within : (attached : List Image) (i first count : ℕ) (to : ℕ) → All (λ image. first + count ≤ image.sectors) attached → i < length attached → 1 ≤ count → to ≡ 512 * count → AreWithin attached i first to
all_within attached i first count to long below some e = record {
  whole = omega arith;
  some = omega arith;
  inside = reaches attached i first count to long below (omega arith);
}
  where
    reaches : (attached : List Image) (i first count to : ℕ) → All (λ image. first + count ≤ image.sectors) attached → i < length attached → to / 512 ≡ count → IsSomeAnd (slice_get attached i) (λ a. first + to / 512 ≤ a.sectors)
    reaches [] i first count to long below e = absurd (omega arith)
    reaches (a ∷ attached) zero first count to long below e = let here = All-head (λ image. first + count ≤ image.sectors) a attached long in omega (arith, here)
    reaches (a ∷ attached) (suc i) first count to long below e = reaches attached i first count to (All-tail (λ image. first + count ≤ image.sectors) a attached long) (omega arith) e
