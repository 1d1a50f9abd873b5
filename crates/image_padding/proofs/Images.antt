-- Padded images by their numbers, and one more image behind them.
use Rattle.std.proofs.Common.{◌≡◌, ℕ, zero, suc, ◌+◌, ◌-◌, ◌*◌, ◌/◌, ◌%◌, ◌^◌, ◌≤◌, ◌<◌, List, [], ◌∷◌, ◌++◌, length, get_or, replicate, All, IfSome, IsSomeAnd, Some, None, Ok, Err, refl, ap, false, eqb, subst, ◌∙◌, arith, slice_get, slice_range, min, max}
use Rattle.std.proofs.lemmas.List.{length-replicate, length-append, append-nil}
use Rattle.std.proofs.lemmas.List.Elements.{All-nil, All-cons, All-head, All-tail, All-append}
use Rattle.std.specs.List.{fold}
use Rattle.std.specs.Prelude.{option_and_then, Result}
use Rattle.std.specs.Option.{option_map}
use Rattle.std.specs.declared.option.Option.{Option}
use Rattle.outside.specs.Seen.{Image, World, Seen, Attaches, AreTold, AreWithin, IsImageOf}
use Rattle.image_padding.specs.Padded.{greatest_base, padded, padded_to, padded_images, seen_padded, ArePadded}
use Rattle.image_padding.proofs.Zeros.{part_within, part_across}

-- no sectors before an image change nothing
padded_none : (image : Image) → padded 0 image ≡ image
padded_none image = of_bytes image.sectors image.bytes
  where
    of_bytes : (sectors : ℕ) (bytes : Option (List ℕ)) → ◌≡◌ {A = Image} (padded 0 (record { sectors = sectors; bytes = bytes })) (record { sectors = sectors; bytes = bytes })
    of_bytes sectors None = let same : 0 + sectors ≡ sectors = omega arith in rw same refl
    of_bytes sectors (Some bytes) = let same : 0 + sectors ≡ sectors = omega arith in rw same refl

-- the padded image of a number
pub padded_at : (greatest : ℕ) (bases : List ℕ) (images : List Image) (i : ℕ) → slice_get (padded_to greatest bases images) i ≡ option_map (padded (greatest - get_or bases i greatest)) (slice_get images i)
padded_at greatest [] images i =
    let none : greatest - greatest ≡ 0 = omega arith in
    rw none (same (slice_get images i))
  where
    same : (image : Option Image) → image ≡ option_map (padded 0) image
    same None = refl
    same (Some image) = rw (padded_none image) refl
padded_at greatest (base ∷ bases) [] i = refl
padded_at greatest (base ∷ bases) (image ∷ images) zero = refl
padded_at greatest (base ∷ bases) (image ∷ images) (suc i) = padded_at greatest bases images i

-- there are as many as before
pub padded_length : (greatest : ℕ) (bases : List ℕ) (images : List Image) → length (padded_to greatest bases images) ≡ length images
padded_length greatest [] images = refl
padded_length greatest (base ∷ bases) [] = refl
padded_length greatest (base ∷ bases) (image ∷ images) = ap suc (padded_length greatest bases images)

-- images behind those that have bases stay as they are
pub padded_append : (greatest : ℕ) (bases : List ℕ) (images more : List Image) → length bases ≤ length images → padded_to greatest bases (images ++ more) ≡ padded_to greatest bases images ++ more
padded_append greatest [] images more each = refl
padded_append greatest (base ∷ bases) [] more each = absurd (omega (arith, each))
padded_append greatest (base ∷ bases) (image ∷ images) more each = ap (λ (rest : List Image). padded (greatest - base) image ∷ rest) (padded_append greatest bases images more (omega (arith, each)))

-- the greatest of numbers below a limit is below it
pub fold_below : (limit first : ℕ) (bases : List ℕ) → first < limit → All (λ base. base < limit) bases → fold max first bases < limit
fold_below limit first [] small all = small
fold_below limit first (base ∷ bases) small all =
    fold_below limit (max first base) bases
    (omega (arith, small, All-head (λ b. b < limit) base bases all))
    (All-tail (λ b. b < limit) base bases all)

padded_small : (greatest : ℕ) (bases : List ℕ) (images : List Image) → greatest < 2 ^ 54 → All (λ image. image.sectors < 2 ^ 54) images → All (λ image. image.sectors < 2 ^ 55) (padded_to greatest bases images)
padded_small greatest [] [] small all = All-nil (λ (image : Image). image.sectors < 2 ^ 55)
padded_small greatest [] (image ∷ images) small all =
    All-cons (λ (i : Image). i.sectors < 2 ^ 55) image images
    (omega (arith, All-head (λ (i : Image). i.sectors < 2 ^ 54) image images all))
    (padded_small greatest [] images small (All-tail (λ (i : Image). i.sectors < 2 ^ 54) image images all))
padded_small greatest (base ∷ bases) [] small all = All-nil (λ (image : Image). image.sectors < 2 ^ 55)
padded_small greatest (base ∷ bases) (image ∷ images) small all =
    All-cons (λ (i : Image). i.sectors < 2 ^ 55) (padded (greatest - base) image) (padded_to greatest bases images)
    (omega (arith, small, All-head (λ (i : Image). i.sectors < 2 ^ 54) image images all))
    (padded_small greatest bases images small (All-tail (λ (i : Image). i.sectors < 2 ^ 54) image images all))

-- images of fewer than 2^54 sectors may be padded by as many bases below 2^54
pub are_padded : (bases : List ℕ) (images : List Image) → length bases ≡ length images → All (λ base. base < 2 ^ 54) bases → All (λ image. image.sectors < 2 ^ 54) images → ArePadded bases images
are_padded bases images each near short = record {
  each = omega (arith, each);
  small = padded_small (greatest_base bases) bases images (fold_below (2 ^ 54) 0 bases (omega arith) near) short;
}

-- what the call attaches has no padding
pub attaches : {E : Type 0} (reference : ℕ) (bases name : List ℕ) (old new : Seen) (result : Result ℕ E) → length bases ≤ length old.attached → Attaches old new name result → Attaches (seen_padded reference bases old) (seen_padded reference bases new) name result
attaches reference bases name old new (Ok sectors) each call = record {
  world = ap (λ (w : World). record w { fixed = bases ∷ (reference ∷ []) ∷ w.fixed }) call.world;
  unread = call.unread;
  attached =
      let image = call.attached.0 in
      let of : IsImageOf old.world name image = call.attached.1 in (
        image,
        record { small = of.small; bytes = of.bytes; sectors = of.sectors },
        call.attached.2,
        rw call.attached.3 (padded_append (greatest_base bases) bases old.attached (image ∷ []) each),
      );
}
attaches reference bases name old new (Err e) each call = record {
  world = ap (λ (w : World). record w { fixed = bases ∷ (reference ∷ []) ∷ w.fixed }) call.world;
  unread = call.unread;
  attached = ap (λ (images : List Image). padded_images bases images) call.attached;
}

-- images that are padded stay so, whatever the call attaches
pub stay_padded : {E : Type 0} (bases name : List ℕ) (old new : Seen) (result : Result ℕ E) → Attaches old new name result → ArePadded bases old.attached → ArePadded bases new.attached
stay_padded bases name old new (Ok sectors) call are =
    let image = call.attached.0 in
    let of : IsImageOf old.world name image = call.attached.1 in
    rw call.attached.3 (record {
      each = rw (length-append old.attached (image ∷ [])) (omega (arith, are.each));
      small = rw (padded_append (greatest_base bases) bases old.attached (image ∷ []) are.each)
          (All-append (λ (i : Image). i.sectors < 2 ^ 55) (padded_images bases old.attached) (image ∷ []) are.small
          (All-cons (λ (i : Image). i.sectors < 2 ^ 55) image [] of.small (All-nil (λ (i : Image). i.sectors < 2 ^ 55))));
    })
stay_padded bases name old new (Err e) call are = rw call.attached are

-- zeros in the padding are the bytes of the padded image
pub told_within : (greatest : ℕ) (bases : List ℕ) (images : List Image) (image sector count : ℕ) → count ≤ 512 * (greatest - get_or bases image greatest) - 512 * sector → AreTold (padded_to greatest bases images) image sector (replicate count 0)
told_within greatest bases images image sector count fits = rw (padded_at greatest bases images image, length-replicate {A = ℕ} count 0) (of_image (slice_get images image))
  where
    of_bytes : (bytes : Option (List ℕ)) → IfSome (option_map (λ bs. replicate (512 * (greatest - get_or bases image greatest)) 0 ++ bs) bytes) (λ bs. replicate count 0 ≡ slice_range bs (512 * sector) (512 * sector + count))
    of_bytes None = tt
    of_bytes (Some bytes) = part_within (512 * (greatest - get_or bases image greatest)) (512 * sector) count bytes fits

    of_image : (found : Option Image) → IfSome (option_and_then (λ a. a.bytes) (option_map (padded (greatest - get_or bases image greatest)) found)) (λ bs. replicate count 0 ≡ slice_range bs (512 * sector) (512 * sector + count))
    of_image None = tt
    of_image (Some found) = of_bytes found.bytes

-- zeros up to the end of the padding, and bytes of the image within, are the bytes of the padded image
pub told_across : (greatest : ℕ) (bases : List ℕ) (images : List Image) (image sector : ℕ) (rest : List ℕ) → AreTold images image (sector - (greatest - get_or bases image greatest)) rest →
    AreTold (padded_to greatest bases images) image sector (replicate (512 * (greatest - get_or bases image greatest) - 512 * sector) 0 ++ rest)
told_across greatest bases images image sector rest told =
    rw (padded_at greatest bases images image, length-append {A = ℕ} (replicate (512 * (greatest - get_or bases image greatest) - 512 * sector) 0) rest, length-replicate {A = ℕ} (512 * (greatest - get_or bases image greatest) - 512 * sector) 0)
    (of_image (greatest - get_or bases image greatest) (slice_get images image) told)
  where
    of_bytes : (padding : ℕ) (bytes : Option (List ℕ)) → IfSome bytes (λ bs. rest ≡ slice_range bs (512 * (sector - padding)) (512 * (sector - padding) + length rest)) →
        IfSome (option_map (λ bs. replicate (512 * padding) 0 ++ bs) bytes) (λ bs. replicate (512 * padding - 512 * sector) 0 ++ rest ≡ slice_range bs (512 * sector) (512 * sector + (512 * padding - 512 * sector + length rest)))
    of_bytes padding None told = tt
    of_bytes padding (Some bytes) told =
        let start : 512 * (sector - padding) ≡ 512 * sector - 512 * padding = omega arith in
        let there : rest ≡ slice_range bytes (512 * sector - 512 * padding) (512 * sector - 512 * padding + length rest) = subst (λ (n : ℕ). rest ≡ slice_range bytes n (n + length rest)) start told in
        ap (λ (bs : List ℕ). replicate (512 * padding - 512 * sector) 0 ++ bs) there ∙ part_across (512 * padding) (512 * sector) (length rest) bytes

    of_image : (padding : ℕ) (found : Option Image) → IfSome (option_and_then (λ a. a.bytes) found) (λ bs. rest ≡ slice_range bs (512 * (sector - padding)) (512 * (sector - padding) + length rest)) →
        IfSome (option_and_then (λ a. a.bytes) (option_map (padded padding) found)) (λ bs. replicate (512 * padding - 512 * sector) 0 ++ rest ≡ slice_range bs (512 * sector) (512 * sector + (512 * padding - 512 * sector + length rest)))
    of_image padding None told = tt
    of_image padding (Some found) told = of_bytes padding found.bytes told

-- there is no byte at all in an empty list
append_none : (front rest : List ℕ) → length rest ≡ 0 → front ++ rest ≡ front
append_none front [] none = append-nil front
append_none front (byte ∷ rest) none = absurd (omega (arith, none))

-- a read that ends within the padding
pub told_in_padding : (greatest : ℕ) (bases : List ℕ) (images : List Image) (image sector zeros asked : ℕ) (front rest : List ℕ) → front ≡ replicate (512 * zeros) 0 →
    zeros ≡ min (greatest - get_or bases image greatest - sector) asked → length rest ≡ 0 → AreTold (padded_to greatest bases images) image sector (front ++ rest)
told_in_padding greatest bases images image sector zeros asked front rest are least none =
    rw (append_none front rest none, are)
    (told_within greatest bases images image sector (512 * zeros) (omega (arith, least)))

-- a read that ends past it
pub told_past_padding : (greatest : ℕ) (bases : List ℕ) (images : List Image) (image sector zeros bytes : ℕ) (front rest : List ℕ) → front ≡ replicate (512 * zeros) 0 →
    zeros ≡ min (greatest - get_or bases image greatest - sector) (bytes / 512) → bytes % 512 ≡ 0 → bytes ≡ 512 * zeros + length rest → 0 < length rest →
    AreTold images image (sector - (greatest - get_or bases image greatest)) rest → AreTold (padded_to greatest bases images) image sector (front ++ rest)
told_past_padding greatest bases images image sector zeros bytes front rest are least whole split some told =
    let all : 512 * zeros ≡ 512 * (greatest - get_or bases image greatest) - 512 * sector = omega (arith, least, whole, split, some) in
    rw (are, all) (told_across greatest bases images image sector rest told)

-- a list that is not empty has an element
pub not_empty : (count : ℕ) → eqb count 0 ≡ false → 0 < count
not_empty zero is = absurd cc
not_empty (suc count) is = omega arith

-- what is read past the padding lies within the image within
pub within : (greatest : ℕ) (bases : List ℕ) (images : List Image) (image sector bytes zeros rest : ℕ) → AreWithin (padded_to greatest bases images) image sector bytes →
    zeros ≡ min (greatest - get_or bases image greatest - sector) (bytes / 512) → bytes ≡ 512 * zeros + rest → 0 < rest → AreWithin images image (sector - (greatest - get_or bases image greatest)) rest
within greatest bases images image sector bytes zeros rest asked least split some = record {
  whole = omega (arith, asked.whole, split);
  some = some;
  inside = of_image (greatest - get_or bases image greatest) (slice_get images image) least (rw (padded_at greatest bases images image) at asked.inside);
}
  where
    of_image : (padding : ℕ) (found : Option Image) → zeros ≡ min (padding - sector) (bytes / 512) → IsSomeAnd (option_map (padded padding) found) (λ a. sector + bytes / 512 ≤ a.sectors) → IsSomeAnd found (λ a. sector - padding + rest / 512 ≤ a.sectors)
    of_image padding None least inside = absurd inside
    of_image padding (Some found) least inside = omega (arith, least, split, some, asked.whole, inside)

-- the length of the padded image of a number
pub padded_sectors : (greatest : ℕ) (bases : List ℕ) (images : List Image) (image sectors : ℕ) → option_map (λ a. a.sectors) (slice_get images image) ≡ Some sectors →
    Some (greatest - get_or bases image greatest + sectors) ≡ option_map (λ a. a.sectors) (slice_get (padded_to greatest bases images) image)
padded_sectors greatest bases images image sectors is = rw (padded_at greatest bases images image) (of_image (slice_get images image) is)
  where
    of_image : (found : Option Image) → option_map (λ a. a.sectors) found ≡ Some sectors → Some (greatest - get_or bases image greatest + sectors) ≡ option_map (λ a. a.sectors) (option_map (padded (greatest - get_or bases image greatest)) found)
    of_image None is = absurd cc
    of_image (Some found) is = let same : found.sectors ≡ sectors = cc in rw same refl

-- no image of that number is there once they are padded
pub padded_missing : (greatest : ℕ) (bases : List ℕ) (images : List Image) (image : ℕ) → option_map (λ a. a.sectors) (slice_get images image) ≡ None → None ≡ option_map (λ a. a.sectors) (slice_get (padded_to greatest bases images) image)
padded_missing greatest bases images image is = rw (padded_at greatest bases images image) (of_image (slice_get images image) is)
  where
    of_image : (found : Option Image) → option_map (λ a. a.sectors) found ≡ None → None ≡ option_map (λ a. a.sectors) (option_map (padded (greatest - get_or bases image greatest)) found)
    of_image None is = refl
    of_image (Some found) is = absurd cc

-- and it is below 2^55
pub padded_below : (limit : ℕ) (images : List Image) (image sectors : ℕ) → All (λ a. a.sectors < limit) images → Some sectors ≡ option_map (λ a. a.sectors) (slice_get images image) → sectors < limit
padded_below limit [] image sectors all is = absurd cc
padded_below limit (first ∷ images) zero sectors all is =
    let same : sectors ≡ first.sectors = cc in
    rw same (All-head (λ (a : Image). a.sectors < limit) first images all)
padded_below limit (first ∷ images) (suc i) sectors all is = padded_below limit images i sectors (All-tail (λ (a : Image). a.sectors < limit) first images all) is
