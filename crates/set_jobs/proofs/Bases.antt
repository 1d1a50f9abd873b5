-- Sets with bases: where the data of their images begin, and images that may be padded.
use Rattle.std.proofs.Common.{◌≡◌, ◌≤◌, ◌<◌, ◌^◌, ℕ, zero, suc, Bool, true, false, List, [], ◌∷◌, All, IsTrue, None, Some, Option, length, get_or, nat_le, not, ◌==◌, ◌&&◌, ◌||◌, cond, find, refl, sym, ap, ◌∙◌, arith, slice_index}
use Rattle.std.specs.List.{range_with_len}
use Rattle.std.specs.Option.{option_map}
use Rattle.std.proofs.lemmas.Bool.Decides.{nat_tests}
use Rattle.std.proofs.lemmas.List.FromFn.{get_or-range_with_len, length-range_with_len}
use Rattle.std.proofs.lemmas.List.Elements.{All-cons, All-head, All-nil, All-tail}
use Rattle.outside.specs.Seen.{Image, lengths_of}
use Rattle.raid_params.specs.Bases.{greatest_base, is_offset_of, leaves_out}
use Rattle.raid_params.specs.Wide.{has_bases}
use Rattle.raid_params.specs.declared.limits.TheConstants.{MOST}
use Rattle.raid_params.specs.declared.wide.Wide.{Wide}
use Rattle.run_ends.specs.Agreement.{long_fault, long_image}
use Rattle.run_ends.specs.declared.agreement.Disagreement.{Disagreement}
use Rattle.run_ends.specs.declared.stop.Refusal.{Refusal}
use Rattle.run_ends.specs.declared.stop.Refusal.TheVariants.{Bases}
use Rattle.set_jobs.specs.Mapping.{base_at, bases_refusal, long_refused}
use Rattle.set_jobs.specs.Writing.{MayPad}
use Rattle.value_text.specs.SetText.{HasOffset, HasWord}
use Rattle.value_text.proofs.Offsets.{greatest_below, greatest_is}

offset_near : (offset : ℕ) (bases : List ℕ) → HasOffset offset bases → IsTrue (is_offset_of bases offset) → offset < 2 ^ 55
offset_near offset [] has is = has
offset_near offset (base ∷ bases) has is =
    let greatest = greatest_is offset base bases is in
    let near : greatest_base (base ∷ bases) < 2 ^ 54 = greatest_below (2 ^ 54) 0 (base ∷ bases) (omega arith) has.small in
    omega arith

-- the offset of a set is below 2 ^ 55
pub near_offset : (set : Wide) → HasWord set → set.geo.head.offset < 2 ^ 55
near_offset set has = offset_near set.geo.head.offset set.bases.items has.offset set.is_greatest

-- and so are the bases below 2 ^ 54, of which there are few
pub near_bases : (offset : ℕ) (bases : List ℕ) → HasOffset offset bases → All (λ base. base < 2 ^ 54) bases
near_bases offset [] has = All-nil (λ base. base < 2 ^ 54)
near_bases offset (base ∷ bases) has = has.small

pub few_bases : (offset : ℕ) (bases : List ℕ) → HasOffset offset bases → length bases ≤ MOST
few_bases offset [] has = omega arith
few_bases offset (base ∷ bases) has = has.most

at_near : (bases : List ℕ) (image offset : ℕ) → All (λ base. base < 2 ^ 54) bases → offset < 2 ^ 55 → get_or bases image offset < 2 ^ 55
at_near [] image offset all near = near
at_near (base ∷ bases) zero offset all near = let small = All-head (λ b. b < 2 ^ 54) base bases all in omega arith
at_near (base ∷ bases) (suc image) offset all near = at_near bases image offset (All-tail (λ b. b < 2 ^ 54) base bases all) near

-- where the data of an image begin
pub base_near : (set : Wide) (image : Option ℕ) → HasWord set → base_at set image < 2 ^ 55
base_near set None has = near_offset set has
base_near set (Some image) has = at_near set.bases.items image set.geo.head.offset (near_bases set.geo.head.offset set.bases.items has.offset) (near_offset set has)

none_found : (p : ℕ → Bool) (xs : List ℕ) → find p xs ≡ None → (k : ℕ) → k < length xs → p (get_or xs k 0) ≡ false
none_found p [] e k lt = absurd (omega arith)
none_found p (x ∷ xs) e zero lt = first (p x) e
  where
    first : (b : Bool) → cond b (Some x) (find p xs) ≡ None → b ≡ false
    first true e = absurd (cc)
    first false e = refl
none_found p (x ∷ xs) e (suc k) lt = none_found p xs (rest (p x) e) k (omega arith)
  where
    rest : (b : Bool) → cond b (Some x) (find p xs) ≡ None → find p xs ≡ None
    rest true e = absurd (cc)
    rest false e = e

all_short : (images : List Image) → ((k : ℕ) → k < length (lengths_of images) → slice_index (lengths_of images) k < 2 ^ 54) → All (λ image. image.sectors < 2 ^ 54) images
all_short [] h = All-nil (λ (image : Image). image.sectors < 2 ^ 54)
all_short (image ∷ images) h = All-cons (λ (one : Image). one.sectors < 2 ^ 54) image images (h 0 (omega arith)) (all_short images (λ k lt. h (suc k) (omega arith)))

not_long : (n : ℕ) → nat_le (2 ^ 54) n ≡ false → n < 2 ^ 54
not_long n is = grind (arith, nat_tests)

nothing : (fault : ℕ → Disagreement) (image : Option ℕ) → option_map fault image ≡ None → image ≡ None
nothing fault None e = refl
nothing fault (Some i) e = absurd (cc)

-- images of which none is too long
short_images : (attached : List Image) → long_fault attached ≡ None → All (λ image. image.sectors < 2 ^ 54) attached
short_images attached none = all_short attached (λ k lt.
    let there = get_or-range_with_len 0 (length (lengths_of attached)) k 0 lt in
    let at : get_or (range_with_len 0 (length (lengths_of attached))) k 0 ≡ k = omega arith in
    not_long (slice_index (lengths_of attached) k) (ap (λ (i : ℕ). nat_le (2 ^ 54) (slice_index (lengths_of attached) i)) (sym at) ∙ none_found (λ i. nat_le (2 ^ 54) (slice_index (lengths_of attached) i)) (range_with_len 0 (length (lengths_of attached))) (nothing _ (long_image (lengths_of attached)) none) k (let many = length-range_with_len 0 (length (lengths_of attached)) in omega arith)))

pub short_for : (set : Wide) (attached : List Image) → long_refused set attached ≡ None → 0 < length set.bases.items → All (λ image. image.sectors < 2 ^ 54) attached
short_for set attached short some = by_zero (length set.bases.items) (length set.bases.items == 0) refl some short
  where
    by_zero : (n : ℕ) (b : Bool) → (n == 0) ≡ b → 0 < n → cond b None (long_fault attached) ≡ None → All (λ image. image.sectors < 2 ^ 54) attached
    by_zero n true is some e = absurd (let zero : n ≡ 0 = grind (arith, nat_tests) in omega arith)
    by_zero n false is some e = short_images attached e

one_for_each : (names : ℕ) (slots : List (Option ℕ)) (bases : List ℕ) (refusal : Refusal) → cond (has_bases names slots bases) None (Some refusal) ≡ None → 0 < length bases → length bases ≡ names
one_for_each names slots bases refusal e some = told (length bases) (leaves_out names slots) (has_it (has_bases names slots bases) e) some
  where
    has_it : (b : Bool) → cond b None (Some refusal) ≡ None → b ≡ true
    has_it true e = refl
    has_it false e = absurd (cc)

    told : (n : ℕ) (left : Bool) → (n == 0 || (n == names && not left)) ≡ true → 0 < n → n ≡ names
    told n left is some = grind (arith, nat_tests)

-- images may be padded by the bases of a set that is not refused
pub may_pad : (set : Wide) (names : ℕ) (attached : List Image) → HasWord set → names ≡ length attached → long_refused set attached ≡ None → bases_refusal set names ≡ None → MayPad set attached
may_pad set names attached has count short none = record {
  each = λ some. one_for_each names set.geo.slots.items set.bases.items (Bases (length set.bases.items)) none some ∙ count;
  most = few_bases set.geo.head.offset set.bases.items has.offset;
  near = near_bases set.geo.head.offset set.bases.items has.offset;
  short = short_for set attached short;
}
