-- The sightings of a row of sectors.
use Rattle.std.proofs.Common.{◌≡◌, ℕ, zero, suc, ◌+◌, ◌*◌, ◌<◌, ◌≤◌, List, [], ◌∷◌, ◌++◌, length, fold, refl, sym, ap, ◌∙◌, arith, All, Option, Some, None, IsSomeAnd, slice_get}
use Rattle.std.specs.List.{filter_map, flat_map, range_with_len, cons_option}
use Rattle.std.proofs.lemmas.List.{map-id, append-nil}
use Rattle.std.proofs.lemmas.List.Concat.{flat_map-append}
use Rattle.std.proofs.lemmas.List.Elements.{filter_map-append, All-head, All-tail, All-weaker}
use Rattle.std.proofs.lemmas.List.FromFn.{map-range_with_len_more}
use Rattle.std.proofs.lemmas.List.Sums.{fold-append}
use Rattle.survey_engine.specs.Sweep.{Swept}
use Rattle.survey_engine.specs.Blocks.{found_at, found_in_block, found_in_row}
use Rattle.survey_engine.specs.Kept.{kept_with}
use Rattle.survey_engine.specs.Landmarks.{IsSound}
use Rattle.survey_engine.specs.Sightings.{is_early, AreBefore, IsInImages}
use Rattle.survey_engine.specs.declared.ask.Ask.{Ask}
use Rattle.survey_engine.specs.declared.sighting.Sighting.{Sighting}
use Rattle.raid_params.specs.declared.limits.TheConstants.{MOST}
use Rattle.survey_engine.proofs.Order.{before_more, before_up}

-- one more number
pub range_more : (a n : ℕ) → range_with_len a (n + 1) ≡ range_with_len a n ++ (a + n) ∷ []
range_more a n = sym (map-id (range_with_len a (n + 1))) ∙ map-range_with_len_more (λ x. x) a n (a + n) refl ∙ ap (λ (l : List ℕ). l ++ (a + n) ∷ []) (map-id (range_with_len a n))

-- the list once one more image, or one more row, was looked at
pub with_row : Ask → List ℕ → Swept → ℕ → List Sighting → ℕ → List Sighting
with_row ask lengths sweep place old images = fold (kept_with is_early) old (found_in_row ask lengths sweep images place)

pub with_rows : Ask → List ℕ → Swept → List Sighting → ℕ → List Sighting
with_rows ask lengths sweep old count = fold (kept_with is_early) old (found_in_block ask lengths sweep count)

row_push : (ask : Ask) (lengths : List ℕ) (sweep : Swept) (place images : ℕ) (one : Option Sighting) → found_at ask lengths sweep place images ≡ one →
    found_in_row ask lengths sweep (images + 1) place ≡ found_in_row ask lengths sweep images place ++ cons_option one []
row_push ask lengths sweep place images one is =
    let at : 0 + images ≡ images = omega arith in
    ap (filter_map (found_at ask lengths sweep place)) (range_more 0 images ∙ ap (λ (i : ℕ). range_with_len 0 images ++ i ∷ []) at)
    ∙ filter_map-append (found_at ask lengths sweep place) (range_with_len 0 images) (images ∷ [])
    ∙ ap (λ (o : Option Sighting). found_in_row ask lengths sweep images place ++ cons_option o []) is

pub row_none : (ask : Ask) (lengths : List ℕ) (sweep : Swept) (place : ℕ) (old : List Sighting) → with_row ask lengths sweep place old 0 ≡ old
unfolding with_row
row_none ask lengths sweep place old = refl

pub row_some : (ask : Ask) (lengths : List ℕ) (sweep : Swept) (place images : ℕ) (old : List Sighting) (s : Sighting) → found_at ask lengths sweep place images ≡ Some s →
    with_row ask lengths sweep place old (images + 1) ≡ kept_with is_early (with_row ask lengths sweep place old images) s
unfolding with_row
row_some ask lengths sweep place images old s is =
    ap (fold (kept_with is_early) old) (row_push ask lengths sweep place images (Some s) is)
    ∙ fold-append (kept_with is_early) old (found_in_row ask lengths sweep images place) (s ∷ [])

pub row_same : (ask : Ask) (lengths : List ℕ) (sweep : Swept) (place images : ℕ) (old : List Sighting) → found_at ask lengths sweep place images ≡ None →
    with_row ask lengths sweep place old (images + 1) ≡ with_row ask lengths sweep place old images
unfolding with_row
row_same ask lengths sweep place images old is =
    ap (fold (kept_with is_early) old) (row_push ask lengths sweep place images None is ∙ append-nil (found_in_row ask lengths sweep images place))

pub row_all : (ask : Ask) (lengths : List ℕ) (sweep : Swept) (place images : ℕ) (old : List Sighting) →
    with_row ask lengths sweep place old images ≡ fold (kept_with is_early) old (found_in_row ask lengths sweep images place)
unfolding with_row
row_all ask lengths sweep place images old = refl

-- a row after the others
pub rows_none : (ask : Ask) (lengths : List ℕ) (sweep : Swept) (old : List Sighting) → with_rows ask lengths sweep old 0 ≡ old
unfolding with_rows
rows_none ask lengths sweep old = refl

pub rows_more : (ask : Ask) (lengths : List ℕ) (sweep : Swept) (old : List Sighting) (count : ℕ) →
    with_rows ask lengths sweep old (count + 1) ≡ fold (kept_with is_early) (with_rows ask lengths sweep old count) (found_in_row ask lengths sweep (length lengths) count)
unfolding with_rows
rows_more ask lengths sweep old count =
    let at : 0 + count ≡ count = omega arith in
    ap (λ (l : List ℕ). fold (kept_with is_early) old (flat_map (found_in_row ask lengths sweep (length lengths)) l)) (range_more 0 count ∙ ap (λ (i : ℕ). range_with_len 0 count ++ i ∷ []) at)
    ∙ ap (fold (kept_with is_early) old) (flat_map-append (found_in_row ask lengths sweep (length lengths)) (range_with_len 0 count) (count ∷ []))
    ∙ fold-append (kept_with is_early) old (found_in_block ask lengths sweep count) (found_in_row ask lengths sweep (length lengths) count ++ [])
    ∙ ap (fold (kept_with is_early) (fold (kept_with is_early) old (found_in_block ask lengths sweep count))) (append-nil (found_in_row ask lengths sweep (length lengths) count))

pub rows_all : (ask : Ask) (lengths : List ℕ) (sweep : Swept) (old : List Sighting) (count : ℕ) →
    with_rows ask lengths sweep old count ≡ fold (kept_with is_early) old (found_in_block ask lengths sweep count)
unfolding with_rows
rows_all ask lengths sweep old count = refl

reaches : (lengths : List ℕ) (i sector : ℕ) → i < length lengths → All (λ n. sector + 1 ≤ n) lengths → IsSomeAnd (slice_get lengths i) (λ n. sector < n)
reaches [] i sector below long = absurd (omega arith)
reaches (n ∷ lengths) zero sector below long = omega (arith, All-head (λ n. sector + 1 ≤ n) n lengths long)
reaches (n ∷ lengths) (suc i) sector below long = reaches lengths i sector (omega arith) (All-tail (λ n. sector + 1 ≤ n) n lengths long)

-- a sighting at a place of the row
pub sighting_is : (lengths : List ℕ) (s : Sighting) (image sector : ℕ) → s.image ≡ image → s.sector ≡ sector → image < length lengths → length lengths ≤ MOST → All (λ n. sector + 1 ≤ n) lengths → IsSound s.landmark → IsInImages lengths s
sighting_is lengths s image sector at_image at_sector below few long sound = record {
  image = omega arith;
  sector = rw (at_image, at_sector) (reaches lengths image sector below long);
  sound = sound;
}

-- an iteration, where there is a sighting
pub turn_some : (ask : Ask) (lengths : List ℕ) (sweep : Swept) (place image sector : ℕ) (old found new : List Sighting) (s : Sighting) → sector ≡ sweep.first + place →
    found ≡ with_row ask lengths sweep place old image → AreBefore lengths (sector * MOST + image) found → found_at ask lengths sweep place image ≡ Some s → new ≡ kept_with is_early found s →
    s.image ≡ image → s.sector ≡ sector → image < length lengths → length lengths ≤ MOST → All (λ n. sector + 1 ≤ n) lengths → IsSound s.landmark →
    (new ≡ with_row ask lengths sweep place old (image + 1)) × AreBefore lengths (sector * MOST + (image + 1)) new
turn_some ask lengths sweep place image sector old found new s at is before here kept at_image at_sector below few long sound = (
  kept ∙ ap (λ (l : List Sighting). kept_with is_early l s) is ∙ sym (row_some ask lengths sweep place image old s here),
  rw kept (before_more lengths (sector * MOST + image) (sector * MOST + (image + 1)) found s (omega arith) (omega arith) (sighting_is lengths s image sector at_image at_sector below few long sound) before),
)

-- and where there is none
pub turn_none : (ask : Ask) (lengths : List ℕ) (sweep : Swept) (place image sector : ℕ) (old found : List Sighting) →
    found ≡ with_row ask lengths sweep place old image → AreBefore lengths (sector * MOST + image) found → found_at ask lengths sweep place image ≡ None →
    (found ≡ with_row ask lengths sweep place old (image + 1)) × AreBefore lengths (sector * MOST + (image + 1)) found
turn_none ask lengths sweep place image sector old found is before here = (
  is ∙ sym (row_same ask lengths sweep place image old here),
  before_up lengths (sector * MOST + image) (sector * MOST + (image + 1)) found (omega arith) before,
)

-- no sector of the blocks lies past an image
pub long_enough : (lengths : List ℕ) (next sector : ℕ) → sector + 1 ≤ next → All (λ n. next ≤ n) lengths → All (λ n. sector + 1 ≤ n) lengths
long_enough lengths next sector le long = All-weaker (λ n. next ≤ n) (λ n. sector + 1 ≤ n) (λ n h. omega (arith, h)) lengths long
