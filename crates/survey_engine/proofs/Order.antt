-- Sightings in order.
use Rattle.std.proofs.Common.{ℕ, ◌<◌, ◌≤◌, List, [], ◌∷◌, ◌++◌, Bool, true, false, cond, arith, All}
use Rattle.std.proofs.lemmas.List.Elements.{All-head, All-nil, All-push, All-tail, All-weaker}
use Rattle.survey_engine.specs.Kept.{kept_with}
use Rattle.survey_engine.specs.Sightings.{is_early, sighting_place, AreBefore, AreRising, IsInImages}
use Rattle.survey_engine.specs.declared.sighting.Sighting.{Sighting}

-- one more sighting, after all others
rising_push : (found : List Sighting) (s : Sighting) → AreRising found → All (λ t. sighting_place t < sighting_place s) found → AreRising (found ++ s ∷ [])
rising_push [] s rising below = (All-nil (λ later. sighting_place s < sighting_place later), tt)
rising_push (t ∷ found) s rising below = (
  All-push (λ later. sighting_place t < sighting_place later) found s rising.0 (All-head (λ u. sighting_place u < sighting_place s) t found below),
  rising_push found s rising.1 (All-tail (λ u. sighting_place u < sighting_place s) t found below),
)

-- nothing is before any place
pub before_none : (lengths : List ℕ) (place : ℕ) → AreBefore lengths place []
before_none lengths place = record { each = All-nil (IsInImages lengths); rising = tt; below = All-nil (λ s. sighting_place s < place) }

-- what is before a place is before a later one
pub before_up : (lengths : List ℕ) (place next : ℕ) (found : List Sighting) → place ≤ next → AreBefore lengths place found → AreBefore lengths next found
before_up lengths place next found le before = record {
  each = before.each;
  rising = before.rising;
  below = All-weaker (λ s. sighting_place s < place) (λ s. sighting_place s < next) (λ s h. omega (arith, h)) found before.below;
}

more : (lengths : List ℕ) (place next : ℕ) (found : List Sighting) (s : Sighting) (early : Bool) → place ≤ sighting_place s → sighting_place s < next → IsInImages lengths s →
    AreBefore lengths place found → AreBefore lengths next (cond early (found ++ s ∷ []) found)
more lengths place next found s true low high is before = record {
  each = All-push (IsInImages lengths) found s before.each is;
  rising = rising_push found s before.rising (All-weaker (λ t. sighting_place t < place) (λ t. sighting_place t < sighting_place s) (λ t h. omega (arith, h)) found before.below);
  below = All-push (λ t. sighting_place t < next) found s (All-weaker (λ t. sighting_place t < place) (λ t. sighting_place t < next) (λ t h. omega (arith, h)) found before.below) high;
}
more lengths place next found s false low high is before = before_up lengths place next found (omega arith) before

-- one more sighting, which may count
pub before_more : (lengths : List ℕ) (place next : ℕ) (found : List Sighting) (s : Sighting) → place ≤ sighting_place s → sighting_place s < next → IsInImages lengths s →
    AreBefore lengths place found → AreBefore lengths next (kept_with is_early found s)
before_more lengths place next found s low high is before = more lengths place next found s (is_early found s) low high is before
