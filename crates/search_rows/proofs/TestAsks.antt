-- What the tests ask for.
use Rattle.outside.specs.Seen.{Image}
use Rattle.std.specs.Option.{is_some, option_map}
use Rattle.std.proofs.Common.{◌≡◌, ℕ, zero, suc, ◌^◌, ◌<◌, ◌≤◌, List, [], ◌∷◌, Bool, not, length, map, true, refl, ap, arith, All, Option, Some, None, IsSomeAnd, slice_get}
use Rattle.std.proofs.lemmas.List.Elements.{All-cons, All-nil}
use Rattle.raid_params.specs.declared.types.Bounds.{Bounds}
use Rattle.raid_params.specs.declared.types.Level.TheVariants.{Raid0}
use Rattle.raid_params.specs.declared.types.Pattern.TheVariants.{Plain}
use Rattle.raid_params.specs.declared.types.Syndrome.TheVariants.{NoQ}
use Rattle.raid_params.specs.Validity.{is_chunk}
use Rattle.landmark_rules.specs.declared.marks.MarkTests.{MarkTests}
use Rattle.search_plan.specs.Places.{level_place, pattern_place, syndrome_place}
use Rattle.search_plan.specs.Plans.{AreBounds, AreRising, AreTests}

one_rises : (xs : List ℕ) (x : ℕ) → xs ≡ x ∷ [] → AreRising xs
one_rises xs x is = rw is (record { some = omega arith; rising = λ k h. absurd (omega arith) })

one_each : (P : ℕ → Type 0) (xs : List ℕ) (x : ℕ) → xs ≡ x ∷ [] → P x → All P xs
one_each P xs x is here = rw is (All-cons P x [] here (All-nil P))

pub bounds_are : (b : Bounds) (offset : ℕ) → b.levels.items ≡ Raid0 ∷ [] → b.members.items ≡ 2 ∷ [] → b.patterns.items ≡ Plain ∷ [] → b.delays.items ≡ 1 ∷ [] → b.syndromes.items ≡ NoQ ∷ [] → b.chunks.items ≡ 8 ∷ [] → b.offsets.items ≡ offset ∷ [] →
    b.missing ≡ 0 → b.foreign ≡ 0 → offset < 2 ^ 55 → AreBounds b
unfolding is_chunk
bounds_are b offset levels members patterns delays syndromes chunks offsets missing foreign near = record {
  levels = one_rises (map level_place b.levels.items) 0 (ap (map level_place) levels);
  members = one_rises b.members.items 2 members;
  few_members = one_each (λ n. (2 ≤ n) × (n ≤ 24)) b.members.items 2 members (omega arith, omega arith);
  patterns = one_rises (map pattern_place b.patterns.items) 0 (ap (map pattern_place) patterns);
  delays = one_rises b.delays.items 1 delays;
  few_delays = omega (arith, ap length delays);
  short_delays = one_each (λ n. (1 ≤ n) × (n ≤ 1024)) b.delays.items 1 delays (omega arith, omega arith);
  syndromes = one_rises (map syndrome_place b.syndromes.items) 0 (ap (map syndrome_place) syndromes);
  chunks = one_rises b.chunks.items 8 chunks;
  powers = one_each (λ chunk. is_chunk chunk ≡ true) b.chunks.items 8 chunks refl;
  offsets = one_rises b.offsets.items offset offsets;
  few_offsets = omega (arith, ap length offsets);
  near_offsets = one_each (λ n. n < 2 ^ 55) b.offsets.items offset offsets near;
  missing = omega arith;
  foreign = omega arith;
}

pub tests_are : (t : MarkTests) → t.origins.items ≡ 0 ∷ [] → t.misfits ≡ 0 → t.least ≡ 1 → AreTests t
tests_are t origins misfits least = record {
  origins = one_rises t.origins.items 0 origins;
  few_origins = omega (arith, ap length origins);
  near_origins = one_each (λ n. n < 2 ^ 55) t.origins.items 0 origins (omega arith);
  misfits = omega arith;
  least = omega arith;
}

-- an image that reaches to the end
pub IsLong : List Image → ℕ → ℕ → Type 0
IsLong attached end i = IsSomeAnd (slice_get attached i) (λ a. (end ≤ a.sectors) × (a.sectors < 2 ^ 55))

pub is_long : (attached : List Image) (end i : ℕ) → IsSomeAnd (slice_get attached i) (λ a. (end ≤ a.sectors) × (a.sectors < 2 ^ 55)) → IsLong attached end i
unfolding IsLong
is_long attached end i is = is

all_long : (attached : List Image) (n end : ℕ) → ((i : ℕ) → i < n → IsSomeAnd (slice_get attached i) (λ a. (end ≤ a.sectors) × (a.sectors < 2 ^ 55))) → slice_get attached n ≡ None →
    (length attached ≡ n) × All (λ image. image.sectors < 2 ^ 55) attached × All (λ image. end ≤ image.sectors) attached
all_long [] zero end each past = (refl, All-nil (λ image. image.sectors < 2 ^ 55), All-nil (λ image. end ≤ image.sectors))
all_long [] (suc n) end each past = absurd (each 0 (omega arith))
all_long (a ∷ attached) zero end each past = absurd (cc)
all_long (a ∷ attached) (suc n) end each past =
    let here = each 0 (omega arith) in
    let rest = all_long attached n end (λ i below. each (suc i) (omega arith)) past in
    (omega (arith, rest.0), All-cons (λ image. image.sectors < 2 ^ 55) a attached here.1 rest.1, All-cons (λ image. end ≤ image.sectors) a attached here.0 rest.2)

absent : (image : Option Image) (sectors : Option ℕ) (none : Bool) → sectors ≡ option_map (λ a. a.sectors) image → is_some sectors ≡ not none → none ≡ true → image ≡ None
absent None sectors none is some e = refl
absent (Some image) sectors none is some e = absurd (cc (ap (λ (b : Bool). not b) e))

-- the attached images are n, and all of them reach to the end
pub are_long : (attached : List Image) (n m end : ℕ) (sectors : Option ℕ) (none : Bool) → n ≤ m → m ≤ n → ((i : ℕ) → i < m → IsLong attached end i) → sectors ≡ option_map (λ a. a.sectors) (slice_get attached n) → is_some sectors ≡ not none → none ≡ true →
    (length attached ≡ n) × All (λ image. image.sectors < 2 ^ 55) attached × All (λ image. end ≤ image.sectors) attached
unfolding IsLong
are_long attached n m end sectors none low high each is some e =
    all_long attached n end (λ i below. each i (omega arith)) (absent (slice_get attached n) sectors none is some e)
