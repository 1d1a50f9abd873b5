-- The heads with their ranks.
use Rattle.std.proofs.Common.{ℕ, zero, suc, ◌≡◌, ◌+◌, ◌-◌, ◌<◌, ◌≤◌, ◌⊎◌, min, max, List, [], ◌∷◌, ◌++◌, length, take, refl, sym, ap, ap₂, ◌∙◌, subst, arith, length-append, Option, Some, slice_get, get_or, option_map, Bool, cond, inl, inr}
use Rattle.std.specs.List.{AllByRecursion, flat_map, sum_by}
use Rattle.std.specs.Option.{option_map_or}
use Rattle.std.proofs.lemmas.Bool.{lt-ltb}
use Rattle.std.proofs.lemmas.List.Sums.{sum_by-cons}
use Rattle.std.proofs.lemmas.List.{take_all}
use Rattle.std.proofs.lemmas.Option.{slice_get_within, slice_get-get_or}
use Rattle.slot_math.proofs.Listed.{each_more}
use Rattle.slot_math.proofs.Nested.{get_low, get_high, get-map, length-map}
use Rattle.slot_math.specs.Space.{lists_of}
use Rattle.candidate_enum.specs.Left.{overlaps}
use Rattle.near_mirror.specs.declared.types.Copying.TheVariants.{Near}
use Rattle.near_mirror.specs.declared.types.NearHead.{NearHead}
use Rattle.near_tables.specs.Reading.{read_of}
use Rattle.near_tables.specs.Torn.{with_slots}
use Rattle.near_search.specs.Asks.{IsNearAsk}
use Rattle.near_search.specs.Product.{near_heads, near_numbered, near_product, near_sets_of, near_space, near_total, numbered, set_count}
use Rattle.near_search.specs.Walk.{IsEdge, IsHeadSets, near_cost, count_at, first_at}
use Rattle.near_search.specs.declared.ask.NearAsk.{NearAsk}
use Rattle.near_search.specs.declared.heads.NearSets.{NearSets}
use Rattle.near_search.proofs.HeadPlaces.{heads_sound, sound_valid}
use Rattle.near_search.proofs.Spaces.{lists_fit, some_fit}

-- a head with its slot lists, where its first set has this rank
abbrev pub sets_at : ℕ → NearAsk → ℕ → NearHead → NearSets
sets_at images ask first head = record { head = head; space = near_space images ask head; first = first; count = set_count images ask head }

-- how many sets a head has
sets_long : (images : ℕ) (ask : NearAsk) (head : NearHead) → length (near_sets_of images ask head) ≡ set_count images ask head
sets_long images ask head = length-map (with_slots head) _ ∙ ap length (sym (lists_fit images ask head))

-- they are as many as all heads have
total_of : (images : ℕ) (ask : NearAsk) (heads : List NearHead) → length (flat_map (near_sets_of images ask) heads) ≡ sum_by (set_count images ask) heads
total_of images ask [] = refl
total_of images ask (head ∷ heads) =
    length-append (near_sets_of images ask head) (flat_map (near_sets_of images ask) heads)
    ∙ ap₂ (λ (a b : ℕ). a + b) (sets_long images ask head) (total_of images ask heads)
    ∙ sym (sum_by-cons (set_count images ask) head heads)

pub total_is : (images : ℕ) (ask : NearAsk) → near_total images ask ≡ sum_by (set_count images ask) (near_heads ask)
unfolding near_product
total_is images ask = total_of images ask (near_heads ask)

-- the head at a place, with its ranks
at_place : (images : ℕ) (ask : NearAsk) (first place : ℕ) (heads : List NearHead) (head : NearHead) → slice_get heads place ≡ Some head →
    slice_get (numbered images ask first heads) place ≡ Some (sets_at images ask (first + sum_by (set_count images ask) (take place heads)) head)
unfolding numbered
at_place images ask first place [] head e = absurd (cc)
at_place images ask first zero (h ∷ heads) head e =
    let same : h ≡ head = (cc) in
    let at : first ≡ first + 0 = omega arith in
    ap₂ (λ (k : NearHead) (f : ℕ). let o : Option NearSets = Some (sets_at images ask f k) in o) same at
at_place images ask first (suc place) (h ∷ heads) head e =
    let cons = sum_by-cons (set_count images ask) h (take place heads) in
    let at : first + set_count images ask h + sum_by (set_count images ask) (take place heads) ≡ first + sum_by (set_count images ask) (take (suc place) (h ∷ heads)) = omega arith in
    at_place images ask (first + set_count images ask h) place heads head e ∙ ap (λ (f : ℕ). let o : Option NearSets = Some (sets_at images ask f head) in o) at

pub numbered_at : (images : ℕ) (ask : NearAsk) (place : ℕ) (head : NearHead) → slice_get (near_heads ask) place ≡ Some head → slice_get (near_numbered images ask) place ≡ Some (sets_at images ask (first_at images ask place) head)
numbered_at images ask place head e =
    at_place images ask 0 place (near_heads ask) head e ∙ ap (λ (f : ℕ). let o : Option NearSets = Some (sets_at images ask f head) in o) (let z : 0 + sum_by (set_count images ask) (take place (near_heads ask)) ≡ sum_by (set_count images ask) (take place (near_heads ask)) = omega arith in z)

-- the rank after those of a head
pub first_more : (images : ℕ) (ask : NearAsk) (place : ℕ) (heads : List NearHead) (head : NearHead) → slice_get heads place ≡ Some head →
    sum_by (set_count images ask) (take (place + 1) heads) ≡ sum_by (set_count images ask) (take place heads) + set_count images ask head
first_more images ask place [] head e = absurd (cc)
first_more images ask zero (h ∷ heads) head e =
    let same : h ≡ head = (cc) in
    sum_by-cons (set_count images ask) h [] ∙ ap (λ (k : NearHead). set_count images ask k + 0) same ∙ (let z : set_count images ask head + 0 ≡ 0 + set_count images ask head = omega arith in z)
first_more images ask (suc place) (h ∷ heads) head e =
    let one = sum_by-cons (set_count images ask) h (take (place + 1) heads) in
    let two = sum_by-cons (set_count images ask) h (take place heads) in
    let rest = first_more images ask place heads head e in
    let on : suc place + 1 ≡ suc (place + 1) = omega arith in
    ap (λ (k : ℕ). sum_by (set_count images ask) (take k (h ∷ heads))) on
    ∙ (let z : sum_by (set_count images ask) (take (suc (place + 1)) (h ∷ heads)) ≡ sum_by (set_count images ask) (take (suc place) (h ∷ heads)) + set_count images ask head = omega arith in z)

-- where the sets of a head stand
pub record Standing (images : ℕ) (ask : NearAsk) (before : ℕ) (heads : List NearHead) (sets : NearSets) : Type 0 where
  pub at : ℕ
  pub first : sets.first ≡ before + at
  pub stand : (k : ℕ) (slots : List (Option ℕ)) → slice_get (lists_of sets.space) k ≡ Some slots → slice_get (flat_map (near_sets_of images ask) heads) (at + k) ≡ Some (with_slots sets.head slots)
  pub within : at + sets.count ≤ length (flat_map (near_sets_of images ask) heads)

one_stands : (images : ℕ) (ask : NearAsk) (head : NearHead) (k : ℕ) (slots : List (Option ℕ)) → slice_get (lists_of (near_space images ask head)) k ≡ Some slots → slice_get (near_sets_of images ask head) k ≡ Some (with_slots head slots)
one_stands images ask head k slots e =
    get-map (with_slots head) _ k ∙ ap (option_map (with_slots head)) (ap (λ (l : List (List (Option ℕ))). slice_get l k) (sym (lists_fit images ask head)) ∙ e)

standing : (images : ℕ) (ask : NearAsk) (before place : ℕ) (heads : List NearHead) (head : NearHead) → slice_get heads place ≡ Some head →
    Standing images ask before heads (sets_at images ask (before + sum_by (set_count images ask) (take place heads)) head)
standing images ask before place [] head e = absurd (cc)
standing images ask before zero (h ∷ heads) head e =
    let same : h ≡ head = (cc) in
    let P : NearHead → Type 0 = λ k. Standing images ask before (h ∷ heads) (sets_at images ask (before + 0) k) in
    let long = sets_long images ask h in
    let both = length-append (near_sets_of images ask h) (flat_map (near_sets_of images ask) heads) in
    subst P same (record {
      at = 0;
      first = refl;
      stand = λ k slots f.
          let inside = slice_get_within (lists_of (near_space images ask h)) k slots f in
          let zero_on : 0 + k ≡ k = omega arith in
          ap (slice_get (near_sets_of images ask h ++ flat_map (near_sets_of images ask) heads)) zero_on
          ∙ get_low (near_sets_of images ask h) (flat_map (near_sets_of images ask) heads) k (omega arith) ∙ one_stands images ask h k slots f;
      within = omega arith;
    })
standing images ask before (suc place) (h ∷ heads) head e =
    let rest = standing images ask before place heads head e in
    let cons = sum_by-cons (set_count images ask) h (take place heads) in
    let long = sets_long images ask h in
    let both = length-append (near_sets_of images ask h) (flat_map (near_sets_of images ask) heads) in
    let at : before + sum_by (set_count images ask) (take place heads) ≡ before + rest.at = rest.first in
    let inside = rest.within in
    record {
      at = set_count images ask h + rest.at;
      first = omega arith;
      stand = λ k slots f.
          get_high (near_sets_of images ask h) (flat_map (near_sets_of images ask) heads) (set_count images ask h + rest.at + k) (omega arith)
          ∙ ap (slice_get (flat_map (near_sets_of images ask) heads)) (let z : set_count images ask h + rest.at + k - length (near_sets_of images ask h) ≡ rest.at + k = omega arith in z)
          ∙ rest.stand k slots f;
      within = omega arith;
    }

-- a head of the search
pub is_head : (images : ℕ) (ask : NearAsk) (place : ℕ) (head : NearHead) → IsNearAsk ask → slice_get (near_heads ask) place ≡ Some head → IsHeadSets images ask (sets_at images ask (first_at images ask place) head)
unfolding near_product
is_head images ask place head is found =
    let stands = standing images ask 0 place (near_heads ask) head found in
    let sound = heads_sound ask place head is found in
    let first : 0 + sum_by (set_count images ask) (take place (near_heads ask)) ≡ 0 + stands.at = stands.first in
    let inside = stands.within in
    record {
      valid = λ some. sound_valid head sound (some_fit images ask head some);
      offset = sound.3;
      space = refl;
      count = refl;
      stand = λ k slots e.
          ap (slice_get (flat_map (near_sets_of images ask) (near_heads ask))) (let z : sum_by (set_count images ask) (take place (near_heads ask)) + k ≡ stands.at + k = omega arith in z) ∙ stands.stand k slots e;
      within = omega arith;
    }

-- a head costs what is tested of it
cost_in : (images : ℕ) (ask : NearAsk) (from to first place : ℕ) (heads : List NearHead) (sets : NearSets) → slice_get (numbered images ask first heads) place ≡ Some sets → max from sets.first < min to (sets.first + sets.count) →
    read_of sets.head ask.end ask.window ≤ sum_by (λ s. cond (overlaps from to s.first s.count) (read_of s.head ask.end ask.window) 0) (numbered images ask first heads)
unfolding numbered
cost_in images ask from to first place [] sets e lt = absurd (cc)
cost_in images ask from to first zero (h ∷ heads) sets e lt =
    let same : sets_at images ask first h ≡ sets = (cc) in
    let f : NearSets → ℕ = λ s. cond (overlaps from to s.first s.count) (read_of s.head ask.end ask.window) 0 in
    let cons = sum_by-cons f (sets_at images ask first h) (numbered images ask (first + set_count images ask h) heads) in
    let here : f (sets_at images ask first h) ≡ read_of sets.head ask.end ask.window
    = ap f same ∙ ap (λ (b : Bool). cond b (read_of sets.head ask.end ask.window) 0) (lt-ltb (max from sets.first) (min to (sets.first + sets.count)) lt) in
    omega arith
cost_in images ask from to first (suc place) (h ∷ heads) sets e lt =
    let f : NearSets → ℕ = λ s. cond (overlaps from to s.first s.count) (read_of s.head ask.end ask.window) 0 in
    let cons = sum_by-cons f (sets_at images ask first h) (numbered images ask (first + set_count images ask h) heads) in
    let rest = cost_in images ask from to (first + set_count images ask h) place heads sets e lt in
    omega arith

pub head_cost : (images : ℕ) (ask : NearAsk) (from to place : ℕ) (sets : NearSets) → slice_get (near_numbered images ask) place ≡ Some sets → max from sets.first < min to (sets.first + sets.count) →
    read_of sets.head ask.end ask.window ≤ near_cost images ask from to
unfolding near_cost
head_cost images ask from to place sets e lt = cost_in images ask from to 0 place (near_heads ask) sets e lt

-- the ranks of later heads are later
later : (images : ℕ) (ask : NearAsk) (low first : ℕ) (heads : List NearHead) → low ≤ first → AllByRecursion (λ s. low ≤ s.first) (numbered images ask first heads)
unfolding numbered
later images ask low first [] le = tt
later images ask low first (h ∷ heads) le = (le, later images ask low (first + set_count images ask h) heads (omega arith))

first_low : (images : ℕ) (ask : NearAsk) (first place : ℕ) (heads : List NearHead) (sets : NearSets) → slice_get (numbered images ask first heads) place ≡ Some sets → first ≤ sets.first
unfolding numbered
first_low images ask first place [] sets e = absurd (cc)
first_low images ask first zero (h ∷ heads) sets e =
    let same : sets_at images ask first h ≡ sets = (cc) in
    let at : first ≡ sets.first = ap (λ (s : NearSets). s.first) same in
    omega arith
first_low images ask first (suc place) (h ∷ heads) sets e = let rest = first_low images ask (first + set_count images ask h) place heads sets e in omega arith

edge_in : (images : ℕ) (ask : NearAsk) (first place : ℕ) (heads : List NearHead) (sets : NearSets) → slice_get (numbered images ask first heads) place ≡ Some sets →
    AllByRecursion (λ s. (s.first + s.count ≤ sets.first + sets.count) ⊎ (sets.first + sets.count ≤ s.first)) (numbered images ask first heads)
unfolding numbered
edge_in images ask first place [] sets e = absurd (cc)
edge_in images ask first zero (h ∷ heads) sets e =
    let same : sets_at images ask first h ≡ sets = (cc) in
    let end : first + set_count images ask h ≡ sets.first + sets.count = ap (λ (s : NearSets). s.first + s.count) same in (
      inl (omega arith),
      each_more (λ s. sets.first + sets.count ≤ s.first) (λ s. (s.first + s.count ≤ sets.first + sets.count) ⊎ (sets.first + sets.count ≤ s.first)) (numbered images ask (first + set_count images ask h) heads) (λ s le. inr le)
          (later images ask (sets.first + sets.count) (first + set_count images ask h) heads (omega arith)),
    )
edge_in images ask first (suc place) (h ∷ heads) sets e =
    let low = first_low images ask (first + set_count images ask h) place heads sets e in
    (inl (omega arith), edge_in images ask (first + set_count images ask h) place heads sets e)

pub head_edge : (images : ℕ) (ask : NearAsk) (place : ℕ) (sets : NearSets) → slice_get (near_numbered images ask) place ≡ Some sets → IsEdge images ask (sets.first + sets.count)
head_edge images ask place sets e = edge_in images ask 0 place (near_heads ask) sets e

-- past the last head all sets come before
pub all_before : (images : ℕ) (ask : NearAsk) (place : ℕ) → length (near_heads ask) ≤ place → first_at images ask place ≡ near_total images ask
all_before images ask place le = ap (sum_by (set_count images ask)) (take_all place (near_heads ask) le) ∙ sym (total_is images ask)

-- what stands at a place
pub record IsAt (images : ℕ) (ask : NearAsk) (place : ℕ) (sets : NearSets) : Type 0 where
  pub head : IsHeadSets images ask sets
  pub first : first_at images ask place ≡ sets.first
  pub count : count_at images ask place ≡ sets.count

numbered_long : (images : ℕ) (ask : NearAsk) (first : ℕ) (heads : List NearHead) → length (numbered images ask first heads) ≡ length heads
unfolding numbered
numbered_long images ask first [] = refl
numbered_long images ask first (head ∷ heads) = ap (λ (n : ℕ). suc n) (numbered_long images ask (first + set_count images ask head) heads)

pub is_at : (images : ℕ) (ask : NearAsk) (place : ℕ) (sets : NearSets) → IsNearAsk ask → slice_get (near_numbered images ask) place ≡ Some sets → IsAt images ask place sets
is_at images ask place sets is e =
    let none : NearHead = record { members = 0; chunk = 0; offset = 0; layout = record { copying = Near; copies = 0 } } in
    let inside = slice_get_within (near_numbered images ask) place sets e in
    let long = numbered_long images ask 0 (near_heads ask) in
    let found = slice_get-get_or (near_heads ask) place none (omega arith) in
    let at = numbered_at images ask place (get_or (near_heads ask) place none) found in
    let both : (let o : Option NearSets = Some (sets_at images ask (first_at images ask place) (get_or (near_heads ask) place none)) in o) ≡ Some sets = sym at ∙ e in
    let same : sets_at images ask (first_at images ask place) (get_or (near_heads ask) place none) ≡ sets = (cc) in
    record {
      head = subst (IsHeadSets images ask) same (is_head images ask place (get_or (near_heads ask) place none) is found);
      first = ap (λ (s : NearSets). s.first) same;
      count = ap (λ (o : Option NearHead). option_map_or (set_count images ask) o 0) found ∙ ap (λ (s : NearSets). s.count) same;
    }
