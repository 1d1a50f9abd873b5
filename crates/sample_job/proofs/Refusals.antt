-- The refusals before the array is made.
use Rattle.std.proofs.Common.{◌≡◌, ℕ, ◌*◌, ◌<◌, ◌≤◌, ◌^◌, Bool, true, false, cond, ◌==◌, List, [], ◌∷◌, length, None, Some, Option, refl, ap, ◌∙◌, arith}
use Rattle.std.proofs.lemmas.Bool.Decides.{nat_tests}
use Rattle.std.specs.Option.{option_map}
use Rattle.std.specs.Prelude.{IsTrue}
use Rattle.member_regions.specs.Members.{held}
use Rattle.raid_params.specs.Size.{volume_sectors}
use Rattle.raid_params.specs.Validity.{delay_fault, early_fault, first_fault, has_delay, is_valid_head, row_fault, shape_fault}
use Rattle.raid_params.proofs.Ruled.{ruled_shape}
use Rattle.raid_layouts.proofs.Shapes.{shaped_head}
use Rattle.sample_arrays.proofs.Sampled.{near_end}
use Rattle.raid_params.specs.declared.types.GeoFault.TheVariants.{Delay}
use Rattle.raid_params.specs.declared.types.GeoFault.{GeoFault}
use Rattle.raid_params.specs.declared.types.Geometry.{Geometry}
use Rattle.run_ends.specs.Stops.{delay_refusal, first_of}
use Rattle.run_ends.specs.declared.stop.Refusal.{Refusal}
use Rattle.run_ends.specs.declared.stop.Refusal.TheVariants.{Set, ArraySectors, VolumeSectors, Bases}
use Rattle.sample_arrays.specs.Arrays.{end_of}
use Rattle.raid_params.specs.Bases.{greatest_base, is_offset_of}
use Rattle.raid_params.specs.declared.wide.Wide.{Wide}
use Rattle.sample_job.specs.Sampling.{array_refusal, array_refusals, bases_refusal, volume_refusal}
use Rattle.value_text.specs.SetText.{HasOffset, HasWord}
use Rattle.value_text.proofs.Offsets.{greatest_below, greatest_is}

pub set_refused : (set : Wide) (rows : ℕ) (xfs : Bool) (fault : GeoFault) → early_fault set.geo (held set.geo.slots.items) (end_of set.geo.head rows) ≡ Some fault → array_refusals set rows xfs ≡ Some (Set fault)
unfolding array_refusals
set_refused set rows xfs fault e =
    ap (λ (r : Option GeoFault). first_of (option_map (λ (f : GeoFault). Set f) r ∷ array_refusal set.geo rows ∷ volume_refusal set.geo rows xfs ∷ bases_refusal set.bases.items ∷ delay_refusal set.geo.head ∷ [])) e

-- the set keeps the rules
kept : (set : Wide) (rows : ℕ) (xfs : Bool) → early_fault set.geo (held set.geo.slots.items) (end_of set.geo.head rows) ≡ None →
    array_refusals set rows xfs ≡ first_of (array_refusal set.geo rows ∷ volume_refusal set.geo rows xfs ∷ bases_refusal set.bases.items ∷ delay_refusal set.geo.head ∷ [])
unfolding array_refusals
kept set rows xfs e = ap (λ (r : Option GeoFault). first_of (option_map (λ (f : GeoFault). Set f) r ∷ array_refusal set.geo rows ∷ volume_refusal set.geo rows xfs ∷ bases_refusal set.bases.items ∷ delay_refusal set.geo.head ∷ [])) e

large : (set : Geometry) (rows : ℕ) → 2097152 < set.head.members * end_of set.head rows → array_refusal set rows ≡ Some (ArraySectors (set.head.members * end_of set.head rows))
large set rows more = grind (arith, nat_tests)

not_large : (set : Geometry) (rows : ℕ) → set.head.members * end_of set.head rows ≤ 2097152 → array_refusal set rows ≡ None
not_large set rows few = grind (arith, nat_tests)

pub array_refused : (set : Wide) (rows : ℕ) (xfs : Bool) (sectors : ℕ) → early_fault set.geo (held set.geo.slots.items) (end_of set.geo.head rows) ≡ None → sectors ≡ set.geo.head.members * end_of set.geo.head rows → 2097152 < sectors →
    array_refusals set rows xfs ≡ Some (ArraySectors sectors)
array_refused set rows xfs sectors none is more =
    let over : 2097152 < set.geo.head.members * end_of set.geo.head rows = omega arith in
    kept set rows xfs none ∙ ap (λ (r : Option Refusal). first_of (r ∷ volume_refusal set.geo rows xfs ∷ bases_refusal set.bases.items ∷ delay_refusal set.geo.head ∷ [])) (large set.geo rows over)
    ∙ ap (λ (n : ℕ). Some (ArraySectors n)) (let same : set.geo.head.members * end_of set.geo.head rows ≡ sectors = omega arith in same)

small : (set : Geometry) (rows : ℕ) (xfs : Bool) → xfs ≡ true → volume_sectors set.head (end_of set.head rows) < 512 → volume_refusal set rows xfs ≡ Some (VolumeSectors (volume_sectors set.head (end_of set.head rows)))
small set rows xfs marked few = grind (arith, nat_tests)

not_small : (set : Geometry) (rows : ℕ) (xfs : Bool) → (IsTrue xfs → 512 ≤ volume_sectors set.head (end_of set.head rows)) → volume_refusal set rows xfs ≡ None
not_small set rows true enough = let h = enough refl in grind (arith, nat_tests)
not_small set rows false enough = refl

pub volume_refused : (set : Wide) (rows : ℕ) (xfs : Bool) (sectors : ℕ) → early_fault set.geo (held set.geo.slots.items) (end_of set.geo.head rows) ≡ None → set.geo.head.members * end_of set.geo.head rows ≤ 2097152 →
    xfs ≡ true → sectors ≡ volume_sectors set.geo.head (end_of set.geo.head rows) → sectors < 512 → array_refusals set rows xfs ≡ Some (VolumeSectors sectors)
volume_refused set rows xfs sectors none size marked is few =
    let under : volume_sectors set.geo.head (end_of set.geo.head rows) < 512 = omega arith in
    kept set rows xfs none ∙ ap (λ (r : Option Refusal). first_of (r ∷ volume_refusal set.geo rows xfs ∷ bases_refusal set.bases.items ∷ delay_refusal set.geo.head ∷ [])) (not_large set.geo rows size)
    ∙ ap (λ (r : Option Refusal). first_of (r ∷ bases_refusal set.bases.items ∷ delay_refusal set.geo.head ∷ [])) (small set.geo rows xfs marked under)
    ∙ ap (λ (n : ℕ). Some (VolumeSectors n)) (let same : volume_sectors set.geo.head (end_of set.geo.head rows) ≡ sectors = omega arith in same)

-- only the bases and the delay are left
last_refusal : (set : Wide) (rows : ℕ) (xfs : Bool) → early_fault set.geo (held set.geo.slots.items) (end_of set.geo.head rows) ≡ None → set.geo.head.members * end_of set.geo.head rows ≤ 2097152 →
    (IsTrue xfs → 512 ≤ volume_sectors set.geo.head (end_of set.geo.head rows)) → array_refusals set rows xfs ≡ first_of (bases_refusal set.bases.items ∷ delay_refusal set.geo.head ∷ [])
last_refusal set rows xfs none size marked =
    kept set rows xfs none ∙ ap (λ (r : Option Refusal). first_of (r ∷ volume_refusal set.geo rows xfs ∷ bases_refusal set.bases.items ∷ delay_refusal set.geo.head ∷ [])) (not_large set.geo rows size)
    ∙ ap (λ (r : Option Refusal). first_of (r ∷ bases_refusal set.bases.items ∷ delay_refusal set.geo.head ∷ [])) (not_small set.geo rows xfs marked)

some_bases : (n : ℕ) → 0 < n → cond (n == 0) None (Some (Bases n)) ≡ Some (Bases n)
some_bases n some = grind (arith, nat_tests)

no_bases : (n : ℕ) → n ≡ 0 → cond (n == 0) None (Some (Bases n)) ≡ None
no_bases n none = grind (arith, nat_tests)

pub bases_refused : (set : Wide) (rows : ℕ) (xfs : Bool) → early_fault set.geo (held set.geo.slots.items) (end_of set.geo.head rows) ≡ None → set.geo.head.members * end_of set.geo.head rows ≤ 2097152 →
    (IsTrue xfs → 512 ≤ volume_sectors set.geo.head (end_of set.geo.head rows)) → 0 < length set.bases.items → array_refusals set rows xfs ≡ Some (Bases (length set.bases.items))
bases_refused set rows xfs none size marked some =
    last_refusal set rows xfs none size marked ∙ ap (λ (r : Option Refusal). first_of (r ∷ delay_refusal set.geo.head ∷ [])) (some_bases (length set.bases.items) some)

-- the delay is the last one
alone : (r : Option Refusal) → first_of (r ∷ []) ≡ r
alone None = refl
alone (Some refusal) = refl

by_delay : (set : Wide) (rows : ℕ) (xfs : Bool) → early_fault set.geo (held set.geo.slots.items) (end_of set.geo.head rows) ≡ None → set.geo.head.members * end_of set.geo.head rows ≤ 2097152 →
    (IsTrue xfs → 512 ≤ volume_sectors set.geo.head (end_of set.geo.head rows)) → length set.bases.items ≡ 0 → array_refusals set rows xfs ≡ delay_refusal set.geo.head
by_delay set rows xfs none size marked shared =
    last_refusal set rows xfs none size marked ∙ ap (λ (r : Option Refusal). first_of (r ∷ delay_refusal set.geo.head ∷ [])) (no_bases (length set.bases.items) shared) ∙ alone (delay_refusal set.geo.head)

pub delay_refused : (set : Wide) (rows : ℕ) (xfs : Bool) (refusal : Refusal) → early_fault set.geo (held set.geo.slots.items) (end_of set.geo.head rows) ≡ None → set.geo.head.members * end_of set.geo.head rows ≤ 2097152 →
    (IsTrue xfs → 512 ≤ volume_sectors set.geo.head (end_of set.geo.head rows)) → length set.bases.items ≡ 0 → delay_refusal set.geo.head ≡ Some refusal → array_refusals set rows xfs ≡ Some refusal
delay_refused set rows xfs refusal none size marked shared e = by_delay set rows xfs none size marked shared ∙ e

pub array_allowed : (set : Wide) (rows : ℕ) (xfs : Bool) → early_fault set.geo (held set.geo.slots.items) (end_of set.geo.head rows) ≡ None → set.geo.head.members * end_of set.geo.head rows ≤ 2097152 →
    (IsTrue xfs → 512 ≤ volume_sectors set.geo.head (end_of set.geo.head rows)) → length set.bases.items ≡ 0 → delay_refusal set.geo.head ≡ None → array_refusals set rows xfs ≡ None
array_allowed set rows xfs none size marked shared late = by_delay set rows xfs none size marked shared ∙ late

-- a set that keeps all rules but maybe that on its delay keeps all with a delay of one
pub once : Geometry → Geometry
once geo = record geo { head = record geo.head { delay = 1 } }

pub once_kept : (geo : Geometry) (images end : ℕ) → early_fault geo images end ≡ None → first_fault (once geo) images end ≡ None
unfolding once
once_kept geo images end kept = ap (delay_fault (once geo).head) (row_once (shape_fault geo images) ∙ kept)
  where
    row_once : (r : Option GeoFault) → row_fault (once geo) end r ≡ row_fault geo end r
    row_once None = refl
    row_once (Some fault) = refl

pub once_valid : (geo : Geometry) (images end : ℕ) → early_fault geo images end ≡ None → IsTrue (is_valid_head (record geo.head { delay = 1 }))
unfolding once
once_valid geo images end kept = shaped_head (once geo) images (ruled_shape (once geo) images end (once_kept geo images end kept))

-- and its end is near
pub once_near : (geo : Geometry) (rows : ℕ) → early_fault geo (held geo.slots.items) (end_of geo.head rows) ≡ None → geo.head.members * end_of geo.head rows ≤ 2097152 → end_of geo.head rows < 2 ^ 21
unfolding once
once_near geo rows kept most = near_end (once geo) rows (once_kept geo (held geo.slots.items) (end_of geo.head rows) kept) most

-- no rule is broken where the earlier ones are kept, and the delay is not refused
pub all_kept : (geo : Geometry) (images end : ℕ) → early_fault geo images end ≡ None → delay_refusal geo.head ≡ None → first_fault geo images end ≡ None
all_kept geo images end early late = ap (delay_fault geo.head) early ∙ told (has_delay geo.head.pattern geo.head.delay) late
  where
    told : (b : Bool) → cond b None (Some (Set (Delay geo.head.delay))) ≡ None → cond b None (Some (Delay geo.head.delay)) ≡ None
    told true e = refl
    told false e = absurd (cc)

offset_near : (offset : ℕ) (bases : List ℕ) → HasOffset offset bases → IsTrue (is_offset_of bases offset) → offset < 2 ^ 55
offset_near offset [] has is = has
offset_near offset (base ∷ bases) has is =
    let greatest = greatest_is offset base bases is in
    let near : greatest_base (base ∷ bases) < 2 ^ 54 = greatest_below (2 ^ 54) 0 (base ∷ bases) (omega arith) has.small in
    omega arith

-- the offset of a set is below 2 ^ 55
pub near_offset : (set : Wide) → HasWord set → set.geo.head.offset < 2 ^ 55
near_offset set has = offset_near set.geo.head.offset set.bases.items has.offset set.is_greatest
