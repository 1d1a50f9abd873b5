-- The first of several refusals.
use Rattle.std.proofs.Common.{◌≡◌, Bool, true, false, cond, List, [], ◌∷◌, length, None, Some, Option, Result, refl, sym, ap, ap₂, ◌∙◌, ℕ, subst}
use Rattle.std.specs.Option.{option_map}
use Rattle.outside.specs.Seen.{Image}
use Rattle.raid_params.specs.declared.types.GeoFault.{GeoFault}
use Rattle.raid_params.specs.declared.wide.Wide.{Wide}
use Rattle.raid_params.specs.declared.wide.WideFault.{WideFault}
use Rattle.raid_params.specs.declared.wide.WideFault.TheVariants.{Geo as GeoFaultOf, Bases as BasesOf}
use Rattle.raid_params.specs.Wide.{bases_fault, has_bases, late_fault, wide_fault}
use Rattle.raid_params.specs.Validity.{delay_fault, early_fault, first_fault, has_delay}
use Rattle.raid_params.specs.declared.types.GeoFault.TheVariants.{Delay}
use Rattle.run_ends.specs.Agreement.{end_of, limits_fault}
use Rattle.run_ends.specs.Jobs.{Refuses}
use Rattle.set_jobs.specs.Mapping.{bases_refusal, geo_refusal, images_refusal, late_refusal, long_refused, map_refusal, sector_refusal, set_refusal}
use Rattle.run_ends.specs.Stops.{delay_refusal, first_of}
use Rattle.run_ends.specs.declared.agreement.Disagreement.{Disagreement}
use Rattle.run_ends.specs.declared.stop.Refusal.{Refusal}
use Rattle.run_ends.specs.declared.stop.Refusal.TheVariants.{Bases, Images, Set}
use Rattle.run_ends.specs.declared.stop.Stop.{Stop}

-- the images disagree
pub limits_refused : (set : Wide) (end : Option ℕ) (names : ℕ) (attached : List Image) (fault : Disagreement) → limits_fault end names attached ≡ Some fault → images_refusal set end names attached ≡ Some (Images fault)
unfolding images_refusal
limits_refused set end names attached fault e = ap (λ (r : Option Disagreement). first_of (option_map (λ (f : Disagreement). Images f) r ∷ option_map (λ (f : Disagreement). Images f) (long_refused set attached) ∷ [])) e

-- one of them is too long, or none
image_refused : (set : Wide) (end : Option ℕ) (names : ℕ) (attached : List Image) (long : Option Disagreement) → limits_fault end names attached ≡ None → long_refused set attached ≡ long →
    images_refusal set end names attached ≡ first_of (option_map (λ (f : Disagreement). Images f) long ∷ [])
unfolding images_refusal
image_refused set end names attached long none e =
    ap₂ (λ (r s : Option Disagreement). first_of (option_map (λ (f : Disagreement). Images f) r ∷ option_map (λ (f : Disagreement). Images f) s ∷ [])) none e

pub length_refused : (set : Wide) (end : Option ℕ) (names : ℕ) (attached : List Image) (fault : Disagreement) → limits_fault end names attached ≡ None → long_refused set attached ≡ Some fault → images_refusal set end names attached ≡ Some (Images fault)
length_refused set end names attached fault none e = image_refused set end names attached (Some fault) none e

pub images_allowed : (set : Wide) (end : Option ℕ) (names : ℕ) (attached : List Image) → limits_fault end names attached ≡ None → long_refused set attached ≡ None → images_refusal set end names attached ≡ None
images_allowed set end names attached none short = image_refused set end names attached None none short

-- images that are not refused
pub images_kept : (set : Wide) (end : Option ℕ) (names : ℕ) (attached : List Image) → images_refusal set end names attached ≡ None → (limits_fault end names attached ≡ None) × (long_refused set attached ≡ None)
unfolding images_refusal
images_kept set end names attached e = both (limits_fault end names attached) (long_refused set attached) e
  where
    both : (limits long : Option Disagreement) → first_of (option_map (λ (f : Disagreement). Images f) limits ∷ option_map (λ (f : Disagreement). Images f) long ∷ []) ≡ None → (limits ≡ None) × (long ≡ None)
    both None None e = (refl, refl)
    both None (Some fault) e = absurd (cc)
    both (Some fault) long e = absurd (cc)

-- the images are refused, or else the set, if it breaks a rule
pub images_refused : (set : Wide) (end : Option ℕ) (names : ℕ) (attached : List Image) (refusal : Refusal) → images_refusal set end names attached ≡ Some refusal → geo_refusal set end names attached ≡ Some refusal
unfolding geo_refusal
images_refused set end names attached refusal e = ap (λ r. first_of (r ∷ option_map (λ (f : GeoFault). Set f) (early_fault set.geo names (end_of end attached)) ∷ [])) e

by_rule : (set : Wide) (end : Option ℕ) (names : ℕ) (attached : List Image) (rule : Option GeoFault) → images_refusal set end names attached ≡ None → early_fault set.geo names (end_of end attached) ≡ rule →
    geo_refusal set end names attached ≡ first_of (option_map (λ (f : GeoFault). Set f) rule ∷ [])
unfolding geo_refusal
by_rule set end names attached rule none e = ap₂ (λ r (s : Option GeoFault). first_of (r ∷ option_map (λ (f : GeoFault). Set f) s ∷ [])) none e

pub rule_refused : (set : Wide) (end : Option ℕ) (names : ℕ) (attached : List Image) (fault : GeoFault) → images_refusal set end names attached ≡ None → early_fault set.geo names (end_of end attached) ≡ Some fault → geo_refusal set end names attached ≡ Some (Set fault)
rule_refused set end names attached fault none e = by_rule set end names attached (Some fault) none e

-- none of these
pub geo_allowed : (set : Wide) (end : Option ℕ) (names : ℕ) (attached : List Image) → images_refusal set end names attached ≡ None → early_fault set.geo names (end_of end attached) ≡ None → geo_refusal set end names attached ≡ None
geo_allowed set end names attached none e = by_rule set end names attached None none e

-- the images, in a set that is not refused
pub none_refused : (set : Wide) (end : Option ℕ) (names : ℕ) (attached : List Image) → geo_refusal set end names attached ≡ None → images_refusal set end names attached ≡ None
unfolding geo_refusal
none_refused set end names attached h = first (images_refusal set end names attached) (option_map (λ (f : GeoFault). Set f) (early_fault set.geo names (end_of end attached))) h
  where
    first : (r s : Option Refusal) → first_of (r ∷ s ∷ []) ≡ None → r ≡ None
    first None s e = refl
    first (Some refusal) s e = absurd (cc)

-- the first of these is the answer, and then that of the bases or of the delay
pub geo_refused : (set : Wide) (end : Option ℕ) (names : ℕ) (attached : List Image) (refusal : Refusal) → geo_refusal set end names attached ≡ Some refusal → set_refusal set end names attached ≡ Some refusal
unfolding set_refusal
geo_refused set end names attached refusal e = ap (λ r. first_of (r ∷ late_refusal set names ∷ [])) e

pub late_refused : (set : Wide) (end : Option ℕ) (names : ℕ) (attached : List Image) (refusal : Refusal) → geo_refusal set end names attached ≡ None → late_refusal set names ≡ Some refusal → set_refusal set end names attached ≡ Some refusal
unfolding set_refusal
late_refused set end names attached refusal none e = ap₂ (λ r s. first_of (r ∷ s ∷ [])) none e

pub set_allowed : (set : Wide) (end : Option ℕ) (names : ℕ) (attached : List Image) → geo_refusal set end names attached ≡ None → late_refusal set names ≡ None → set_refusal set end names attached ≡ None
unfolding set_refusal
set_allowed set end names attached none e = ap₂ (λ r s. first_of (r ∷ s ∷ [])) none e

-- neither the bases nor the delay are refused
pub late_none : (set : Wide) (names : ℕ) → late_refusal set names ≡ None → (bases_refusal set names ≡ None) × (delay_refusal set.geo.head ≡ None)
late_none set names e = both (bases_refusal set names) (delay_refusal set.geo.head) e
  where
    both : (r s : Option Refusal) → first_of (r ∷ s ∷ []) ≡ None → (r ≡ None) × (s ≡ None)
    both None None e = (refl, refl)
    both None (Some refusal) e = absurd (cc)
    both (Some refusal) s e = absurd (cc)

-- no rule is broken where the earlier ones are kept, and the delay is not refused
pub all_kept : (set : Wide) (images end : ℕ) → early_fault set.geo images end ≡ None → delay_refusal set.geo.head ≡ None → first_fault set.geo images end ≡ None
all_kept set images end early late = ap (delay_fault set.geo.head) early ∙ kept (has_delay set.geo.head.pattern set.geo.head.delay) late
  where
    kept : (b : Bool) → cond b None (Some (Set (Delay set.geo.head.delay))) ≡ None → cond b None (Some (Delay set.geo.head.delay)) ≡ None
    kept true e = refl
    kept false e = absurd (cc)

-- what validating a set says of its bases and its delay, where it breaks no earlier rule
abbrev pub refusal_of : Option WideFault → Option Refusal
refusal_of None = None
refusal_of (Some (GeoFaultOf fault)) = Some (Set fault)
refusal_of (Some (BasesOf count)) = Some (Bases count)

late_with : Bool → ℕ → Option WideFault → Option WideFault
late_with suits delay (Some fault) = Some fault
late_with suits delay None = cond suits None (Some (GeoFaultOf (Delay delay)))

pub by_late : (set : Wide) (images end : ℕ) (fault : Option WideFault) → early_fault set.geo images end ≡ None → wide_fault set images end ≡ fault → late_refusal set images ≡ refusal_of fault
unfolding late_with
by_late set images end fault early e =
    told (has_bases images set.geo.slots.items set.bases.items) (has_delay set.geo.head.pattern set.geo.head.delay) (length set.bases.items) set.geo.head.delay
    ∙ ap refusal_of (sym (late_is (bases_fault set images None)) ∙ ap (λ (r : Option GeoFault). late_fault set (bases_fault set images r)) (sym early) ∙ e)
  where
    late_is : (r : Option WideFault) → late_fault set r ≡ late_with (has_delay set.geo.head.pattern set.geo.head.delay) set.geo.head.delay r
    late_is None = refl
    late_is (Some fault) = refl

    told : (suit suits : Bool) (count delay : ℕ) → first_of (cond suit None (Some (Bases count)) ∷ cond suits None (Some (Set (Delay delay))) ∷ []) ≡ refusal_of (late_with suits delay (cond suit None (Some (BasesOf count))))
    told true true count delay = refl
    told true false count delay = refl
    told false suits count delay = refl

-- `map` ends by the refusal of its set
pub map_set_refused : (set : Wide) (end : Option ℕ) (sector names : ℕ) (attached : List Image) (refusal : Refusal) → set_refusal set end names attached ≡ Some refusal → map_refusal set end sector names attached ≡ Some refusal
unfolding map_refusal
map_set_refused set end sector names attached refusal e = ap (λ r. first_of (r ∷ sector_refusal set.geo.head (end_of end attached) sector ∷ [])) e

pub first_alone : (r : Option Refusal) → first_of (r ∷ []) ≡ r
first_alone None = refl
first_alone (Some refusal) = refl

-- or as its sector is refused
map_by_sector : (set : Wide) (end : Option ℕ) (sector names last : ℕ) (attached : List Image) → set_refusal set end names attached ≡ None → last ≡ end_of end attached → map_refusal set end sector names attached ≡ sector_refusal set.geo.head last sector
unfolding map_refusal
map_by_sector set end sector names last attached none is =
    ap (λ r. first_of (r ∷ sector_refusal set.geo.head (end_of end attached) sector ∷ [])) none ∙ first_alone (sector_refusal set.geo.head (end_of end attached) sector)
    ∙ ap (λ (n : ℕ). sector_refusal set.geo.head n sector) (sym is)

pub map_answered : (set : Wide) (end : Option ℕ) (sector names last : ℕ) (attached : List Image) (answer : Result (List ℕ) Stop) → set_refusal set end names attached ≡ None → last ≡ end_of end attached →
    Refuses (sector_refusal set.geo.head last sector) answer → Refuses (map_refusal set end sector names attached) answer
map_answered set end sector names last attached answer none is refuses =
    subst (λ (refused : Option Refusal). Refuses refused answer) (sym (map_by_sector set end sector names last attached none is)) refuses
