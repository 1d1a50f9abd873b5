-- The counts of a slot, mark by mark and image by image.
use Rattle.std.proofs.Common.{◌≡◌, ◌≢◌, ℕ, suc, ◌+◌, ◌-◌, ◌<◌, List, [], ◌∷◌, length, map, take, get_or, set, cond, arith, ap, ap₂, sym, refl, ◌∙◌, Bool, true, false, not, ◌==◌, ◌&&◌, Option, Some, None}
use Rattle.std.proofs.lemmas.Bool.{eq-eqb, ne_eqb}
use Rattle.std.proofs.lemmas.List.Sums.{sum_by_more}
use Rattle.std.specs.List.{count_by, fold, range_with_len}
use Rattle.std.specs.Option.{option_map_or}
use Rattle.std.specs.Prelude.{max}
use Rattle.raid_params.specs.declared.limits.TheConstants.{MOST}
use Rattle.raid_params.specs.declared.types.Head.{Head}
use Rattle.landmark_rules.specs.Marks.{sector_in}
use Rattle.landmark_rules.specs.Rules.{is_fit}
use Rattle.landmark_rules.specs.declared.marks.Mark.{Mark}
use Rattle.slot_math.proofs.Lists.{each_set}
use Rattle.mark_tables.specs.Marks.{fits_at, fits_in, misfits_at, misfits_in, most_from}
use Rattle.mark_tables.specs.Tables.{CountMarks, one_more}
use Rattle.mark_tables.specs.declared.counts.SlotCount.{SlotCount}

count_more : {X : Type 0} (p : X → Bool) (xs : List X) (k : ℕ) (d : X) → k < length xs → count_by p (take (k + 1) xs) ≡ count_by p (take k xs) + cond (p (get_or xs k d)) 1 0
count_more p xs k d lt = sum_by_more (λ x. cond (p x) 1 0) xs k d lt

no_more : (b : Bool) (n : ℕ) → b ≡ false → n + cond b 1 0 ≡ n
no_more b n e = ap (λ (t : Bool). n + cond t 1 0) e ∙ (let z : n + 0 ≡ n = omega arith in z)

and_false : (b : Bool) → (b && false) ≡ false
and_false true = refl
and_false false = refl

-- a mark on no sector of the volume counts nothing
pub counts_skip : (head : Head) (end : ℕ) (marks : List Mark) (origin slot k : ℕ) (d : Mark) (counts : List SlotCount) → k < length marks →
    sector_in head end slot (get_or marks k d).sector ≡ None → CountMarks head end (take k marks) origin slot counts → CountMarks head end (take (k + 1) marks) origin slot counts
counts_skip head end marks origin slot k d counts lt nowhere known image none below =
    let before = known image none below in
    let off : (test : ℕ → Bool) → ((get_or marks k d).image == image && option_map_or test (sector_in head end slot (get_or marks k d).sector) false) ≡ false
    = λ test. ap (λ (o : Option ℕ). (get_or marks k d).image == image && option_map_or test o false) nowhere ∙ and_false ((get_or marks k d).image == image) in (
      before.0 ∙ sym (count_more (fits_in head end origin slot image) marks k d lt
          ∙ no_more (fits_in head end origin slot image (get_or marks k d)) (fits_at head end (take k marks) origin slot image) (off (λ v. is_fit (get_or marks k d).rule origin v))),
      before.1 ∙ sym (count_more (misfits_in head end origin slot image) marks k d lt
          ∙ no_more (misfits_in head end origin slot image (get_or marks k d)) (misfits_at head end (take k marks) origin slot image) (off (λ v. not (is_fit (get_or marks k d).rule origin v)))),
    )

one_fits : (b : Bool) (count : SlotCount) → (one_more b count).fits ≡ count.fits + cond b 1 0
one_fits true count = refl
one_fits false count = let z : count.fits ≡ count.fits + 0 = omega arith in z

one_misfits : (b : Bool) (count : SlotCount) → (one_more b count).misfits ≡ count.misfits + cond (not b) 1 0
one_misfits true count = let z : count.misfits ≡ count.misfits + 0 = omega arith in z
one_misfits false count = refl

-- a mark on a sector of the volume counts for its image
pub counts_add : (head : Head) (end : ℕ) (marks : List Mark) (origin slot k v : ℕ) (d : Mark) (b : Bool) (none : SlotCount) (counts : List SlotCount) → k < length marks →
    sector_in head end slot (get_or marks k d).sector ≡ Some v → b ≡ is_fit (get_or marks k d).rule origin v → length counts ≡ MOST → (get_or marks k d).image < MOST →
    CountMarks head end (take k marks) origin slot counts →
    CountMarks head end (take (k + 1) marks) origin slot (set counts (get_or marks k d).image (one_more b (get_or counts (get_or marks k d).image none)))
counts_add head end marks origin slot k v d b none counts lt there is long below known =
    let at = (get_or marks k d).image in
    let test : (t : ℕ → Bool) (image : ℕ) → ((get_or marks k d).image == image && option_map_or t (sector_in head end slot (get_or marks k d).sector) false) ≡ ((get_or marks k d).image == image && t v)
    = λ t image. ap (λ (o : Option ℕ). (get_or marks k d).image == image && option_map_or t o false) there in
    let hit : (t : ℕ → Bool) (image : ℕ) → (get_or marks k d).image ≡ image → ((get_or marks k d).image == image && option_map_or t (sector_in head end slot (get_or marks k d).sector) false) ≡ t v
    = λ t image e. test t image ∙ ap (λ (x : Bool). x && t v) (eq-eqb (get_or marks k d).image image e) in
    let miss : (t : ℕ → Bool) (image : ℕ) → (get_or marks k d).image ≢ image → ((get_or marks k d).image == image && option_map_or t (sector_in head end slot (get_or marks k d).sector) false) ≡ false
    = λ t image ne. test t image ∙ ap (λ (x : Bool). x && t v) (ne_eqb (get_or marks k d).image image ne) in
    let before = known (get_or marks k d).image none below in
    let within : (get_or marks k d).image < length counts = omega arith in
    λ image other lt2. each_set (λ image count. (count.fits ≡ fits_at head end (take (k + 1) marks) origin slot image) × (count.misfits ≡ misfits_at head end (take (k + 1) marks) origin slot image))
    counts MOST (get_or marks k d).image (one_more b (get_or counts (get_or marks k d).image none)) other within (
      one_fits b (get_or counts (get_or marks k d).image none)
          ∙ ap₂ (λ (n : ℕ) (t : Bool). n + cond t 1 0) before.0 (is ∙ sym (hit (λ w. is_fit (get_or marks k d).rule origin w) (get_or marks k d).image refl))
          ∙ sym (count_more (fits_in head end origin slot (get_or marks k d).image) marks k d lt),
      one_misfits b (get_or counts (get_or marks k d).image none)
          ∙ ap₂ (λ (n : ℕ) (t : Bool). n + cond t 1 0) before.1 (ap not is ∙ sym (hit (λ w. not (is_fit (get_or marks k d).rule origin w)) (get_or marks k d).image refl))
          ∙ sym (count_more (misfits_in head end origin slot (get_or marks k d).image) marks k d lt),
    )
    (λ image lt2 ne. (
      (known image other lt2).0 ∙ sym (count_more (fits_in head end origin slot image) marks k d lt
          ∙ no_more (fits_in head end origin slot image (get_or marks k d)) (fits_at head end (take k marks) origin slot image) (miss (λ w. is_fit (get_or marks k d).rule origin w) image (λ e. ne (sym e)))),
      (known image other lt2).1 ∙ sym (count_more (misfits_in head end origin slot image) marks k d lt
          ∙ no_more (misfits_in head end origin slot image (get_or marks k d)) (misfits_at head end (take k marks) origin slot image) (miss (λ w. not (is_fit (get_or marks k d).rule origin w)) image (λ e. ne (sym e)))),
    )) image lt2

-- the greatest from a slot on
max_from : (a b : ℕ) (xs : List ℕ) → fold max (max a b) xs ≡ max a (fold max b xs)
max_from a b [] = refl
max_from a b (x ∷ xs) = ap (λ (m : ℕ). fold max m xs) (let e : max (max a b) x ≡ max a (max b x) = omega arith in e) ∙ max_from a (max b x) xs

pub most_next : (count : ℕ → ℕ → ℕ) (members slot image : ℕ) → slot < members → most_from count members slot image ≡ max (count slot image) (most_from count members (slot + 1) image)
unfolding most_from
most_next count members slot image lt =
    let left : members - slot ≡ suc (members - (slot + 1)) = omega arith in
    let turned : max 0 (count slot image) ≡ max (count slot image) 0 = omega arith in
    ap (λ (n : ℕ). fold max 0 (map (λ s. count s image) (range_with_len slot n))) left
    ∙ ap (λ (m : ℕ). fold max m (map (λ s. count s image) (range_with_len (slot + 1) (members - (slot + 1))))) turned
    ∙ max_from (count slot image) 0 (map (λ s. count s image) (range_with_len (slot + 1) (members - (slot + 1))))
