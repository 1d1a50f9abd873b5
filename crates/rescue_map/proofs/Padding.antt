-- Sets whose images have bases of their own.
use Rattle.std.proofs.Common.{ℕ, zero, suc, ◌≡◌, ◌-◌, ◌/◌, ◌<◌, ◌≤◌, ◌^◌, ◌==◌, ◌||◌, ◌&&◌, not, Bool, true, false, List, [], ◌∷◌, length, All, refl, sym, ap, ◌∙◌, subst, arith, Option, Some, None}
use Rattle.std.specs.Prelude.{if◌then◌else◌}
use Rattle.std.proofs.lemmas.Bool.Decides.{nat_tests}
use Rattle.std.proofs.lemmas.List.Elements.{All-cons, All-head, All-tail}
use Rattle.outside.specs.Seen.{Image, OnlyReads, Seen}
use Rattle.outside.proofs.Reading.{reads_none}
use Rattle.member_regions.proofs.Sets.{images_reach}
use Rattle.member_regions.specs.Members.{IsTestable, Reaches}
use Rattle.image_padding.proofs.Images.{padded_length}
use Rattle.image_padding.proofs.Within.{reads_within}
use Rattle.image_padding.specs.Padded.{greatest_base, padded, padded_images, padded_to, seen_padded}
use Rattle.raid_params.proofs.Ruled.{ruled_row, wide_bases, wide_ruled, wide_shape}
use Rattle.raid_params.specs.Bases.{leaves_out}
use Rattle.raid_params.specs.Validity.{first_fault, is_shaped}
use Rattle.raid_params.specs.Wide.{bases_fault, has_bases}
use Rattle.raid_params.specs.declared.types.GeoFault.{GeoFault}
use Rattle.raid_params.specs.declared.wide.Wide.{Wide}
use Rattle.raid_params.specs.declared.wide.WideFault.TheVariants.{Bases}
use Rattle.rescue_map.specs.Salvaged.{IsSalvaged}
use Rattle.rescue_map.specs.Damaged.{IsMendable, IsReadable}
use Rattle.rescue_map.proofs.Known.{all_below}
use Rattle.virtual_volume.specs.Served.{IsServed}

pub salvaged_shape : (set : Wide) (end : ℕ) (attached : List Image) → IsSalvaged set end attached → is_shaped set.geo (length attached) ≡ true
salvaged_shape set end attached s = wide_shape set (length attached) end s.ruled

pub salvaged_testable : (set : Wide) (end : ℕ) (attached : List Image) → IsSalvaged set end attached → IsTestable set.geo
salvaged_testable set end attached s = record { images = length attached; shaped = salvaged_shape set end attached s }

no_rows : (left n : ℕ) → left ≡ 0 → left / n ≡ 0
no_rows left n e = let none : 0 / n ≡ 0 = grind arith in ap (λ (k : ℕ). k / n) e ∙ none

-- the offset is before the end
offset_before : (set : Wide) (end : ℕ) (attached : List Image) → IsSalvaged set end attached → set.geo.head.offset < end
offset_before set end attached s =
    let some = ruled_row set.geo (length attached) end (wide_ruled set (length attached) end s.ruled) in
    of_left (end - set.geo.head.offset) refl
  where
    of_left : (left : ℕ) → end - set.geo.head.offset ≡ left → set.geo.head.offset < end
    of_left zero e = let none = no_rows (end - set.geo.head.offset) set.geo.head.chunk e in let some = ruled_row set.geo (length attached) end (wide_ruled set (length attached) end s.ruled) in absurd (omega arith)
    of_left (suc left) e = omega arith

test_of : (wide : Wide) (images : ℕ) (fault : Option GeoFault) → bases_fault wide images fault ≡ None → has_bases images wide.geo.slots.items wide.bases.items ≡ true
test_of wide images None h = by (has_bases images wide.geo.slots.items wide.bases.items) h
  where
    by : (b : Bool) → (if b then None else Some (Bases (length wide.bases.items))) ≡ None → b ≡ true
    by true h = refl
    by false h = absurd (cc)
test_of wide images (Some fault) h = absurd (cc)

each_of : (n m : ℕ) (rest : Bool) → 0 < n → (n == 0 || (n == m && rest)) ≡ true → n ≡ m
each_of n m rest some h = grind (arith, nat_tests)

pub bases_each : (set : Wide) (end : ℕ) (attached : List Image) → IsSalvaged set end attached → 0 < length set.bases.items → length set.bases.items ≡ length attached
bases_each set end attached s some =
    each_of (length set.bases.items) (length attached) (not (leaves_out (length attached) set.geo.slots.items)) some (test_of set (length attached) None (wide_bases set (length attached) end s.ruled))

first_long : (images : List Image) (end : ℕ) → 0 < length images → All (λ image. end ≤ image.sectors) images → All (λ image. image.sectors < 2 ^ 54) images → end < 2 ^ 54
first_long [] end some long short = absurd (omega arith)
first_long (image ∷ images) end some long short =
    let a = All-head (λ image. end ≤ image.sectors) image images long in
    let b = All-head (λ image. image.sectors < 2 ^ 54) image images short in
    omega arith

pub bases_near : (set : Wide) (end : ℕ) (attached : List Image) → IsSalvaged set end attached → 0 < length set.bases.items → All (λ base. base < 2 ^ 54) set.bases.items
bases_near set end attached s some =
    let each = bases_each set end attached s some in
    let near = first_long attached end (omega arith) s.long (s.short some) in
    let before = offset_before set end attached s in
    λ k d below. let low = all_below set k d below in omega arith

longer : (end greatest : ℕ) (bases : List ℕ) (images : List Image) → All (λ image. end ≤ image.sectors) images → All (λ image. end ≤ image.sectors) (padded_to greatest bases images)
longer end greatest [] images long = long
longer end greatest (base ∷ bases) [] long = long
longer end greatest (base ∷ bases) (image ∷ images) long =
    All-cons (λ image. end ≤ image.sectors) (padded (greatest - base) image) (padded_to greatest bases images)
    (let head = All-head (λ image. end ≤ image.sectors) image images long in omega arith)
    (longer end greatest bases images (All-tail (λ image. end ≤ image.sectors) image images long))

-- the members reach to the end, and do so once the images are padded
salvaged_held : (set : Wide) (end : ℕ) (attached : List Image) → IsSalvaged set end attached → All (Reaches attached end) set.geo.slots.items
salvaged_held set end attached s = images_reach set.geo end end attached (salvaged_shape set end attached s) s.long (omega arith)

padded_held : (set : Wide) (end : ℕ) (attached : List Image) → IsSalvaged set end attached → All (Reaches (padded_images set.bases.items attached) end) set.geo.slots.items
padded_held set end attached s =
    images_reach set.geo end end (padded_images set.bases.items attached)
    (subst (λ (n : ℕ). is_shaped set.geo n ≡ true) (sym (padded_length (greatest_base set.bases.items) set.bases.items attached)) (salvaged_shape set end attached s))
    (longer end (greatest_base set.bases.items) set.bases.items attached s.long) (omega arith)

salvaged_mendable : (set : Wide) (end : ℕ) (attached : List Image) → IsSalvaged set end attached → IsMendable set end
salvaged_mendable set end attached s = record { shape = salvaged_testable set end attached s; near = s.near }

-- so its volume can be read of them
pub salvaged_readable : (set : Wide) (end : ℕ) (attached : List Image) → IsSalvaged set end attached → IsReadable set end attached
salvaged_readable set end attached s = record { mendable = salvaged_mendable set end attached s; held = salvaged_held set end attached s }

pub padded_readable : (set : Wide) (end : ℕ) (attached : List Image) → IsSalvaged set end attached → IsReadable set end (padded_images set.bases.items attached)
padded_readable set end attached s = record { mendable = salvaged_mendable set end attached s; held = padded_held set end attached s }

pub none_padded : (bases : List ℕ) (attached : List Image) → length bases ≡ 0 → padded_images bases attached ≡ attached
none_padded [] attached h = refl
none_padded (base ∷ bases) attached h = absurd (omega arith)

-- images that are as they were once they are padded are as they were
pub same_within : (reference other : ℕ) (bases others : List ℕ) (old new : Seen) → seen_padded other others new ≡ seen_padded reference bases old → new ≡ old
same_within reference other bases others old new same =
    let reads = reads_within reference other bases others old new 0 (subst (λ (s : Seen). OnlyReads (seen_padded reference bases old) s 0) (sym same) (reads_none (seen_padded reference bases old))) in
    let faults : new.faults ≡ old.faults = ap (λ (s : Seen). s.faults) same in
    let sectors : new.sectors_read ≡ old.sectors_read = ap (λ (s : Seen). s.sectors_read) same in
    λ i. record { world = reads.1.world i; attached = reads.1.attached i; faults = faults i; sectors_read = sectors i }

-- a set that breaks no rule is served, also over padded images
pub salvaged_served : (set : Wide) (end : ℕ) (attached : List Image) → IsSalvaged set end attached → IsServed set.geo end attached
salvaged_served set end attached s = record {
  ruled = wide_ruled set (length attached) end s.ruled;
  offset = (let before = offset_before set end attached s in let near = s.near in omega arith);
  near = s.near;
  long = s.long;
}

pub padded_served : (set : Wide) (end : ℕ) (attached : List Image) → IsSalvaged set end attached → IsServed set.geo end (padded_images set.bases.items attached)
padded_served set end attached s = record {
  ruled = subst (λ (n : ℕ). first_fault set.geo n end ≡ None) (sym (padded_length (greatest_base set.bases.items) set.bases.items attached)) (wide_ruled set (length attached) end s.ruled);
  offset = (let before = offset_before set end attached s in let near = s.near in omega arith);
  near = s.near;
  long = longer end (greatest_base set.bases.items) set.bases.items attached s.long;
}
