-- The images, one by one.
use Rattle.std.proofs.Common.{◌≡◌, ℕ, ◌+◌, ◌-◌, ◌*◌, ◌/◌, ◌<◌, ◌≤◌, ◌^◌, Bool, true, List, [], ◌∷◌, ◌++◌, length, map, decimal, All, None, Some, Option, refl, sym, ap, subst, arith}
use Rattle.std.proofs.lemmas.List.Elements.{All-append, All-cons, All-nil}
use Rattle.std.proofs.lemmas.List.FromFn.{map-range_with_len_more}
use Rattle.std.proofs.lemmas.Nat.{div-add-mod', mul-le}
use Rattle.std.specs.List.{range_with_len}
use Rattle.std.specs.Option.{is_none}
use Rattle.std.specs.Prelude.{IsTrue}
use Rattle.address_map.proofs.Heads.{few_data, whole_below}
use Rattle.member_regions.specs.Members.{held}
use Rattle.raid_layouts.proofs.Levels.{at_most, enough}
use Rattle.raid_layouts.proofs.Shapes.{shaped_head, shaped_slots}
use Rattle.raid_params.proofs.Ruled.{ruled_shape}
use Rattle.raid_params.specs.Size.{area, data_blocks, volume_sectors}
use Rattle.raid_params.specs.Validity.{first_fault, is_shaped, is_valid_head}
use Rattle.image_source.specs.Memory.{told_bytes}
use Rattle.raid_params.specs.declared.types.GeoFault.{GeoFault}
use Rattle.raid_params.specs.declared.types.Geometry.{Geometry}
use Rattle.raid_params.specs.declared.types.Head.{Head}
use Rattle.sample_arrays.specs.Arrays.{end_of, sampled, sampled_image, IsFile}
use Rattle.sample_arrays.specs.Marks.{group_blocks}

-- the first n images, under their numbers
unfoldable pub sampled_front : ℕ → Geometry → ℕ → Bool → ℕ → List (List ℕ × List ℕ)
sampled_front number geo rows xfs n = map (λ image. (decimal image, sampled_image number geo rows xfs image)) (range_with_len 0 n)

pub none_sampled : (number : ℕ) (geo : Geometry) (rows : ℕ) (xfs : Bool) → sampled_front number geo rows xfs 0 ≡ []
unfolding sampled_front
none_sampled number geo rows xfs = refl

pub one_sampled_more : (number : ℕ) (geo : Geometry) (rows : ℕ) (xfs : Bool) (n : ℕ) →
    sampled_front number geo rows xfs (n + 1) ≡ sampled_front number geo rows xfs n ++ (decimal n, sampled_image number geo rows xfs n) ∷ []
unfolding sampled_front
one_sampled_more number geo rows xfs n = map-range_with_len_more (λ image. (decimal image, sampled_image number geo rows xfs image)) 0 n n (omega arith)

pub all_sampled : (number : ℕ) (geo : Geometry) (rows : ℕ) (xfs : Bool) (n : ℕ) → n ≡ held geo.slots.items → sampled_front number geo rows xfs n ≡ sampled number geo rows xfs
unfolding sampled_front sampled
all_sampled number geo rows xfs n all = ap (λ (k : ℕ). sampled_front number geo rows xfs k) all

-- each image has whole sectors up to the end
pub none_long : (number : ℕ) (geo : Geometry) (rows : ℕ) (xfs : Bool) → All (IsFile (end_of geo.head rows)) (sampled_front number geo rows xfs 0)
unfolding sampled_front
none_long number geo rows xfs = All-nil (IsFile (end_of geo.head rows))

pub one_long_more : (number : ℕ) (geo : Geometry) (rows : ℕ) (xfs : Bool) (n : ℕ) → All (IsFile (end_of geo.head rows)) (sampled_front number geo rows xfs n) →
    length (sampled_image number geo rows xfs n) ≡ 512 * end_of geo.head rows → told_bytes (sampled_image number geo rows xfs n) ≡ Some (sampled_image number geo rows xfs n) → All (IsFile (end_of geo.head rows)) (sampled_front number geo rows xfs (n + 1))
one_long_more number geo rows xfs n before long told =
    let P : List ℕ × List ℕ → Type 0 = IsFile (end_of geo.head rows) in
    let last : List ℕ × List ℕ = (decimal n, sampled_image number geo rows xfs n) in
    subst (λ (files : List (List ℕ × List ℕ)). All P files) (sym (one_sampled_more number geo rows xfs n))
    (All-append P (sampled_front number geo rows xfs n) (last ∷ []) before (All-cons P last [] (record { long = long; told = told }) (All-nil P)))

-- the end of a set that keeps the rules and is not too large
few_sectors : (members end : ℕ) → 2 ≤ members → members * end ≤ 2097152 → end ≤ 1048576
few_sectors members end some most =
    let twice : 2 * end ≤ members * end = mul-le 2 end members end some (omega arith) in
    omega arith

pub near_end : (geo : Geometry) (rows : ℕ) → first_fault geo (held geo.slots.items) (end_of geo.head rows) ≡ None → geo.head.members * end_of geo.head rows ≤ 2097152 →
    end_of geo.head rows < 2 ^ 21
near_end geo rows kept most =
    let head = shaped_head geo (held geo.slots.items) (ruled_shape geo (held geo.slots.items) (end_of geo.head rows) kept) in
    let some = enough geo.head head in
    let few = few_sectors geo.head.members (end_of geo.head rows) (omega arith) most in
    omega arith

pub few_slots : (geo : Geometry) (images : ℕ) → is_shaped geo images ≡ true → length geo.slots.items ≤ 24
few_slots geo images shaped =
    let same = shaped_slots geo images shaped in
    let few = at_most geo.head (shaped_head geo images shaped) in
    omega arith

pub some_blocks : (sectors items : ℕ) → 512 ≤ sectors → 1 ≤ group_blocks sectors items
some_blocks sectors items large =
    let left = div-add-mod' (sectors / 512 - 1) items in
    omega arith

-- a volume of short members has few sectors
pub short_volume : (head : Head) (end : ℕ) → IsTrue (is_valid_head head) → end < 2 ^ 21 → volume_sectors head end < 2 ^ 32
short_volume head end valid short =
    let whole = whole_below (end - head.offset) head.chunk ((end - head.offset) / head.chunk) refl in
    let most : area head end * data_blocks head ≤ 2 ^ 21 * 24 = mul-le (area head end) (data_blocks head) (2 ^ 21) 24 (omega arith) (few_data head valid) in
    omega arith
