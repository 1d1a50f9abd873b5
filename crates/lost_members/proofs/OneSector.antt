-- One sector that is lost.
use Rattle.std.proofs.Common.{◌≡◌, ℕ, ◌+◌, ◌-◌, ◌*◌, ◌<◌, ◌≤◌, List, length, get_or, drop, true, sym, ap, ◌∙◌, arith, slice_range, slice_index_or, None, Some, Option, IfSome}
use Rattle.std.proofs.lemmas.Grind.{same_number_lists}
use Rattle.std.proofs.lemmas.List.{get_or-take, get_or-drop}
use Rattle.std.proofs.lemmas.List.FromFn.{get_or-map-range_with_len, length-map-range_with_len}
use Rattle.raid_layouts.proofs.Levels.{at_most}
use Rattle.raid_layouts.proofs.Shapes.{shaped_head, shaped_slots}
use Rattle.raid_params.specs.declared.limits.TheConstants.{MOST}
use Rattle.raid_params.specs.declared.types.Geometry.{Geometry}
use Rattle.raid_terms.specs.Volume.{byte_in, member_sector}
use Rattle.member_regions.specs.Members.{IsTestable}
use Rattle.lost_members.specs.Needs.{HoldData, HoldNeeded, is_data_at}

-- no more slots than there may be members
pub few_slots : (geo : Geometry) → IsTestable geo → length geo.slots.items ≤ MOST
few_slots geo t =
    let most = at_most geo.head (shaped_head geo t.images t.shaped) in
    let slots = shaped_slots geo t.images t.shaped in
    omega arith

-- the region of a slot that holds data is its sector, where regions are of one sector
sector_is : (images : List (List ℕ)) (geo : Geometry) (slot t : ℕ) (sectors part : List ℕ) → slot < length geo.slots.items → is_data_at geo slot t ≡ true →
    HoldData images geo 512 t 1 sectors → length part ≡ 512 → part ≡ slice_range sectors (512 * slot) (512 * slot + 512) → part ≡ member_sector images geo slot t
unfolding member_sector
sector_is images geo slot t sectors part within holds hold long is =
    let f : ℕ → ℕ = λ x. byte_in images geo t slot x (slice_index_or geo.slots.items slot None) in
    same_number_lists part (member_sector images geo slot t) (long ∙ sym (length-map-range_with_len f 0 512))
    (λ x inside. let below : x < 512 = omega arith in
    let on : t + 0 ≡ t = omega arith in
    let at : 512 * slot + x ≡ 512 * slot + (512 * 0 + x) = omega arith in
    let here : is_data_at geo slot (t + 0) ≡ true = rw on holds in
    let there : get_or sectors (512 * slot + (512 * 0 + x)) 0 ≡ byte_in images geo t slot x (slice_index_or geo.slots.items slot None) = rw on at (hold slot 0 x within (omega arith) below here) in
    ap (λ (l : List ℕ). get_or l x 0) is ∙ get_or-take (512 * slot + 512 - 512 * slot) (drop (512 * slot) sectors) x 0 (omega arith) ∙ get_or-drop (512 * slot) sectors x 0
    ∙ ap (λ (p : ℕ). get_or sectors p 0) at ∙ there ∙ sym (get_or-map-range_with_len f 0 512 x x 0 below (omega arith)))

-- where it is known
pub sector_told : (told : Option (List (List ℕ))) (geo : Geometry) (slot t : ℕ) (before sectors part : List ℕ) → slot < length geo.slots.items → is_data_at geo slot t ≡ true →
    ((images : List (List ℕ)) → HoldNeeded images geo 512 t 1 before → HoldData images geo 512 t 1 sectors) → length part ≡ 512 → part ≡ slice_range sectors (512 * slot) (512 * slot + 512) →
    IfSome told (λ images. HoldNeeded images geo 512 t 1 before) → IfSome told (λ images. part ≡ member_sector images geo slot t)
sector_told None geo slot t before sectors part within holds solve long is read = tt
sector_told (Some images) geo slot t before sectors part within holds solve long is read = sector_is images geo slot t sectors part within holds (solve images read) long is
