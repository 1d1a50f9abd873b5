-- What is known of mirrors whose volume is written.
use Rattle.std.proofs.Common.{◌≡◌, ℕ, ◌<◌, ◌≤◌, List, length, get_or, Option, None, Some, All, IfSome, IsSomeAnd, IsTrue, Bool, true, false, refl, sym, subst, arith, slice_get}
use Rattle.std.specs.Prelude.{nat_eq, if◌then◌else◌, not, ◌&&◌}
use Rattle.std.proofs.lemmas.Option.{slice_get-get_or}
use Rattle.outside.specs.Seen.{Image}
use Rattle.raid_params.specs.Validity.{first_absent, first_repeat, is_chunk}
use Rattle.near_mirror.specs.Heads.{are_members, is_valid_near}
use Rattle.near_mirror.specs.Validity.{shape_fault, slots_fault, volume_fault}
use Rattle.near_mirror.specs.Volume.{IsHome, IsMirror, first_bare, home_copy}
use Rattle.near_mirror.specs.declared.map.CopyPlace.{CopyPlace}
use Rattle.near_mirror.specs.declared.types.NearRule.{NearRule}
use Rattle.near_mirror.specs.declared.types.NearRule.TheVariants.{Chunk, Members}
use Rattle.near_mirror.specs.declared.types.NearSet.{NearSet}
use Rattle.near_mirror.proofs.Chunks.{valid_chunk}
use Rattle.near_mirror.proofs.Heads.{copy_among}
use Rattle.near_mirror.proofs.Homes.{mirror_of}
use Rattle.member_regions.specs.Members.{Reaches}
use Rattle.near_volume.specs.Mirrored.{IsMirrored}
use Rattle.near_volume.proofs.Slots.{absent_below}

ruled_shape : (r : Option NearRule) (bare : Option ℕ) (set : NearSet) (end : ℕ) → volume_fault set end r bare ≡ None → (r ≡ None) × (bare ≡ None)
ruled_shape None None set end h = (refl, refl)
ruled_shape None (Some chunk) set end h = absurd (cc)
ruled_shape (Some rule) bare set end h = absurd (cc)

ruled : (set : NearSet) (end : ℕ) (attached : List Image) → IsMirrored set end attached → (shape_fault set (length attached) ≡ None) × (first_bare set end ≡ None)
ruled set end attached s = ruled_shape (shape_fault set (length attached)) (first_bare set end) set end s.ruled

-- it has the shape of a mirror
pub mirrored_mirror : (set : NearSet) (end : ℕ) (attached : List Image) → IsMirrored set end attached → IsMirror set end
mirrored_mirror set end attached s = let parts = ruled set end attached s in mirror_of set (length attached) end parts.0 parts.1

pub mirrored_head : (set : NearSet) (end : ℕ) (attached : List Image) → IsMirrored set end attached → IsTrue (is_valid_near set.head)
mirrored_head set end attached s = (mirrored_mirror set end attached s).head

pub mirror_chunk : (set : NearSet) (end : ℕ) → IsMirror set end → 1 ≤ set.head.chunk
mirror_chunk set end mirror = valid_chunk set.head mirror.head

none_absent : (absent repeated : Option ℕ) → slots_fault absent repeated ≡ None → absent ≡ None
none_absent None repeated h = refl
none_absent (Some i) repeated h = absurd (cc)

slots_pass : (a b : Bool) (x y : NearRule) (rest : Option NearRule) → (if a then Some x else if b then Some y else rest) ≡ None → rest ≡ None
slots_pass true b x y rest h = absurd (cc)
slots_pass false true x y rest h = absurd (cc)
slots_pass false false x y rest h = h

-- the image of a slot reaches as far as all do
reaches : (attached : List Image) (end : ℕ) (slot : Option ℕ) → All (λ image. end ≤ image.sectors) attached → IfSome slot (λ i. i < length attached) → Reaches attached end slot
reaches attached end None long there = tt
reaches attached end (Some i) long there =
    let image : Image = get_or attached i (record { sectors = 0; bytes = None }) in
    let far : end ≤ image.sectors = long i (record { sectors = 0; bytes = None }) there in
    let at : slice_get attached i ≡ Some image = slice_get-get_or attached i (record { sectors = 0; bytes = None }) there in
    subst (λ (o : Option Image). IsSomeAnd o (λ a. end ≤ a.sectors)) (sym at) far

-- its members reach to the end
pub mirrored_held : (set : NearSet) (end : ℕ) (attached : List Image) → IsMirrored set end attached → All (Reaches attached end) set.slots.items
mirrored_held set end attached s =
    let shape : shape_fault set (length attached) ≡ None = (ruled set end attached s).0 in
    let absent : first_absent (length attached) set.slots.items ≡ None =
    none_absent (first_absent (length attached) set.slots.items) (first_repeat set.slots.items)
    (slots_pass (not (are_members set.head.layout (length set.slots.items) && nat_eq set.head.members (length set.slots.items))) (not (is_chunk set.head.chunk)) (Members set.head.members) (Chunk set.head.chunk)
    (slots_fault (first_absent (length attached) set.slots.items) (first_repeat set.slots.items)) shape) in
    λ k d below. reaches attached end (get_or set.slots.items k d) s.long (absent_below (length attached) set.slots.items absent k d below)

longer : (n m : ℕ) (image : Option Image) → m ≤ n → IsSomeAnd image (λ a. n ≤ a.sectors) → IsSomeAnd image (λ a. m ≤ a.sectors)
longer n m None le far = far
longer n m (Some image) le far = omega arith

nearer : (attached : List Image) (n m : ℕ) (slot : Option ℕ) → m ≤ n → Reaches attached n slot → Reaches attached m slot
nearer attached n m None le far = tt
nearer attached n m (Some i) le far = longer n m (slice_get attached i) le far

-- the member of a slot reaches to a sector before the end
pub slot_held : (attached : List Image) (end m k : ℕ) (slots : List (Option ℕ)) (held : Option ℕ) → All (Reaches attached end) slots → k < length slots → held ≡ get_or slots k None → m ≤ end → Reaches attached m held
slot_held attached end m k slots held all below is le =
    subst (λ (o : Option ℕ). Reaches attached m o) (sym is) (nearer attached end m (get_or slots k None) le (all k None below))

-- the place that a sector is read from is on a slot
pub home_slot : (set : NearSet) (end v : ℕ) (place : CopyPlace) → IsMirror set end → IsHome set end v place → place.slot < length set.slots.items
home_slot set end v place mirror home =
    let among = copy_among set.head v (home_copy set v) mirror.head in
    let slot = home.slot in
    let members = mirror.members in
    omega arith
