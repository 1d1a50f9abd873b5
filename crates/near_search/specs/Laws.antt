-- Laws of the search for mirrors.
use Rattle.std.specs.Prelude.{ℕ, ◌≡◌, true, IsTrue, List, length}
use Rattle.std.specs.Option.{is_some}
use Rattle.std.specs.declared.option.Option.{Option}
use Rattle.std.specs.declared.option.Option.TheVariants.{None}
use Rattle.candidate_enum.specs.Survivors.{all_admitted}
use Rattle.near_mirror.specs.Heads.{is_valid_near}
use Rattle.near_mirror.specs.Validity.{first_fault, shape_fault}
use Rattle.near_mirror.specs.Volume.{first_bare}
use Rattle.near_mirror.specs.declared.types.NearHead.{NearHead}
use Rattle.near_mirror.specs.declared.types.NearSet.{NearSet}
use Rattle.near_tables.specs.Torn.{has_lost, near_passes, with_slots}

-- a mirror passes just where each beginning of its slot list is hopeful, the whole list too
abbrev pub PassingMirrorsAreHopeful : Type 0
PassingMirrorsAreHopeful = (bytes : List (List ℕ)) (end window most : ℕ) (head : NearHead) (slots : List (Option ℕ)) →
    all_admitted (λ prefix. near_passes bytes end window most (with_slots head prefix)) slots ≡ near_passes bytes end window most (with_slots head slots)

-- of a whole slot list a chunk is lost just where the set has a chunk without a copy
abbrev pub LostChunksHaveNoCopy : Type 0
LostChunksHaveNoCopy = (set : NearSet) (end : ℕ) → IsTrue (is_valid_near set.head) → set.head.members ≡ length set.slots.items →
    has_lost end set ≡ is_some (first_bare set end)

-- a set of the shape of a mirror, with different images below their number in its slots, breaks no rule where it passes
abbrev pub PassingMirrorsBreakNoRule : Type 0
PassingMirrorsBreakNoRule = (bytes : List (List ℕ)) (images end window most : ℕ) (set : NearSet) →
    shape_fault set images ≡ None → near_passes bytes end window most set ≡ true → first_fault set images end ≡ None
