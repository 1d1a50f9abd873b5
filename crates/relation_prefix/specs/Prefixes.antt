-- Which prefixes of slot lists the relations of a row allow.
use Rattle.std.specs.Prelude.{ℕ, ◌≡◌, ◌+◌, ◌-◌, ◌<◌, ◌≤◌, ◌⊎◌, min, List, length, slice_index, slice_index_or}
use Rattle.std.specs.declared.option.Option.{Option}
use Rattle.std.specs.declared.option.Option.TheVariants.{None, Some}
use Rattle.raid_params.specs.Size.{redundancy}
use Rattle.raid_params.specs.Slots.{empties}
use Rattle.raid_params.specs.declared.types.Head.{Head}
use Rattle.raid_params.specs.declared.types.Level.{Level}
use Rattle.raid_params.specs.declared.types.Level.TheVariants.{Raid0, Raid5, Raid6}
use Rattle.raid_terms.specs.Cells.{part_of}
use Rattle.row_relations.specs.Laws.{IsSumOfTies}
use Rattle.row_relations.specs.Tables.{Table}
use Rattle.relation_prefix.specs.declared.equation.Equation.{Equation}
use Rattle.relation_prefix.specs.declared.equation.Equation.TheVariants.{OfP, OfQ}
use Rattle.relation_prefix.specs.Equations.{left_without, slot_weight}

-- the slot at this place holds this image
abbrev pub Holds : List (Option ℕ) → ℕ → ℕ → Type 0
Holds slots slot image = (slot < length slots) × (slice_index_or slots slot None ≡ Some image)

-- the image is in none of the slots
abbrev pub IsForeign : List (Option ℕ) → ℕ → Type 0
IsForeign slots image = (slot : ℕ) → Holds slots slot image → ⊥

-- weights of the images that are a relation of the row of a table, and that an equation may have where slots begin so: at an image in
-- a slot the weight of this slot, and once there are all slots 0 at an image in none. As long as there are slots to come an image in
-- none may have any
pub record IsAllowed (images : ℕ) (table : Table) (head : Head) (row : ℕ) (slots : List (Option ℕ)) (equation : Equation) (v : List ℕ) : Type 0 where
  pub relation : IsSumOfTies images table v
  pub held : (slot image : ℕ) → Holds slots slot image → slice_index v image ≡ slot_weight head row equation slot
  pub foreign : length slots ≡ head.members → (image : ℕ) → image < images → IsForeign slots image → slice_index v image ≡ 0

-- some relation of the row may be the equation
abbrev pub Allows : ℕ → Table → Head → ℕ → List (Option ℕ) → Equation → Type 0
Allows images table head row slots equation = (v : List ℕ) × IsAllowed images table head row slots equation v

-- nothing is tested: as many slots as the level survives are empty, or may come to be
abbrev pub IsUntested : Head → ℕ → List (Option ℕ) → Type 0
IsUntested head missing slots = redundancy head.level ≤ min missing (empties slots + (head.members - length slots))

-- all equations of the level may be relations
abbrev pub AllowsAll : ℕ → Table → Head → ℕ → List (Option ℕ) → Level → Type 0
AllowsAll images table head row slots Raid0 = Unit {0}
AllowsAll images table head row slots Raid5 = Allows images table head row slots OfP
AllowsAll images table head row slots Raid6 = Allows images table head row slots OfP × Allows images table head row slots OfQ

-- a slot may be the only empty one: it is, or it is still to come and none is
abbrev pub MayBeLost : Head → ℕ → List (Option ℕ) → ℕ → Type 0
MayBeLost head missing slots slot =
    ((empties slots ≡ 1) × (slot < length slots) × (slice_index_or slots slot None ≡ None))
    ⊎ ((empties slots ≡ 0) × (1 ≤ missing) × (length slots ≤ slot) × (slot < head.members))

-- at level 6, some slot may be the only empty one, and what is left of the equations without it may be a relation
abbrev pub AllowsOneLost : ℕ → Table → Head → ℕ → ℕ → List (Option ℕ) → Type 0
AllowsOneLost images table head row missing slots =
    (head.level ≡ Raid6) × (slot : ℕ) × MayBeLost head missing slots slot × Allows images table head row slots (left_without (part_of head row slot))

-- the row does not refuse that the slots of a set of at most `missing` empty ones begin so: nothing is tested, or with no slot
-- empty, or one, the row may be sound
abbrev pub IsAdmitted : ℕ → Table → Head → ℕ → ℕ → List (Option ℕ) → Type 0
IsAdmitted images table head row missing slots =
    IsUntested head missing slots
    ⊎ (((empties slots ≡ 0) × AllowsAll images table head row slots head.level) ⊎ AllowsOneLost images table head row missing slots)
