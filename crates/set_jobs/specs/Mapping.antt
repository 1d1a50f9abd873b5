-- What `map` answers.
use Rattle.std.specs.Prelude.{ℕ, ◌+◌, ◌==◌, nat_lt, get_or, length, if◌then◌else◌, List, [], ◌∷◌, ◌++◌, codes, decimal, slice_index_or, unwrap_or, false}
use Rattle.std.specs.Option.{option_map}
use Rattle.std.specs.declared.option.Option.{Option}
use Rattle.std.specs.declared.option.Option.TheVariants.{None, Some}
use Rattle.outside.specs.Seen.{Image}
use Rattle.raid_params.specs.declared.types.Head.{Head}
use Rattle.raid_params.specs.Size.{volume_sectors}
use Rattle.raid_params.specs.Validity.{early_fault}
use Rattle.raid_params.specs.Wide.{has_bases}
use Rattle.raid_params.specs.declared.wide.Wide.{Wide}
use Rattle.raid_terms.specs.Address.{home_item, home_row, home_sector, home_slot}
use Rattle.raid_terms.specs.Role.{p_of, q_of}
use Rattle.raid_layouts.specs.Names.{name_of}
use Rattle.run_ends.specs.Jobs.{Job, textless}
use Rattle.run_ends.specs.Printing.{or_dash}
use Rattle.run_ends.specs.Agreement.{end_of, limits_fault, long_fault}
use Rattle.run_ends.specs.Stops.{delay_refusal, first_of}
use Rattle.run_ends.specs.declared.agreement.Disagreement.{Disagreement}
use Rattle.run_ends.specs.declared.stop.Refusal.{Refusal}
use Rattle.run_ends.specs.declared.stop.Refusal.TheVariants.{Images, Set, Bases, Sector}

-- an image is too long for the bases of the set
abbrev pub long_refused : Wide → List Image → Option Disagreement
long_refused set attached = if length set.bases.items == 0 then None else long_fault attached

-- the images are none, too many or too short, or one is too long for the bases of the set
unfoldable pub images_refusal : Wide → Option ℕ → ℕ → List Image → Option Refusal
images_refusal set end names attached =
    first_of (option_map (λ fault. Images fault) (limits_fault end names attached)
    ∷ option_map (λ fault. Images fault) (long_refused set attached)
    ∷ [])

-- the first refusals of a command over one set: the images, then the rules on the parameters but for the delay
unfoldable pub geo_refusal : Wide → Option ℕ → ℕ → List Image → Option Refusal
geo_refusal set end names attached =
    first_of (images_refusal set end names attached ∷ option_map (λ fault. Set fault) (early_fault set.geo names (end_of end attached)) ∷ [])

-- there are bases, and they suit the images or the slots not
abbrev pub bases_refusal : Wide → ℕ → Option Refusal
bases_refusal set names = if has_bases names set.geo.slots.items set.bases.items then None else Some (Bases (length set.bases.items))

-- the last refusals of a command over one set: the rule on its bases, and after all others that on its delay
abbrev pub late_refusal : Wide → ℕ → Option Refusal
late_refusal set names = first_of (bases_refusal set names ∷ delay_refusal set.geo.head ∷ [])

-- the refusals of a command over one set
unfoldable pub set_refusal : Wide → Option ℕ → ℕ → List Image → Option Refusal
set_refusal set end names attached = first_of (geo_refusal set end names attached ∷ late_refusal set names ∷ [])

-- the sector is past the end of the volume
abbrev pub sector_refusal : Head → ℕ → ℕ → Option Refusal
sector_refusal head end sector =
    if nat_lt sector (volume_sectors head end) then None else Some (Sector (record { sector = sector; size = volume_sectors head end }))

-- the first refusal of `map`
unfoldable pub map_refusal : Wide → Option ℕ → ℕ → ℕ → List Image → Option Refusal
map_refusal set end sector names attached =
    first_of (set_refusal set end names attached ∷ sector_refusal set.geo.head (end_of end attached) sector ∷ [])

-- where the data of an image in a slot begin: at its base, or at the offset where it has none. Those of an empty slot begin
-- at the offset, which is the greatest base
abbrev pub base_at : Wide → Option ℕ → ℕ
base_at set (Some image) = get_or set.bases.items image set.geo.head.offset
base_at set None = set.geo.head.offset

-- where a data item of a row lies, with the slots of P and Q in the row
unfoldable pub place_line : Wide → ℕ → ℕ → ℕ → ℕ → List ℕ
place_line set row item slot sector =
    codes "row " ++ decimal row ++ codes " item " ++ decimal item ++ codes " slot " ++ decimal slot
    ++ codes " image " ++ or_dash (slice_index_or set.geo.slots.items slot None) ++ codes " sector " ++ decimal (base_at set (slice_index_or set.geo.slots.items slot None) + sector)
    ++ codes " p " ++ or_dash (p_of set.geo.head row) ++ codes " q " ++ or_dash (q_of set.geo.head row) ++ codes "\n"

-- the name of a layout, where parity stays for one row
abbrev pub layout_name : Head → Option (List ℕ)
layout_name head = if head.delay == 1 then name_of head.level head.pattern head.syndrome else None

-- the line of the name, and of a dash where there is none
unfoldable pub name_line : Head → List ℕ
name_line head = codes "name " ++ unwrap_or (layout_name head) (codes "-") ++ codes "\n"

-- the two lines of `map`
abbrev pub map_text : Wide → ℕ → List ℕ
map_text set v = place_line set (home_row set.geo.head v) (home_item set.geo.head v) (home_slot set.geo.head v) (home_sector set.geo.head v) ++ name_line set.geo.head

-- `map`: it reads nothing
abbrev pub map_job : Wide → Option ℕ → ℕ → Job
map_job set end sector = textless false (λ given. map_refusal set end sector given.names given.attached) (λ given. Some (map_text set sector)) (λ given. 0)
