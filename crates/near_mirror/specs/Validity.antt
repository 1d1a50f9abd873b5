-- The first rule that the parameter set of a mirror breaks.
use Rattle.std.specs.Prelude.{ℕ, nat_eq, nat_le, ◌&&◌, not, if◌then◌else◌, length}
use Rattle.std.specs.declared.option.Option.{Option}
use Rattle.std.specs.declared.option.Option.TheVariants.{None, Some}
use Rattle.raid_params.specs.Slots.{empties}
use Rattle.raid_params.specs.Validity.{first_absent, first_repeat, is_chunk}
use Rattle.near_mirror.specs.Copies.{near_chunks}
use Rattle.near_mirror.specs.Heads.{are_members, is_near2}
use Rattle.near_mirror.specs.Volume.{first_bare}
use Rattle.near_mirror.specs.declared.types.NearRule.{NearRule}
use Rattle.near_mirror.specs.declared.types.NearRule.TheVariants.{Members, Chunk, Image, Repeat, Missing, NoRow, NoCopy}
use Rattle.near_mirror.specs.declared.types.NearSet.{NearSet}

-- the first rule on the slots that is broken: each holds an image below `images` or none, and no image stands twice
abbrev pub slots_fault : Option ℕ → Option ℕ → Option NearRule
slots_fault (Some i) repeated = Some (Image i)
slots_fault None (Some i) = Some (Repeat i)
slots_fault None None = None

-- the first rule on the shape that is broken, over `images` images
abbrev pub shape_fault : NearSet → ℕ → Option NearRule
shape_fault set images =
    if not (are_members set.head.layout (length set.slots.items) && nat_eq set.head.members (length set.slots.items)) then Some (Members set.head.members)
    else if not (is_chunk set.head.chunk) then Some (Chunk set.head.chunk)
    else slots_fault (first_absent images set.slots.items) (first_repeat set.slots.items)

-- the rule of the copies, broken by a chunk without one: of two near copies it is told by the number of empty slots
abbrev pub bare_rule : NearSet → ℕ → NearRule
bare_rule set chunk = if is_near2 set.head.layout then Missing (empties set.slots.items) else NoCopy chunk

-- the rule that a set without a chunk breaks: of two near copies more than one empty slot comes before it
abbrev pub rowless_rule : NearSet → NearRule
rowless_rule set = if is_near2 set.head.layout && nat_le 2 (empties set.slots.items) then Missing (empties set.slots.items) else NoRow set.head.offset

-- after the shape: each chunk has a copy, and there is a chunk
abbrev pub volume_fault : NearSet → ℕ → Option NearRule → Option ℕ → Option NearRule
volume_fault set end (Some rule) bare = Some rule
volume_fault set end None (Some chunk) = Some (bare_rule set chunk)
volume_fault set end None None = if nat_eq (near_chunks set.head end) 0 then Some (rowless_rule set) else None

-- the first broken rule
abbrev pub first_fault : NearSet → ℕ → ℕ → Option NearRule
first_fault set images end = volume_fault set end (shape_fault set images) (first_bare set end)
