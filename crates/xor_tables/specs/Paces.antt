-- For how long parity stays on its slots.
use Rattle.std.specs.Prelude.{ℕ, ◌*◌, ◌≤◌, IsTrue, List, map, slice_index_or, Contains}
use Rattle.std.specs.List.{flat_map}
use Rattle.raid_params.specs.Validity.{is_chunk}
use Rattle.raid_params.specs.declared.limits.TheConstants.{LONGEST_DELAY}
use Rattle.raid_params.specs.declared.types.Head.{Head}
use Rattle.search_plan.specs.declared.plan.Plan.{Plan}
use Rattle.xor_tables.specs.declared.pace.Pace.{Pace}

-- for how many rows of sectors parity stays
abbrev pub span : Pace → ℕ
span pace = pace.chunk * pace.delay

-- the pace of a head
abbrev pub pace_of : Head → Pace
pace_of head = record { chunk = head.chunk; delay = head.delay }

-- the chunk makes sense, and the delay where parity moves
pub record IsPace (pace : Pace) : Type 0 where
  pub chunk : IsTrue (is_chunk pace.chunk)
  pub some : 1 ≤ pace.delay
  pub short : pace.delay ≤ LONGEST_DELAY

-- both are among those of a plan
pub record IsPaceOf (plan : Plan) (pace : Pace) : Type 0 where
  pub chunk : Contains plan.bounds.chunks.items pace.chunk
  pub delay : Contains plan.bounds.delays.items pace.delay

-- each chunk of a plan with each of its delays
abbrev pub paces_of : Plan → List Pace
paces_of plan = flat_map (λ chunk. map (λ delay. record { chunk = chunk; delay = delay }) plan.bounds.delays.items) plan.bounds.chunks.items

-- one of some paces, by its place
abbrev pub pace_at : List Pace → ℕ → Pace
pace_at paces place = slice_index_or paces place (record { chunk = 0; delay = 0 })
