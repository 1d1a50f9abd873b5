-- Which heads a walk over the heads of a plan has before it.
use Rattle.std.specs.Prelude.{ℕ, ◌≡◌, ◌<◌, ◌≤◌, List, [], ◌++◌, length, drop}
use Rattle.std.specs.List.{flat_map}
use Rattle.std.specs.declared.option.Option.{Option}
use Rattle.std.specs.declared.option.Option.TheVariants.{None, Some}
use Rattle.raid_params.specs.declared.types.Head.{Head}
use Rattle.slot_math.specs.Space.{lists_of}
use Rattle.search_plan.specs.declared.plan.Plan.{Plan}
use Rattle.set_product.specs.Blocks.{heads_with, shapes, IsBlock}
use Rattle.set_product.specs.declared.opened.Opened.{Opened}

-- the heads of the pairs of a level and a number of members from this place on
unfoldable pub heads_after : Plan → ℕ → List Head
heads_after plan at = flat_map (λ shape. heads_with plan.bounds shape.0 shape.1) (drop at (shapes plan))

-- the heads of an opened block from this one on, and of the later pairs
unfoldable pub heads_from : Plan → Opened → ℕ → List Head
heads_from plan opened next = drop next (heads_with plan.bounds opened.block.level opened.block.members) ++ heads_after plan opened.after

abbrev pub left_heads : Plan → Option Opened → List Head
left_heads plan None = []
left_heads plan (Some opened) = heads_from plan opened opened.next

-- a block of the plan, whose next head is one of its own
pub record IsOpened (plan : Plan) (opened : Opened) : Type 0 where
  pub after : opened.after ≤ length (shapes plan)
  pub block : IsBlock plan opened.block
  pub heads : opened.heads ≡ length (heads_with plan.bounds opened.block.level opened.block.members)
  pub lists : opened.lists ≡ length (lists_of opened.block.space)
  pub next : opened.next < opened.heads

-- an opened block, or none
abbrev pub MayBeOpened : Plan → Option Opened → Type 0
MayBeOpened plan None = Unit {0}
MayBeOpened plan (Some opened) = IsOpened plan opened
