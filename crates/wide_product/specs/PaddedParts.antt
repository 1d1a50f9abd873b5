-- The plan of a part over padded images: its sets have a common offset there.
use Rattle.std.specs.Prelude.{ℕ, ◌≡◌, ◌+◌, ◌≤◌, ◌<◌, ◌^◌, List, [], ◌∷◌, slice_get}
use Rattle.std.specs.declared.option.Option.{Option}
use Rattle.std.specs.declared.option.Option.TheVariants.{Some}
use Rattle.padded_images.specs.Plans.{padded_plan}
use Rattle.raid_params.specs.declared.types.Head.{Head}
use Rattle.search_plan.specs.Plans.{IsPlan}
use Rattle.plan_sets.specs.Sets.{passes_at, sets_of, total_of}
use Rattle.search_plan.specs.declared.plan.Plan.{Plan}
use Rattle.slot_math.specs.Space.{lists_of}
use Rattle.wide_product.specs.Sets.{padded_bytes, wide_passes_at}
use Rattle.wide_product.specs.declared.padded_part.PaddedPart.{PaddedPart}
use Rattle.wide_product.specs.declared.parts.Part.{Part}

-- the plan over images that are padded by these bases, with the chunk and the offset of a head alone
abbrev pub padded_for : Plan → Head → List ℕ → Plan
padded_for plan head bases = record (padded_plan bases plan) {
  bounds = record plan.bounds { chunks = record { items = head.chunk ∷ [] }; offsets = record { items = head.offset ∷ [] } };
}

-- that of a part
abbrev pub part_plan : Plan → Part → Plan
part_plan plan part = padded_for plan part.head part.bases.items

-- a range of the ranks of that plan has the sets of the part, and just those pass that do so with their bases
pub record IsPaddedPart (plan : Plan) (part : Part) (padded : PaddedPart) : Type 0 where
  pub is : padded.plan ≡ part_plan plan part
  pub is_plan : IsPlan padded.plan
  pub few : total_of padded.plan < 2 ^ 64
  pub within : padded.first + part.count ≤ total_of padded.plan
  pub stand : (k : ℕ) (slots : List (Option ℕ)) → slice_get (lists_of part.space) k ≡ Some slots →
      slice_get (sets_of padded.plan) (padded.first + k) ≡ Some (record { head = part.head; slots = record { items = slots } })
  pub passing : (images : List (List ℕ)) (k : ℕ) → k < part.count →
      passes_at (padded_bytes part.bases.items images) padded.plan (padded.first + k) ≡ wide_passes_at images plan (part.first + k)
