-- Lines of a part for those of its plan over padded images.
use Rattle.std.specs.Prelude.{ℕ, ◌≡◌, ◌+◌, ◌-◌, ◌≤◌, ◌<◌, ◌++◌, Bool, nat_le, nat_lt, ◌&&◌, if◌then◌else◌, List, [], ◌∷◌, length, All}
use Rattle.common_pages.specs.Pages.{HoldsBased, ranks_of}
use Rattle.head_walk.specs.declared.parts.Line.{Line}
use Rattle.search_plan.specs.declared.plan.Plan.{Plan}
use Rattle.wide_product.specs.PaddedParts.{IsPaddedPart}
use Rattle.wide_product.specs.Parts.{IsPartOf}
use Rattle.wide_product.specs.Sets.{based}
use Rattle.wide_product.specs.declared.padded_part.PaddedPart.{PaddedPart}
use Rattle.wide_product.specs.declared.parts.Part.{Part}

-- the rank in a part's plan, whose first set has the rank `first`, is that of a set of the part
abbrev pub is_inside : Part → ℕ → ℕ → Bool
is_inside part first rank = nat_le first rank && nat_lt rank (first + part.count)

-- the ranks that the sets of these ranks have in the product
unfoldable pub padded_ranks : Part → ℕ → List ℕ → List ℕ
padded_ranks part first [] = []
padded_ranks part first (rank ∷ ranks) =
    if is_inside part first rank then (part.first + (rank - first)) ∷ padded_ranks part first ranks else padded_ranks part first ranks

-- the line has the set of another, with the bases of the part
pub record IsPaddedLine (part : Part) (first : ℕ) (line padded : Line) : Type 0 where
  pub low : first ≤ line.rank
  pub high : line.rank < first + part.count
  pub rank : padded.rank ≡ part.first + (line.rank - first)
  pub set : based padded.geo ≡ (record { head = part.head; slots = line.geo.geo.slots }, part.bases.items)

-- the lines of a part were appended for those of its plan
pub record AddsPadded (part : Part) (first : ℕ) (found old new : List Line) : Type 0 where
  pub ranks : ranks_of new ≡ ranks_of old ++ padded_ranks part first (ranks_of found)
  pub sets : (plan : Plan) (padded : PaddedPart) → IsPartOf plan part → IsPaddedPart plan part padded → padded.first ≡ first → All (HoldsBased padded.plan) found → All (HoldsBased plan) old → All (HoldsBased plan) new
  pub most : length new ≤ length old + length found
