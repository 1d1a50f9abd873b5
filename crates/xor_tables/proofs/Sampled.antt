-- Rows that are kept of those that were read.
use Rattle.std.proofs.Common.{◌≡◌, ℕ, ◌+◌, ◌<◌, List, length, arith, sym, ap, refl, ◌∙◌, subst, IfSome, Option, Some, None}
use Rattle.std.proofs.lemmas.List.{length-map}
use Rattle.member_regions.proofs.IfTold.{if_told}
use Rattle.outside.proofs.Told.{told_all_length}
use Rattle.outside.specs.Attached.{told_all}
use Rattle.outside.specs.Seen.{Image}
use Rattle.row_samples.proofs.Begun.{none_sampled}
use Rattle.row_samples.specs.Rows.{HoldSector}
use Rattle.row_samples.specs.Spreads.{AreSampled, HasNone, Sampling}
use Rattle.search_plan.specs.Plans.{AgreeWith}
use Rattle.search_plan.specs.declared.plan.Plan.{Plan}
use Rattle.member_regions.specs.Regions.{Room}
use Rattle.xor_tables.specs.Xors.{HoldRow, HoldRows}

-- one of the sectors that the regions hold
pub sector_of : (bytes : List (List ℕ)) (count offset first rows j : ℕ) (room : Room) → HoldRows bytes count (offset + first) rows room → j < rows → HoldSector bytes count (offset + (first + j)) j room
sector_of bytes count offset first rows j room hold lt =
    subst (λ (sector : ℕ). HoldRow bytes count sector j room) (let e : offset + first + j ≡ offset + (first + j) = omega arith in e) (hold j lt)

-- the bytes of the images of a plan are those of as many
told_count : (plan : Plan) (attached : List Image) → AgreeWith plan attached → IfSome (told_all attached) (λ bytes. length bytes ≡ length plan.lengths.items)
told_count plan attached are = by (told_all attached) refl
  where
    by : (told : Option (List (List ℕ))) → told_all attached ≡ told → IfSome told (λ bytes. length bytes ≡ length plan.lengths.items)
    by None e = tt
    by (Some all) e = told_all_length attached all e ∙ sym (length-map attached (λ (i : Image). i.sectors)) ∙ ap length are

pub begins_sampled : (attached : List Image) (plan : Plan) (offset : ℕ) (sampling : Sampling) → AgreeWith plan attached → HasNone (length plan.lengths.items) sampling →
    IfSome (told_all attached) (λ bytes. AreSampled bytes (length plan.lengths.items) offset sampling)
begins_sampled attached plan offset sampling agrees none =
    if_told (told_all attached) (λ bytes. length bytes ≡ length plan.lengths.items) (λ bytes. AreSampled bytes (length plan.lengths.items) offset sampling)
    (λ bytes long. none_sampled bytes (length plan.lengths.items) offset sampling long none)
    (told_count plan attached agrees)
