-- What is read for pages.
use Rattle.std.specs.Prelude.{ℕ, ◌+◌, ◌-◌, ◌*◌, ◌/◌, min, Bool, true, not, ◌&&◌, if◌then◌else◌, List, [], ◌∷◌, length, count_by, slice_range, sum_by}
use Rattle.std.specs.declared.option.Option.{Option}
use Rattle.std.specs.declared.option.Option.TheVariants.{None, Some}
use Rattle.outside.specs.Seen.{OnlyReads, Seen}
use Rattle.candidate_enum.specs.Survivors.{all_admitted}
use Rattle.head_walk.specs.Counts.{is_decided, most_scanned}
use Rattle.padded_images.specs.Plans.{padded_plan}
use Rattle.common_pages.specs.Pages.{ArePageEnds, page_reads, scans_to, table_reads}
use Rattle.prune_filters.specs.Hopeful.{is_hopeful}
use Rattle.search_plan.specs.declared.plan.Plan.{Plan}
use Rattle.wide_product.specs.PaddedParts.{padded_for}
use Rattle.wide_product.specs.Parts.{parts_of}
use Rattle.wide_product.specs.Sets.{padded_bytes, Based}

-- a set is hopeful, over the bytes of the images: each prefix of its slots is, for the padded plan and the padded images. Where
-- some bytes are not known, any is
unfoldable pub is_hopeful_set : Option (List (List ℕ)) → Plan → Based → Bool
is_hopeful_set None plan set = true
is_hopeful_set (Some images) plan set = all_admitted (is_hopeful (padded_bytes set.1 images) (padded_plan set.1 plan) set.0.head) set.0.slots.items

-- a hopeful set of which rows have to be tested
unfoldable pub is_open_set : Option (List (List ℕ)) → Plan → Based → Bool
is_open_set told plan set = is_hopeful_set told plan set && not (is_decided (padded_plan set.1 plan) set.0)

-- how many scans sets of one head over images with one list of bases take: one for each 4,096 hopeful ones, and for what is left of
-- them, but no more than there are sets of which rows have to be tested
unfoldable pub scans_of : Option (List (List ℕ)) → Plan → List Based → ℕ
scans_of told plan sets = min (count_by (is_open_set told plan) sets) ((count_by (is_hopeful_set told plan) sets + 4095) / 4096)

-- the most sectors that are read for such sets: for the tables of their one chunk and their one offset, and for their scans. For no
-- set none is read
unfoldable pub part_reads : Option (List (List ℕ)) → Plan → List Based → ℕ
part_reads told plan [] = 0
part_reads told plan (set ∷ sets) =
    table_reads (padded_for plan set.0.head set.1) + scans_of told plan (set ∷ sets) * most_scanned (padded_for plan set.0.head set.1)

-- what some lists have at the places from one on up to another, list by list, where places go on from a list to the next
unfoldable pub cut : {A : Type 0} → ℕ → ℕ → List (List A) → List (List A)
cut from to [] = []
cut from to (xs ∷ lists) = slice_range xs from to ∷ cut (from - length xs) (to - length xs) lists

-- the most sectors that are read for the ranks from one up to another, where each image has an offset of its own: the sum over
-- each head with each list of bases, of those of its sets whose ranks are among these
unfoldable pub based_reads : Option (List (List ℕ)) → Plan → ℕ → ℕ → ℕ
based_reads told plan from to = sum_by (part_reads told plan) (cut from to (parts_of plan))

-- the most sectors that are read for a page whose ranks are those from one up to another
unfoldable pub wide_reads : Option (List (List ℕ)) → Plan → ℕ → ℕ → ℕ
wide_reads told plan from to = if plan.each then based_reads told plan from to else page_reads told plan from to

-- the most sectors that are read for pages that end at these ranks, where each image has an offset of its own: the sum over them
unfoldable pub based_to : Option (List (List ℕ)) → Plan → ℕ → List ℕ → ℕ
based_to told plan from [] = 0
based_to told plan from (end ∷ later) = based_reads told plan from end + based_to told plan end later

-- and where the images have a common offset: the tables once for all pages, and the scans of each
unfoldable pub wide_reads_to : Option (List (List ℕ)) → Plan → ℕ → List ℕ → ℕ
wide_reads_to told plan from ends =
    if plan.each then based_to told plan from ends else table_reads plan + scans_to told plan from ends * most_scanned plan

-- what is read for pages
pub record ReadsWide (told : Option (List (List ℕ))) (plan : Plan) (size span : ℕ) (failed : Bool) (count from : ℕ) (old new : Seen) : Type 0 where
  pub ends : List ℕ
  pub are : ArePageEnds told plan size span failed count from ends
  pub reads : OnlyReads old new (wide_reads_to told plan from ends)
