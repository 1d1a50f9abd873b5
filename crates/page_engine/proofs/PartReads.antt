-- What is read for the page of a part.
use Rattle.std.proofs.Common.{ℕ, ◌≡◌, ◌+◌, ◌-◌, ◌<◌, ◌≤◌, ◌^◌, true, List, [], ◌∷◌, length, refl, sym, ap, ◌∙◌, arith, subst, Option, All, inl, inr, slice_range, sum_by}
use Rattle.std.proofs.lemmas.List.Elements.{All-cons, All-head, All-nil, All-tail}
use Rattle.std.specs.Option.{option_map}
use Rattle.outside.proofs.Reading.{reads_none, reads_up}
use Rattle.outside.specs.Attached.{told_all}
use Rattle.outside.specs.Seen.{lengths_of, Image, OnlyReads, Seen}
use Rattle.image_padding.specs.Padded.{greatest_base, padded_images, padded_to}
use Rattle.padded_images.specs.Plans.{lengths_to}
use Rattle.common_pages.specs.Pages.{page_reads, EndsOrFull}
use Rattle.common_pages.specs.declared.page_parts.ListPage.{ListPage}
use Rattle.search_plan.specs.Plans.{AgreeWith, AreMovable, IsPlan}
use Rattle.search_terms.specs.Page.{stop_of}
use Rattle.search_plan.specs.declared.plan.Plan.{Plan}
use Rattle.wide_product.proofs.Aligned.{aligned}
use Rattle.wide_product.specs.PaddedParts.{part_plan, IsPaddedPart}
use Rattle.wide_product.specs.Parts.{IsPartOf}
use Rattle.wide_product.specs.Sets.{padded_bytes, wide_total, Based}
use Rattle.wide_product.specs.declared.padded_part.PaddedPart.{PaddedPart}
use Rattle.wide_product.specs.declared.parts.Part.{Part}
use Rattle.page_engine.proofs.PartPage.{told_padded}
use Rattle.page_engine.proofs.Shifted.{part_within}
use Rattle.page_engine.proofs.Cut.{cut_inside}
use Rattle.page_engine.proofs.Hopeful.{reads_there}
use Rattle.page_engine.specs.Reads.{based_reads, cut, part_reads}

-- nothing was read
pub unread : (told : Option (List (List ℕ))) (plan : Plan) (from to : ℕ) (seen : Seen) → OnlyReads seen seen (based_reads told plan from to)
unread told plan from to seen = reads_up seen seen (reads_none seen) (omega arith)

-- the lengths of the padded images
grown : (greatest : ℕ) (bases : List ℕ) (images : List Image) → lengths_of (padded_to greatest bases images) ≡ lengths_to greatest bases (lengths_of images)
grown greatest [] images = refl
grown greatest (base ∷ bases) [] = refl
grown greatest (base ∷ bases) (image ∷ images) = ap (λ (l : List ℕ). (greatest - base + image.sectors) ∷ l) (grown greatest bases images)

pub agrees : (plan : Plan) (part : Part) (made : Plan) (bases : List ℕ) (attached : List Image) → made ≡ part_plan plan part → bases ≡ part.bases.items → AgreeWith plan attached → AgreeWith made (padded_images bases attached)
agrees plan part made bases attached is same agree =
    ap (λ (bs : List ℕ). lengths_of (padded_images bs attached)) same
    ∙ grown (greatest_base part.bases.items) part.bases.items attached
    ∙ ap (lengths_to (greatest_base part.bases.items) part.bases.items) agree
    ∙ sym (ap (λ (p : Plan). p.lengths.items) is)

pub short_images : (plan : Plan) (attached : List Image) → IsPlan plan → plan.each ≡ true → AgreeWith plan attached → All (λ image. image.sectors < 2 ^ 54) attached
short_images plan attached is_plan each agree =
    let movable : AreMovable plan.lengths.items plan.bounds = is_plan.each each in
    let P : List ℕ → Type 0 = λ l. All (λ n. n < 2 ^ 54) l in
    of_all attached (subst P (sym agree) movable.short)
  where
    of_all : (images : List Image) → All (λ n. n < 2 ^ 54) (lengths_of images) → All (λ image. image.sectors < 2 ^ 54) images
    of_all [] all = All-nil (λ (image : Image). image.sectors < 2 ^ 54)
    of_all (image ∷ images) all =
        All-cons (λ (i : Image). i.sectors < 2 ^ 54) image images (All-head (λ n. n < 2 ^ 54) image.sectors (lengths_of images) all) (of_all images (All-tail (λ n. n < 2 ^ 54) image.sectors (lengths_of images) all))

no_sets : (told : Option (List (List ℕ))) (plan : Plan) → part_reads told plan [] ≡ 0
unfolding part_reads
no_sets told plan = refl

-- what may be read for ranks of a part
reads_inside : (told : Option (List (List ℕ))) (plan : Plan) (part : Part) (made : PaddedPart) (from to : ℕ) → IsPlan plan → plan.each ≡ true → IsPartOf plan part → IsPaddedPart plan part made → part.first ≤ from → from < to → to ≤ part.first + part.count →
    page_reads (option_map (padded_bytes part.bases.items) told) (part_plan plan part) (made.first + (from - part.first)) (made.first + (to - part.first)) ≡ based_reads told plan from to
unfolding based_reads
reads_inside told plan part made from to is_plan each is is_padded low range high =
    let own = aligned plan part is_plan each is (omega arith) in
    let first = own.first in
    let count = own.count in
    reads_there told plan part made own (from - part.first) (to - part.first) is is_padded (omega arith) (omega arith)
    ∙ ap (λ (n : ℕ). part_reads told plan (slice_range own.own (from - n) (to - n))) first
    ∙ sym (cut_inside (part_reads told plan) from to own.before own.own own.after (no_sets told plan) (omega arith) (omega arith))
    ∙ ap (λ (lists : List (List Based)). sum_by (part_reads told plan) (cut from to lists)) (sym own.split)

-- what a page over padded images read
pub reads_on : (attached : List Image) (plan : Plan) (part : Part) (made : PaddedPart) (bases : List ℕ) (from to tested : ℕ) (old new : Seen) → IsPlan plan → plan.each ≡ true → IsPartOf plan part → IsPaddedPart plan part made → bases ≡ part.bases.items →
    OnlyReads old new (page_reads (told_all (padded_images bases attached)) made.plan (made.first + (from - part.first)) tested) →
    tested ≡ made.first + (to - part.first) → part.first ≤ from → from < to → to ≤ part.first + part.count → OnlyReads old new (based_reads (told_all attached) plan from to)
reads_on attached plan part made bases from to tested old new is_plan each is is_padded same reads at low range high =
    let P : List ℕ → Type 0 = λ bs. OnlyReads old new (page_reads (told_all (padded_images bs attached)) made.plan (made.first + (from - part.first)) tested) in
    let Q : Option (List (List ℕ)) → Type 0 = λ o. OnlyReads old new (page_reads o made.plan (made.first + (from - part.first)) tested) in
    let R : Plan → Type 0 = λ p. OnlyReads old new (page_reads (option_map (padded_bytes part.bases.items) (told_all attached)) p (made.first + (from - part.first)) tested) in
    let S : ℕ → Type 0 = λ n. OnlyReads old new (page_reads (option_map (padded_bytes part.bases.items) (told_all attached)) (part_plan plan part) (made.first + (from - part.first)) n) in
    let T : ℕ → Type 0 = λ n. OnlyReads old new n in
    subst T (reads_inside (told_all attached) plan part made from to is_plan each is is_padded low range high)
    (subst S at (subst R is_padded.is (subst Q (told_padded part.bases.items attached) (subst P same reads))))

-- where the page of a part ends
pub next_inside : (plan : Plan) (part : Part) (made : PaddedPart) (found : ListPage) (missing from stop : ℕ) → IsPaddedPart plan part made → part.first ≤ from → from < stop → stop ≤ part.first + part.count →
    EndsOrFull missing (made.first + (from - part.first)) (stop_of (wide_total made.plan) (made.first + (from - part.first)) (stop - from)) (length found.lines) found.next →
    found.next ≤ stop_of (wide_total made.plan) (made.first + (from - part.first)) (stop - from) →
    (found.next ≡ made.first + (part.first + (found.next - made.first) - part.first)) × (part.first + (found.next - made.first) ≤ stop) × (from < part.first + (found.next - made.first))
next_inside plan part made found missing from stop is low range high (inl (at, few)) within = let end = part_within plan part made is in (omega arith, omega arith, omega arith)
next_inside plan part made found missing from stop is low range high (inr (on, many)) within = let end = part_within plan part made is in (omega arith, omega arith, omega arith)
