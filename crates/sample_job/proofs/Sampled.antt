-- What a survey and a page find of a generated array.
use Rattle.std.proofs.Common.{◌≡◌, ℕ, ◌-◌, ◌<◌, ◌≤◌, ◌^◌, Bool, false, nat_eq, ◌||◌, map, List, [], ◌∷◌, All, IfSome, None, Some, Option, Err, Result, refl, sym, ap, ◌∙◌, subst, arith, inl, inr}
use Rattle.std.proofs.lemmas.Bool.{cases_lt}
use Rattle.std.proofs.lemmas.Bool.Decides.{nat_tests}
use Rattle.outside.specs.Attached.{told_all}
use Rattle.outside.specs.Seen.{Image}
use Rattle.common_pages.proofs.HeadByHead.{passes_are}
use Rattle.common_pages.specs.Pages.{IsPageOf, ranks_of}
use Rattle.head_walk.specs.declared.parts.Line.{Line}
use Rattle.common_pages.specs.declared.page_parts.ListPage.{ListPage}
use Rattle.std.specs.List.{list_any}
use Rattle.std.specs.Option.{option_map_or}
use Rattle.raid_params.specs.declared.types.Geometry.{Geometry}
use Rattle.raid_params.specs.declared.wide.Wide.{Wide}
use Rattle.run_ends.specs.Jobs.{Refuses}
use Rattle.run_ends.specs.Stops.{first_of}
use Rattle.sample_job.specs.Sampling.{many_refusal, array_refusals, found_text, is_among, sample_ask, sample_output, sample_plan, sample_refusal, sample_text, sampled_images}
use Rattle.run_ends.specs.declared.stop.Refusal.{Refusal}
use Rattle.run_ends.specs.declared.stop.Refusal.TheVariants.{Many}
use Rattle.run_ends.specs.declared.stop.Stop.{Stop}
use Rattle.sample_arrays.specs.Arrays.{end_of, sampled, IsFile}
use Rattle.plan_sets.specs.Sets.{passes_at, rank_of, total_of}
use Rattle.search_terms.specs.Page.{IsPage}
use Rattle.wide_product.proofs.Products.{common_total}
use Rattle.wide_product.specs.Sets.{wide_total}
use Rattle.search_plan.specs.declared.plan.Plan.{Plan}
use Rattle.survey_job.specs.Surveying.{survey_plan}
use Rattle.sample_job.proofs.Asked.{sample_common}
use Rattle.sample_job.proofs.Attached.{all_told}
use Rattle.sample_arrays.specs.Laws.{sampled_bytes}

-- the images that are attached are known whole
pub told : (number : ℕ) (set : Geometry) (rows : ℕ) (xfs : Bool) (attached : List Image) → All (IsFile (end_of set.head rows)) (sampled number set rows xfs) →
    attached ≡ sampled_images number set rows xfs → told_all attached ≡ Some (sampled_bytes number set rows xfs)
told number set rows xfs attached long there = ap told_all there ∙ all_told number set rows xfs long

-- so the plan of their survey is that of the array
pub plan_is : (number : ℕ) (set : Geometry) (rows : ℕ) (xfs : Bool) (end : ℕ) (attached : List Image) (plan : Plan) → All (IsFile (end_of set.head rows)) (sampled number set rows xfs) →
    attached ≡ sampled_images number set rows xfs → end ≡ end_of set.head rows → IfSome (told_all attached) (λ bytes. plan ≡ survey_plan (sample_ask set end) attached bytes) → plan ≡ sample_plan number set rows xfs
unfolding sample_plan
plan_is number set rows xfs end attached plan long there is made =
    let here : plan ≡ survey_plan (sample_ask set end) attached (sampled_bytes number set rows xfs) =
    subst (λ (t : Option (List (List ℕ))). IfSome t (λ bytes. plan ≡ survey_plan (sample_ask set end) attached bytes)) (told number set rows xfs attached long there) made in
    here ∙ ap (λ (e : ℕ). survey_plan (sample_ask set e) attached (sampled_bytes number set rows xfs)) is
    ∙ ap (λ (images : List Image). survey_plan (sample_ask set (end_of set.head rows)) images (sampled_bytes number set rows xfs)) there

-- the page of a plan of images with a common offset
common_page : (images : List (List ℕ)) (plan : Plan) (page : ListPage) → plan.each ≡ false → IsPageOf images plan 0 1000 (2 ^ 64 - 1) page → IsPage (passes_at images plan) (total_of plan) 0 1000 (2 ^ 64 - 1) (ranks_of page.lines) page.next
common_page images plan page each is =
    let P : (ℕ → Bool) → Type 0 = λ p. IsPage p (wide_total plan) 0 1000 (2 ^ 64 - 1) (ranks_of page.lines) page.next in
    let Q : ℕ → Type 0 = λ t. IsPage (passes_at images plan) t 0 1000 (2 ^ 64 - 1) (ranks_of page.lines) page.next in
    subst Q (common_total plan each) (subst P (sym (passes_are images plan each)) is)

-- and the lines are those of the array
lines_are : (set : Geometry) (end : ℕ) (images : List (List ℕ)) (plan : Plan) (page : ListPage) → plan.each ≡ false → IsPageOf images plan 0 1000 (2 ^ 64 - 1) page → page.total ≡ total_of plan →
    found_text set end plan page ≡ sample_text set end images plan
unfolding found_text sample_text
lines_are set end images plan page each found total = let is = common_page images plan page each found in rw (is.front, is.goes_on, total) refl

pub text_is : (number : ℕ) (set : Geometry) (rows : ℕ) (xfs : Bool) (end : ℕ) (attached : List Image) (plan : Plan) (page : ListPage) (text : List ℕ) →
    All (IsFile (end_of set.head rows)) (sampled number set rows xfs) → attached ≡ sampled_images number set rows xfs → end ≡ end_of set.head rows → plan ≡ sample_plan number set rows xfs →
    IfSome (told_all attached) (λ bytes. IsPageOf bytes plan 0 1000 (2 ^ 64 - 1) page) → page.total ≡ total_of plan → text ≡ found_text set end plan page → text ≡ sample_output number set rows xfs
unfolding sample_output
text_is number set rows xfs end attached plan page text long there is made found total lines =
    let here : IsPageOf (sampled_bytes number set rows xfs) plan 0 1000 (2 ^ 64 - 1) page =
    subst (λ (t : Option (List (List ℕ))). IfSome t (λ bytes. IsPageOf bytes plan 0 1000 (2 ^ 64 - 1) page)) (told number set rows xfs attached long there) found in
    let each = ap (λ (p : Plan). p.each) made ∙ sample_common number set rows xfs in
    lines ∙ lines_are set end (sampled_bytes number set rows xfs) plan page each here total
    ∙ ap (λ (e : ℕ). sample_text set e (sampled_bytes number set rows xfs) plan) is
    ∙ ap (λ (p : Plan). sample_text set (end_of set.head rows) (sampled_bytes number set rows xfs) p) made

-- the refusal is the first of those before the array is made, and then that of the product
pub refused_before : (number : ℕ) (set : Wide) (rows : ℕ) (xfs : Bool) (refusal : Refusal) → array_refusals set rows xfs ≡ Some refusal → sample_refusal number set rows xfs ≡ Some refusal
unfolding sample_refusal
refused_before number set rows xfs refusal e = ap (λ (r : Option Refusal). first_of (r ∷ many_refusal (sample_plan number set.geo rows xfs) ∷ [])) e

first_alone : (r : Option Refusal) → first_of (r ∷ []) ≡ r
first_alone None = refl
first_alone (Some refusal) = refl

-- the product is not too large, or it is
pub few_sets : (plan : Plan) → total_of plan < 2 ^ 64 → many_refusal plan ≡ None
few_sets plan few = grind (arith, nat_tests)

pub many_sets : (plan : Plan) → 2 ^ 64 ≤ total_of plan → many_refusal plan ≡ Some Many
many_sets plan many = grind (arith, nat_tests)

pub few_ranks : (plan : Plan) → many_refusal plan ≡ None → total_of plan < 2 ^ 64
few_ranks plan none = elim (cases_lt (total_of plan) (2 ^ 64)) [
  | inl few ↦ few
  | inr many ↦ absurd (let e = many_sets plan many in cc)
]

-- a rank is on a page by its lines
pub any_rank : (lines : List Line) (rank : ℕ) → list_any (λ held. nat_eq held.rank rank) lines ≡ list_any (λ other. nat_eq other rank) (map (λ held. held.rank) lines)
any_rank [] rank = refl
any_rank (held ∷ lines) rank = ap (λ (b : Bool). nat_eq held.rank rank || b) (any_rank lines rank)

-- how the work of an array that may be made ends
pub found_refuses : (number : ℕ) (set : Wide) (rows : ℕ) (xfs : Bool) (answer : Result (List ℕ) Stop) → array_refusals set rows xfs ≡ None → Refuses (many_refusal (sample_plan number set.geo rows xfs)) answer →
    Refuses (sample_refusal number set rows xfs) answer
unfolding sample_refusal
found_refuses number set rows xfs answer before refuses =
    subst (λ (r : Option Refusal). Refuses r answer)
    (sym (ap (λ (r : Option Refusal). first_of (r ∷ many_refusal (sample_plan number set.geo rows xfs) ∷ [])) before ∙ first_alone (many_refusal (sample_plan number set.geo rows xfs)))) refuses

pub refuses_plan : {T : Type 0} (plan other : Plan) (answer : Result T Stop) → plan ≡ other → Refuses (many_refusal plan) answer → Refuses (many_refusal other) answer
refuses_plan plan other answer same refuses = subst (λ (p : Plan). Refuses (many_refusal p) answer) same refuses

-- a refusal is one whatever the answer would have been
pub refuses_same : (refused : Option Refusal) (stop : Stop) → Refuses {T = ListPage} refused (Err stop) → Refuses {T = List ℕ} refused (Err stop)
refuses_same refused stop refuses = record { ends = refuses.ends; passes = tt }

pub among_is : (plan : Plan) (set : Geometry) (lines : List Line) (rank : ℕ) (found : Bool) → rank_of plan set ≡ Some rank → found ≡ list_any (λ held. nat_eq held.rank rank) lines →
    found ≡ is_among plan set (map (λ held. held.rank) lines)
among_is plan set lines rank found has is =
    is ∙ any_rank lines rank ∙ sym (ap (λ (r : Option ℕ). option_map_or (λ k. list_any (λ other. nat_eq other k) (map (λ (held : Line). held.rank) lines)) r false) has)
