-- What `list` refuses and prints.
use Rattle.std.specs.Prelude.{ℕ, Bool, zero, suc, ◌+◌, ◌≤◌, nat_lt, ◌==◌, if◌then◌else◌, List, [], ◌∷◌, ◌++◌, codes, decimal, slice_get}
use Rattle.std.specs.List.{flat_map}
use Rattle.std.specs.Option.{option_map_or}
use Rattle.std.specs.declared.option.Option.{Option}
use Rattle.std.specs.declared.option.Option.TheVariants.{None, Some}
use Rattle.outside.specs.Attached.{told_all}
use Rattle.search_terms.specs.Page.{page_next, page_ranks}
use Rattle.search_plan.specs.declared.plan.Plan.{Plan}
use Rattle.wide_product.specs.Sets.{based, wide_passes_at, wide_sets, wide_total, Based}
use Rattle.common_pages.specs.Pages.{ArePageEnds}
use Rattle.page_engine.specs.Reads.{wide_reads_to}
use Rattle.common_pages.specs.declared.page_parts.ListPage.{ListPage}
use Rattle.value_text.specs.SetText.{word_with}
use Rattle.value_text.specs.Spelling.{line, named}
use Rattle.serde_json.specs.Written.{compact_text}
use Rattle.json_lines.specs.Objects.{next_object, set_data}
use Rattle.command_words.specs.declared.command.Form.{Form}
use Rattle.command_words.specs.declared.command.Form.TheVariants.{Text, Json}
use Rattle.plan_jobs.specs.Plans.{OverPlan, many_refusal, plan_job}
use Rattle.plan_jobs.specs.declared.listing.Listing.{Listing}
use Rattle.run_ends.specs.Jobs.{Job}
use Rattle.run_ends.specs.Printing.{share_line}
use Rattle.run_ends.specs.declared.stop.Refusal.{Refusal}
use Rattle.run_ends.specs.declared.stop.Refusal.TheVariants.{Cursor}

-- the first rank asked for is past the total
abbrev pub cursor_refusal : ℕ → Plan → Option Refusal
cursor_refusal from plan = if nat_lt (wide_total plan) from then Some (Cursor (record { from = from; total = wide_total plan })) else None

-- the line of a set and its rank, as text or as JSON
abbrev pub line_in : Form → ℕ → Based → List ℕ
line_in Text rank set = line (named (decimal rank) (word_with set.0 set.1))
line_in Json rank set = line (compact_text (set_data rank set.0.head set.1 set.0.slots.items))

-- the line of where the next page begins, of `total` ranks
abbrev pub next_in : Form → ℕ → ℕ → List ℕ
next_in Text next total = share_line (codes "next ") next total
next_in Json next total = next_object next total

-- the line of the set of a rank
unfoldable pub line_of : Form → Plan → ℕ → List ℕ
line_of form plan rank = option_map_or (line_in form rank) (slice_get (wide_sets plan) rank) []

-- where the page from a rank on goes on
abbrev pub next_of : List (List ℕ) → Plan → ℕ → ℕ → ℕ → ℕ
next_of images plan size span from = page_next (wide_passes_at images plan) (wide_total plan) from size span

-- the page from a rank on: the line of each of its ranks, and where the next page begins
unfoldable pub page_text : Form → List (List ℕ) → Plan → ℕ → ℕ → ℕ → List ℕ
page_text form images plan size span from =
    flat_map (line_of form plan) (page_ranks (wide_passes_at images plan) (wide_total plan) from size span)
    ++ next_in form (next_of images plan size span from) (wide_total plan)

-- `count` pages, each where the last one goes on, or fewer where one goes on at the total
unfoldable pub pages_text : Form → List (List ℕ) → Plan → ℕ → ℕ → ℕ → ℕ → List ℕ
pages_text form images plan size span zero from = []
pages_text form images plan size span (suc count) from =
    page_text form images plan size span from
    ++ (if next_of images plan size span from == wide_total plan then []
    else pages_text form images plan size span count (next_of images plan size span from))

-- what `list` prints
unfoldable pub listing : List (List ℕ) → Plan → Listing → List ℕ
listing images plan asked = pages_text asked.form images plan asked.size asked.span asked.pages asked.from

-- the bytes of a page that was found
unfoldable pub found_text : Form → ListPage → List ℕ
found_text form page = flat_map (λ held. line_in form held.rank (based held.geo)) page.lines ++ next_in form page.next page.total

-- what `list` reads over a plan, by the counts of the sectors read before and after: no more than may be for pages that end where
-- those of the plan do, as the bytes of the images have it; only where the work was cut short may the last be a page that could not
-- be made
pub record ListReads (told : Option (List (List ℕ))) (asked : Listing) (plan : Plan) (cut : Bool) (before after : ℕ) : Type 0 where
  pub ends : List ℕ
  pub are : ArePageEnds told plan asked.size asked.span cut asked.pages asked.from ends
  pub few : after ≤ before + wide_reads_to told plan asked.from ends

-- what `list` does over a plan
abbrev pub list_over : Listing → OverPlan
list_over asked = record {
  further = λ names attached plan. many_refusal plan ∷ cursor_refusal asked.from plan ∷ [];
  text = λ images plan. listing images plan asked;
  MayRead = λ attached plan cut before after. ListReads (told_all attached) asked plan cut before after;
}

-- `list`
abbrev pub list_job : Listing → Job
list_job asked = plan_job (list_over asked)
