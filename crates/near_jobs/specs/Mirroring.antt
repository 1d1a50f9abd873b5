-- What `mirrors` refuses and prints.
use Rattle.std.specs.Prelude.{ℕ, ◌≡◌, ◌≤◌, ◌<◌, ◌+◌, ◌-◌, ◌*◌, ◌^◌, Bool, false, nat_le, nat_lt, if◌then◌else◌, IfSome, IsTrue, List, [], ◌∷◌, ◌++◌, length, codes, slice_get, All}
use Rattle.std.specs.List.{flat_map}
use Rattle.std.specs.Option.{option_map, option_map_or}
use Rattle.std.specs.declared.option.Option.{Option}
use Rattle.std.specs.declared.option.Option.TheVariants.{None, Some}
use Rattle.outside.specs.Attached.{told_all}
use Rattle.outside.specs.Causes.{Rose}
use Rattle.outside.specs.Seen.{Image, Seen}
use Rattle.raid_params.specs.Validity.{is_chunk}
use Rattle.raid_params.specs.declared.limits.TheConstants.{MOST}
use Rattle.search_terms.specs.Page.{page_next, page_ranks, stop_of}
use Rattle.near_mirror.specs.Heads.{are_copies, has_members}
use Rattle.near_mirror.specs.Words.{near_line}
use Rattle.near_search.specs.Product.{near_product, near_total, passes_at}
use Rattle.near_search.specs.Walk.{near_cost}
use Rattle.near_search.specs.declared.ask.NearAsk.{NearAsk}
use Rattle.run_ends.specs.Agreement.{end_of, limits_fault}
use Rattle.run_ends.specs.Jobs.{Job}
use Rattle.run_ends.specs.Pieces.Pieces.{Sectors}
use Rattle.run_ends.specs.Printing.{share_line}
use Rattle.run_ends.specs.Stops.{first_of}
use Rattle.run_ends.specs.declared.stop.Refusal.{Refusal}
use Rattle.run_ends.specs.declared.stop.Refusal.TheVariants.{Cursor, Images, Many}
use Rattle.run_ends.specs.declared.stop.Stop.{Stop}
use Rattle.run_ends.specs.declared.stop.Stop.TheVariants.{ImageFault, OutOfMemory, Refused}
use Rattle.asked_values.specs.Asked.{members_for, window_for}
use Rattle.near_jobs.specs.declared.mirroring.MirrorWords.{MirrorWords}

-- what the words of `mirrors` may ask
pub record AreMirrorWords (asked : MirrorWords) : Type 0 where
  pub layouts : All (λ layout. IsTrue (are_copies layout.copies)) asked.layouts.items
  pub members : All (λ members. IsTrue (has_members members)) asked.members.items
  pub chunks : All (λ chunk. IsTrue (is_chunk chunk)) asked.chunks.items
  pub offsets : All (λ offset. offset < 2 ^ 55) asked.offsets.items
  pub missing : asked.missing ≤ MOST - 1
  pub foreign : asked.foreign ≤ MOST
  pub end : IfSome asked.end (λ sector. sector < 2 ^ 55)
  pub size : 1 ≤ asked.size

-- what the words ask of a search over `names` images, whose members end before the image sector `end`
abbrev pub ask_of : MirrorWords → ℕ → ℕ → NearAsk
ask_of asked names end = record {
  layouts = asked.layouts;
  members = record { items = members_for asked.members.items names };
  chunks = asked.chunks;
  offsets = asked.offsets;
  missing = asked.missing;
  foreign = asked.foreign;
  badrows = asked.badrows;
  window = window_for asked.window end;
  end = end;
}

-- there are more sets than ranks, or the first rank is past the total
abbrev pub product_refusal : ℕ → NearAsk → ℕ → Option Refusal
product_refusal images ask from =
    if nat_le (2 ^ 64) (near_total images ask) then Some Many
    else if nat_lt (near_total images ask) from then Some (Cursor (record { from = from; total = near_total images ask }))
    else None

-- the first refusal of `mirrors`: the images, then the product and the cursor
unfoldable pub mirrors_refusal : MirrorWords → ℕ → List Image → Option Refusal
mirrors_refusal asked names attached =
    first_of (option_map (λ fault. Images fault) (limits_fault asked.end names attached)
    ∷ product_refusal (length attached) (ask_of asked names (end_of asked.end attached)) asked.from
    ∷ [])

-- the line of the set of a rank
abbrev pub rank_line : ℕ → NearAsk → ℕ → List ℕ
rank_line images ask rank = option_map_or (near_line rank) (slice_get (near_product images ask) rank) []

-- the lines of a page, and where the next one begins
unfoldable pub mirrors_text : List (List ℕ) → ℕ → NearAsk → ℕ → ℕ → ℕ → List ℕ
mirrors_text bytes images ask from size span =
    flat_map (rank_line images ask) (page_ranks (passes_at bytes images ask) (near_total images ask) from size span)
    ++ share_line (codes "next ") (page_next (passes_at bytes images ask) (near_total images ask) from size span) (near_total images ask)

-- what `mirrors` prints, where the bytes of the images are known
unfoldable pub mirrors_output : MirrorWords → ℕ → List Image → Option (List (List ℕ)) → Option (List ℕ)
mirrors_output asked names attached told =
    option_map (λ bytes. mirrors_text bytes (length attached) (ask_of asked names (end_of asked.end attached)) asked.from asked.size asked.span) told

-- the rank up to which sets are tested for a page: where the next one begins, or the end of the range where the work was cut short, or
-- the bytes of the images are not known
abbrev pub tested_end : Option (List (List ℕ)) → ℕ → NearAsk → ℕ → ℕ → ℕ → Bool → ℕ
tested_end told images ask from size span cut =
    if cut then stop_of (near_total images ask) from span
    else option_map_or (λ bytes. page_next (passes_at bytes images ask) (near_total images ask) from size span) told (stop_of (near_total images ask) from span)

-- the most sectors that are read for it: each image at most once for each head of which a rank is tested
abbrev pub page_reads : Option (List (List ℕ)) → ℕ → NearAsk → ℕ → ℕ → ℕ → Bool → ℕ
page_reads told images ask from size span cut = images * near_cost images ask from (tested_end told images ask from size span cut)

abbrev pub mirrors_reads : MirrorWords → List Image → Bool → ℕ
mirrors_reads asked attached cut =
    page_reads (told_all attached) (length attached) (ask_of asked (length attached) (end_of asked.end attached)) asked.from asked.size asked.span cut

-- `mirrors`: it takes no text, and puts nothing before its page is whole
abbrev pub mirrors_job : MirrorWords → Job
mirrors_job asked = record {
  Said = Unit {0};
  Says = λ left said. Unit {0};
  most = None;
  early = λ given. None;
  streams = false;
  pieces = Sectors;
  apart = false;
  refused = λ said given. mirrors_refusal asked given.names given.attached;
  printed = λ said given. mirrors_output asked given.names given.attached (told_all given.attached);
  MayRead = λ said given cut before after. after ≤ before + mirrors_reads asked given.attached cut;
}

-- why there is no page: it is refused, and nothing was touched; the images failed; or memory ran out, and no fault was counted
abbrev pub EndsMirrors : Seen → Seen → Stop → Type 0
EndsMirrors old new (Refused refusal) = new ≡ old
EndsMirrors old new ImageFault = Rose old.faults new.faults
EndsMirrors old new OutOfMemory = new.faults ≡ old.faults
EndsMirrors old new _ = ⊥
