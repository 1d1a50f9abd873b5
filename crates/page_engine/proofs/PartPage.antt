-- The page of a part from that of its plan over padded images.
use Rattle.std.proofs.Common.{ℕ, ◌≡◌, ◌+◌, ◌-◌, ◌*◌, ◌<◌, ◌≤◌, ◌⊎◌, inl, inr, Bool, true, if◌then◌else◌, List, [], ◌∷◌, ◌++◌, length, map, filter, take, get_or, replicate, refl, sym, ap, ◌∙◌, arith, subst, length-append, Option, Some, None, IfSome, option_and_then}
use Rattle.std.proofs.lemmas.Bool.{cases_lt, le-leb}
use Rattle.std.proofs.lemmas.List.{length-map, take_all}
use Rattle.std.proofs.lemmas.Option.{slice_get-get_or}
use Rattle.std.specs.List.{range_with_len, AllByRecursion}
use Rattle.std.specs.Option.{option_map}
use Rattle.head_walk.specs.declared.parts.Line.{Line}
use Rattle.outside.specs.Attached.{told_all}
use Rattle.outside.specs.Seen.{Image}
use Rattle.image_padding.specs.Padded.{greatest_base, padded_images, padded_to}
use Rattle.common_pages.specs.Pages.{EndsOrFull, IsPageFrom, IsPageOf, ranks_of}
use Rattle.common_pages.specs.declared.page_parts.ListPage.{ListPage}
use Rattle.page_loop.specs.Parts.{Whole}
use Rattle.search_plan.specs.declared.plan.Plan.{Plan}
use Rattle.search_terms.proofs.Pages.{spans}
use Rattle.search_terms.specs.Page.{passing, stop_of, IsPage}
use Rattle.slot_math.proofs.Listed.{each_get, each_kept}
use Rattle.wide_product.specs.PaddedParts.{IsPaddedPart}
use Rattle.wide_product.specs.Parts.{IsPartOf}
use Rattle.wide_product.specs.Sets.{bytes_to, padded_bytes, wide_passes_at, wide_total}
use Rattle.wide_product.specs.declared.padded_part.PaddedPart.{PaddedPart}
use Rattle.wide_product.specs.declared.parts.Part.{Part}
use Rattle.page_engine.proofs.Shifted.{part_within, passes_there, ranks_move}
use Rattle.page_engine.specs.Lines.{AddsPadded, padded_ranks}
use Rattle.page_engine.specs.Parts.{GathersPart}

-- the known bytes of padded images
told_to : (greatest : ℕ) (bases : List ℕ) (images : List Image) → told_all (padded_to greatest bases images) ≡ option_map (bytes_to greatest bases) (told_all images)
told_to greatest [] images = same (told_all images)
  where
    same : (o : Option (List (List ℕ))) → o ≡ option_map (λ l. l) o
    same None = refl
    same (Some l) = refl
told_to greatest (base ∷ bases) [] = refl
told_to greatest (base ∷ bases) (image ∷ images) =
    ap (λ (o : Option (List (List ℕ))). option_and_then (λ bytes. option_map (λ others. bytes ∷ others) o) (option_map (λ bytes. replicate (512 * (greatest - base)) 0 ++ bytes) image.bytes)) (told_to greatest bases images)
    ∙ by image.bytes (told_all images)
  where
    by : (bytes : Option (List ℕ)) (rest : Option (List (List ℕ))) →
        option_and_then (λ own. option_map (λ others. own ∷ others) (option_map (bytes_to greatest bases) rest)) (option_map (λ own. replicate (512 * (greatest - base)) 0 ++ own) bytes)
        ≡ option_map (bytes_to greatest (base ∷ bases)) (option_and_then (λ own. option_map (λ others. own ∷ others) rest) bytes)
    by None rest = refl
    by (Some own) None = refl
    by (Some own) (Some rest) = refl

pub told_padded : (bases : List ℕ) (images : List Image) → told_all (padded_images bases images) ≡ option_map (padded_bytes bases) (told_all images)
told_padded bases images = told_to (greatest_base bases) bases images

each_any : {A : Type 0} (P : A → Type 0) → ((x : A) → P x) → (xs : List A) → AllByRecursion P xs
each_any P h [] = tt
each_any P h (x ∷ xs) = (h x, each_any P h xs)

-- the last rank of a page that is full passes
last_passes : (p : ℕ → Bool) (total from size span : ℕ) (lines : List ℕ) (next : ℕ) → 1 ≤ size → IsPage p total from size span lines next → length lines ≡ size → p (next - 1) ≡ true
last_passes p total from size span lines next one page many =
    let found = passing p from (stop_of total from span) in
    let front = page.front in
    let enough : size ≤ length (passing p from (stop_of total from span)) = enough_of (passing p from (stop_of total from span)) size lines front many in
    let on : next ≡ get_or (passing p from (stop_of total from span)) (size - 1) 0 + 1 = page.goes_on ∙ ap (λ (b : Bool). if b then get_or found (size - 1) 0 + 1 else stop_of total from span) (le-leb size (length found) enough) in
    let last : next - 1 ≡ get_or (passing p from (stop_of total from span)) (size - 1) 0 = omega arith in
    ap p last
    ∙ (each_get (λ (n : ℕ). Unit {0} × (p n ≡ true)) (passing p from (stop_of total from span)) (size - 1) (get_or (passing p from (stop_of total from span)) (size - 1) 0)
    (each_kept (λ (n : ℕ). Unit {0}) p (range_with_len from (stop_of total from span - from)) (each_any (λ (n : ℕ). Unit {0}) (λ n. tt) (range_with_len from (stop_of total from span - from))))
    (slice_get-get_or (passing p from (stop_of total from span)) (size - 1) 0 (let e : size - 1 < length (passing p from (stop_of total from span)) = omega arith in e))).1
  where
    enough_of : (xs : List ℕ) (n : ℕ) (ys : List ℕ) → ys ≡ take n xs → length ys ≡ n → n ≤ length xs
    enough_of xs n ys e long = elim (cases_lt (length xs) n) [
      | inl less ↦ (let same = take_all n xs (omega arith) in let all : length ys ≡ length xs = ap length (e ∙ same) in absurd (omega arith))
      | inr fits ↦ fits
    ]

-- the page of a part's plan, as ranks of the product
pub gathers : (told : Option (List (List ℕ))) (plan : Plan) (part : Part) (made : PaddedPart) (found : ListPage) (size missing from stop next : ℕ) (old new : List Line) →
    IsPartOf plan part → IsPaddedPart plan part made → part.first ≤ from → from < stop → stop ≤ part.first + part.count → length old < size → missing ≡ size - length old →
    IsPageFrom (option_map (padded_bytes part.bases.items) told) made.plan (made.first + (from - part.first)) missing (stop - from) found →
    EndsOrFull missing (made.first + (from - part.first)) (stop_of (wide_total made.plan) (made.first + (from - part.first)) (stop - from)) (length found.lines) found.next →
    AddsPadded part made.first found.lines old new → next ≡ part.first + (found.next - made.first) → GathersPart told plan size from stop old new next
gathers told plan part made found size missing from stop next old new is is_padded low range high room missing_is page ended adds next_is =
    let end = part_within plan part made is_padded in
    let within = page.within in
    let most = adds.most in
    let stop_is : stop_of (wide_total made.plan) (made.first + (from - part.first)) (stop - from) ≡ made.first + (stop - part.first) = omega arith in
    record {
      whole = of_told told page.page;
      sets = adds.sets plan made is is_padded refl page.sets;
      ended = by_end ended;
      within = omega arith;
      most = fewer ended;
    }
  where
    by_end : EndsOrFull missing (made.first + (from - part.first)) (stop_of (wide_total made.plan) (made.first + (from - part.first)) (stop - from)) (length found.lines) found.next → (next ≡ stop) ⊎ (from < next)
    by_end (inl (at, few)) = let end = part_within plan part made is_padded in inl (omega arith)
    by_end (inr (on, many)) = inr (omega arith)

    fewer : EndsOrFull missing (made.first + (from - part.first)) (stop_of (wide_total made.plan) (made.first + (from - part.first)) (stop - from)) (length found.lines) found.next → length new ≤ size
    fewer (inl (at, few)) = let most = adds.most in omega arith
    fewer (inr (on, many)) = let most = adds.most in omega arith

    of_told : (known : Option (List (List ℕ))) → IfSome (option_map (padded_bytes part.bases.items) known) (λ bytes. IsPageOf bytes made.plan (made.first + (from - part.first)) missing (stop - from) found) →
        IfSome known (λ bytes. Whole (Some (wide_passes_at bytes plan)) size from (ranks_of old) (ranks_of new) stop next)
    of_told None is_page = tt
    of_told (Some bytes) is_page =
        let p = wide_passes_at (padded_bytes part.bases.items bytes) made.plan in
        let q = wide_passes_at bytes plan in
        let a = made.first + (from - part.first) in
        let end = part_within plan part made is_padded in
        let within = page.within in
        let span = (spans p (wide_total made.plan) (made.first + (from - part.first)) missing (stop - from) (map (λ (held : Line). held.rank) found.lines) found.next (omega arith) (omega arith) is_page).0 in
        let forward = span.forward in
        let b : from ≡ part.first + (made.first + (from - part.first) - made.first) = omega arith in
        let ranks = ranks_move part made.first p q (made.first + (from - part.first)) from (found.next - (made.first + (from - part.first))) (omega arith) (omega arith) b (passes_there plan part made is_padded bytes) in
        let counts : next - from ≡ found.next - (made.first + (from - part.first)) = omega arith in
        let passed : passing q from next ≡ filter q (range_with_len from (found.next - (made.first + (from - part.first)))) = ap (λ (n : ℕ). filter q (range_with_len from n)) counts in
        let added : ranks_of new ≡ ranks_of old ++ passing (wide_passes_at bytes plan) from next =
        adds.ranks ∙ ap (λ (l : List ℕ). ranks_of old ++ l) (ap (padded_ranks part made.first) span.whole ∙ ranks.0 ∙ sym passed) in
        let long : length (passing (wide_passes_at bytes plan) from next) ≡ length found.lines = ap length passed ∙ ranks.1 ∙ ap length (sym span.whole) ∙ length-map found.lines (λ (held : Line). held.rank) in
        let all : length (ranks_of new) ≡ length (ranks_of old) + length (passing (wide_passes_at bytes plan) from next) = ap length added ∙ length-append (ranks_of old) (passing q from next) in
        let had : length (ranks_of old) ≡ length old = length-map old (λ (held : Line). held.rank) in
        by_case bytes added all long had is_page ended
      where
        by_case : (bytes : List (List ℕ)) → ranks_of new ≡ ranks_of old ++ passing (wide_passes_at bytes plan) from next → length (ranks_of new) ≡ length (ranks_of old) + length (passing (wide_passes_at bytes plan) from next) →
            length (passing (wide_passes_at bytes plan) from next) ≡ length found.lines → length (ranks_of old) ≡ length old → IsPageOf (padded_bytes part.bases.items bytes) made.plan (made.first + (from - part.first)) missing (stop - from) found →
            EndsOrFull missing (made.first + (from - part.first)) (stop_of (wide_total made.plan) (made.first + (from - part.first)) (stop - from)) (length found.lines) found.next →
            Whole (Some (wide_passes_at bytes plan)) size from (ranks_of old) (ranks_of new) stop next
        by_case bytes added all long had is_page (inl (at, few)) =
            let end = part_within plan part made is_padded in
            let within = page.within in
            let stops : next ≡ stop = omega arith in
            let P : ℕ → Type 0 = λ n. ranks_of new ≡ ranks_of old ++ passing (wide_passes_at bytes plan) from n in
            inl (stops, subst P stops added, omega arith)
        by_case bytes added all long had is_page (inr (on, many)) =
            let end = part_within plan part made is_padded in
            let within = page.within in
            let p = wide_passes_at (padded_bytes part.bases.items bytes) made.plan in
            let last = last_passes p (wide_total made.plan) (made.first + (from - part.first)) missing (stop - from) (map (λ (held : Line). held.rank) found.lines) found.next (omega arith) is_page (length-map found.lines (λ (held : Line). held.rank) ∙ many) in
            inr (record {
              forward = omega arith;
              within = omega arith;
              added = added;
              last =
                  ap (wide_passes_at bytes plan) (let e : next - 1 ≡ part.first + (found.next - 1 - made.first) = omega arith in e)
                  ∙ sym (passes_there plan part made is_padded bytes (found.next - 1 - made.first) (omega arith))
                  ∙ ap p (let e : made.first + (found.next - 1 - made.first) ≡ found.next - 1 = omega arith in e)
                  ∙ last;
              many = omega arith;
            })
