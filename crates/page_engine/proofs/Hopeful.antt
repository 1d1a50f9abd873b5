-- Hopeful sets: those of a part, and those of its plan.
use Rattle.std.proofs.Common.{rules, ℕ, zero, suc, ◌≡◌, ◌+◌, ◌-◌, ◌*◌, ◌/◌, ◌<◌, ◌≤◌, min, not, ◌&&◌, ◌||◌, nat_le, Bool, true, false, List, [], ◌∷◌, length, take, drop, count_by, refl, sym, ap, ap₂, ◌∙◌, arith, Option, Some, None, slice_get, slice_range, get_or, cond}
use Rattle.std.proofs.lemmas.List.{length-drop}
use Rattle.std.proofs.lemmas.List.Sums.{sum_by-cons}
use Rattle.std.proofs.lemmas.Option.{slice_get_within, slice_get-get_or}
use Rattle.std.specs.List.{list_all, range_with_len}
use Rattle.std.specs.Option.{option_map, option_map_or}
use Rattle.candidate_enum.specs.Survivors.{all_admitted}
use Rattle.head_walk.specs.Counts.{hopeful_ranks, is_decided, is_hopeful_at, is_open_at, most_scanned, open_ranks}
use Rattle.mark_tables.specs.Marks.{groups_may_hold, may_hold}
use Rattle.padded_images.specs.Plans.{padded_plan}
use Rattle.common_pages.specs.Pages.{page_reads, scans, table_reads}
use Rattle.prune_filters.specs.Hopeful.{is_hopeful}
use Rattle.raid_params.specs.Size.{rows}
use Rattle.raid_params.specs.declared.types.Geometry.{Geometry}
use Rattle.raid_params.specs.declared.types.Head.{Head}
use Rattle.raid_params.specs.declared.types.Level.{Level}
use Rattle.raid_params.specs.declared.types.Level.TheVariants.{Raid0, Raid5, Raid6}
use Rattle.plan_sets.specs.Sets.{sets_of}
use Rattle.search_plan.specs.declared.plan.Plan.{Plan}
use Rattle.slot_math.specs.Space.{lists_of}
use Rattle.wide_product.proofs.Aligned.{Aligned}
use Rattle.wide_product.specs.PaddedParts.{part_plan, padded_for, IsPaddedPart}
use Rattle.wide_product.specs.Parts.{IsPartOf}
use Rattle.wide_product.specs.Sets.{padded_bytes, Based}
use Rattle.wide_product.specs.declared.padded_part.PaddedPart.{PaddedPart}
use Rattle.wide_product.specs.declared.parts.Part.{Part}
use Rattle.page_engine.specs.Reads.{is_hopeful_set, is_open_set, part_reads, scans_of}
use Rattle.xor_tables.specs.Rows.{broken_rows, holds_every, rows_may_hold}

all_same : {A : Type 0} (p q : A → Bool) (xs : List A) → ((x : A) → p x ≡ q x) → list_all p xs ≡ list_all q xs
all_same p q [] e = refl
all_same p q (x ∷ xs) e = ap₂ (λ (a b : Bool). a && b) (e x) (all_same p q xs e)

-- the rows that are known to break do not depend on which other chunks and offsets a plan has
broken_same : (level : Level) (images : List (List ℕ)) (plan : Plan) (head : Head) (bases : List ℕ) (prefix : List (Option ℕ)) → broken_rows level images (padded_for plan head bases) head prefix ≡ broken_rows level images (padded_plan bases plan) head prefix
unfolding broken_rows
broken_same Raid0 images plan head bases prefix = refl
broken_same Raid5 images plan head bases prefix = refl
broken_same Raid6 images plan head bases prefix = refl

rows_same : (images : List (List ℕ)) (plan : Plan) (head : Head) (bases : List ℕ) (prefix : List (Option ℕ)) → rows_may_hold images (padded_for plan head bases) head prefix ≡ rows_may_hold images (padded_plan bases plan) head prefix
unfolding rows_may_hold
rows_same images plan head bases prefix = ap (λ (n : ℕ). not (holds_every (padded_plan bases plan) head) || nat_le n plan.limits.badrows) (broken_same head.level images plan head bases prefix)

-- nor does what the marks let hold
pub groups_same : (plan : Plan) (head : Head) (bases : List ℕ) (prefix : List (Option ℕ)) → groups_may_hold (padded_for plan head bases) head prefix ≡ groups_may_hold (padded_plan bases plan) head prefix
unfolding groups_may_hold may_hold
groups_same plan head bases prefix =
    all_same (may_hold (padded_for plan head bases) head prefix) (may_hold (padded_plan bases plan) head prefix) (padded_plan bases plan).groups (λ group. refl)

-- so a prefix is hopeful for the one plan where it is for the other
pub hopeful_same : (images : List (List ℕ)) (plan : Plan) (head : Head) (bases : List ℕ) (prefix : List (Option ℕ)) → is_hopeful images (padded_for plan head bases) head prefix ≡ is_hopeful images (padded_plan bases plan) head prefix
hopeful_same images plan head bases prefix =
    ap₂ (λ (a b : Bool). nat_le 1 (rows head plan.end) && (a && b)) (groups_same plan head bases prefix) (rows_same images plan head bases prefix)

admitted_same : (images : List (List ℕ)) (plan : Plan) (head : Head) (bases : List ℕ) (slots : List (Option ℕ)) → all_admitted (is_hopeful images (padded_for plan head bases) head) slots ≡ all_admitted (is_hopeful images (padded_plan bases plan) head) slots
unfolding all_admitted
admitted_same images plan head bases slots =
    all_same (λ k. is_hopeful images (padded_for plan head bases) head (take k slots)) (λ k. is_hopeful images (padded_plan bases plan) head (take k slots)) (range_with_len 0 (length slots + 1)) (λ k. hopeful_same images plan head bases (take k slots))

-- counts over ranks and over what stands there
count_there : {A : Type 0} (p : ℕ → Bool) (q : A → Bool) (from n : ℕ) (xs : List A) → n ≤ length xs → ((k : ℕ) (x : A) → slice_get xs k ≡ Some x → p (from + k) ≡ q x) → count_by p (range_with_len from n) ≡ count_by q (take n xs)
count_there p q from zero xs within same = refl
count_there p q from (suc n) [] within same = absurd (omega arith)
count_there {A} p q from (suc n) (x ∷ xs) within same =
    let here : p from ≡ q x = ap p (let e : from ≡ from + 0 = omega arith in e) ∙ same 0 x refl in
    let rest = count_there p q (from + 1) n xs (omega arith) (λ k y at. ap p (let e : from + 1 + k ≡ from + suc k = omega arith in e) ∙ same (suc k) y at) in
    sum_by-cons (λ r. cond (p r) 1 0) from (range_with_len (from + 1) n)
    ∙ ap₂ (λ (b : Bool) (m : ℕ). cond b 1 0 + m) here rest
    ∙ sym (sum_by-cons (λ y. cond (q y) 1 0) x (take n xs))

get_dropped : {A : Type 0} (n k : ℕ) (xs : List A) → slice_get (drop n xs) k ≡ slice_get xs (n + k)
get_dropped zero k xs = ap (slice_get xs) (let e : k ≡ zero + k = omega arith in e)
get_dropped (suc n) k [] = refl
get_dropped (suc n) k (x ∷ xs) = get_dropped n k xs ∙ ap (slice_get (x ∷ xs)) (let e : suc (n + k) ≡ suc n + k = omega arith in e)

some_same : {A : Type 0} (x y : A) → (let l : Option A = Some x in let r : Option A = Some y in l ≡ r) → x ≡ y
some_same {A} x y e = search rules

-- the set of a part at a place, and the one of the part's plan
record IsPair (plan : Plan) (part : Part) (made : PaddedPart) (k : ℕ) (set : Based) : Type 0 where
  slots : List (Option ℕ)
  is : (record { head = part.head; slots = record { items = slots } }, part.bases.items) ≡ set
  at : slice_get (sets_of (part_plan plan part)) (made.first + k) ≡ Some (record { head = part.head; slots = record { items = slots } })

is_pair : (plan : Plan) (part : Part) (made : PaddedPart) (own : Aligned plan part) (k : ℕ) (set : Based) → IsPartOf plan part → IsPaddedPart plan part made → slice_get own.own k ≡ Some set → IsPair plan part made k set
is_pair plan part made own k set is is_padded here =
    let within = slice_get_within own.own k set here in
    let count = own.count in
    let lists = is.count in
    let slots = get_or (lists_of part.space) k [] in
    let at = slice_get-get_or (lists_of part.space) k [] (let e : k < length (lists_of part.space) = omega arith in e) in
    let there : Based = (record { head = part.head; slots = record { items = get_or (lists_of part.space) k [] } }, part.bases.items) in
    record {
      slots = get_or (lists_of part.space) k [];
      is = some_same there set (sym (own.stand k slots at) ∙ here);
      at = sym (ap (λ (p : Plan). slice_get (sets_of p) (made.first + k)) is_padded.is) ∙ is_padded.stand k slots at;
    }

hopeful_there : (told : Option (List (List ℕ))) (plan : Plan) (part : Part) (made : PaddedPart) (k : ℕ) (set : Based) → IsPair plan part made k set → is_hopeful_at (option_map (padded_bytes part.bases.items) told) (part_plan plan part) (made.first + k) ≡ is_hopeful_set told plan set
unfolding is_hopeful_at is_hopeful_set
hopeful_there None plan part made k set pair = refl
hopeful_there (Some images) plan part made k set pair =
    let padded = part_plan plan part in
    ap (λ (o : Option Geometry). option_map_or (λ geo. all_admitted (is_hopeful (padded_bytes part.bases.items images) (part_plan plan part) geo.head) geo.slots.items) o false) pair.at
    ∙ admitted_same (padded_bytes part.bases.items images) plan part.head part.bases.items pair.slots
    ∙ ap (λ (s : Based). all_admitted (is_hopeful (padded_bytes s.1 images) (padded_plan s.1 plan) s.0.head) s.0.slots.items) pair.is

open_there : (told : Option (List (List ℕ))) (plan : Plan) (part : Part) (made : PaddedPart) (k : ℕ) (set : Based) → IsPair plan part made k set → is_open_at (option_map (padded_bytes part.bases.items) told) (part_plan plan part) (made.first + k) ≡ is_open_set told plan set
unfolding is_open_at is_open_set
open_there told plan part made k set pair =
    ap₂ (λ (a b : Bool). a && not b) (hopeful_there told plan part made k set pair)
    (ap (λ (o : Option Geometry). option_map_or (is_decided (part_plan plan part)) o true) pair.at
    ∙ ap (λ (s : Based). is_decided (padded_plan s.1 plan) s.0) pair.is)

-- the scans of some ranks of a part's plan are those of the part's sets there
scans_same : (told : Option (List (List ℕ))) (plan : Plan) (part : Part) (made : PaddedPart) (own : Aligned plan part) (from to : ℕ) → IsPartOf plan part → IsPaddedPart plan part made → from ≤ to → to ≤ length own.own →
    scans (option_map (padded_bytes part.bases.items) told) (part_plan plan part) (made.first + from) (made.first + to) ≡ scans_of told plan (slice_range own.own from to)
unfolding scans scans_of hopeful_ranks open_ranks
scans_same told plan part made own from to is is_padded low high =
    let left = length-drop from own.own in
    let span : made.first + to - (made.first + from) ≡ to - from = omega arith in
    let hopeful : count_by (is_hopeful_at (option_map (padded_bytes part.bases.items) told) (part_plan plan part)) (range_with_len (made.first + from) (made.first + to - (made.first + from))) ≡ count_by (is_hopeful_set told plan) (slice_range own.own from to) =
    ap (λ (n : ℕ). count_by (is_hopeful_at (option_map (padded_bytes part.bases.items) told) (part_plan plan part)) (range_with_len (made.first + from) n)) span
    ∙ count_there (is_hopeful_at (option_map (padded_bytes part.bases.items) told) (part_plan plan part)) (is_hopeful_set told plan) (made.first + from) (to - from) (drop from own.own) (omega arith)
    (λ k set at. ap (is_hopeful_at (option_map (padded_bytes part.bases.items) told) (part_plan plan part)) (let e : made.first + from + k ≡ made.first + (from + k) = omega arith in e)
    ∙ hopeful_there told plan part made (from + k) set (is_pair plan part made own (from + k) set is is_padded (sym (get_dropped from k own.own) ∙ at))) in
    let open_ones : count_by (is_open_at (option_map (padded_bytes part.bases.items) told) (part_plan plan part)) (range_with_len (made.first + from) (made.first + to - (made.first + from))) ≡ count_by (is_open_set told plan) (slice_range own.own from to) =
    ap (λ (n : ℕ). count_by (is_open_at (option_map (padded_bytes part.bases.items) told) (part_plan plan part)) (range_with_len (made.first + from) n)) span
    ∙ count_there (is_open_at (option_map (padded_bytes part.bases.items) told) (part_plan plan part)) (is_open_set told plan) (made.first + from) (to - from) (drop from own.own) (omega arith)
    (λ k set at. ap (is_open_at (option_map (padded_bytes part.bases.items) told) (part_plan plan part)) (let e : made.first + from + k ≡ made.first + (from + k) = omega arith in e)
    ∙ open_there told plan part made (from + k) set (is_pair plan part made own (from + k) set is is_padded (sym (get_dropped from k own.own) ∙ at))) in
    ap₂ (λ (a b : ℕ). min a ((b + 4095) / 4096)) open_ones hopeful

-- what is read for sets that begin with this one
of_first : (told : Option (List (List ℕ))) (plan : Plan) (sets : List Based) (set : Based) → slice_get sets 0 ≡ Some set →
    part_reads told plan sets ≡ table_reads (padded_for plan set.0.head set.1) + scans_of told plan sets * most_scanned (padded_for plan set.0.head set.1)
unfolding part_reads
of_first told plan [] set at = absurd (search rules)
of_first told plan (first ∷ sets) set at =
    ap (λ (s : Based). table_reads (padded_for plan s.0.head s.1) + scans_of told plan (first ∷ sets) * most_scanned (padded_for plan s.0.head s.1)) (some_same first set at)

-- what is read for a page of some ranks of a part's plan is what may be read for the part's sets there
pub reads_there : (told : Option (List (List ℕ))) (plan : Plan) (part : Part) (made : PaddedPart) (own : Aligned plan part) (from to : ℕ) → IsPartOf plan part → IsPaddedPart plan part made → from < to → to ≤ length own.own →
    page_reads (option_map (padded_bytes part.bases.items) told) (part_plan plan part) (made.first + from) (made.first + to) ≡ part_reads told plan (slice_range own.own from to)
unfolding page_reads
reads_there told plan part made own from to is is_padded low high =
    let count = own.count in
    let lists = is.count in
    let slots = get_or (lists_of part.space) from [] in
    let at = slice_get-get_or (lists_of part.space) from [] (let e : from < length (lists_of part.space) = omega arith in e) in
    let set : Based = (record { head = part.head; slots = record { items = slots } }, part.bases.items) in
    let first : slice_get (slice_range own.own from to) 0 ≡ Some set =
    get_taken (to - from) (drop from own.own) (omega arith) ∙ get_dropped from 0 own.own ∙ ap (slice_get own.own) (let e : from + 0 ≡ from = omega arith in e) ∙ own.stand from slots at in
    ap (λ (n : ℕ). table_reads (part_plan plan part) + n * most_scanned (part_plan plan part)) (scans_same told plan part made own from to is is_padded (omega arith) high)
    ∙ sym (of_first told plan (slice_range own.own from to) set first)
  where
    get_taken : {A : Type 0} (n : ℕ) (xs : List A) → 0 < n → slice_get (take n xs) 0 ≡ slice_get xs 0
    get_taken zero xs some = absurd (omega arith)
    get_taken (suc n) [] some = refl
    get_taken (suc n) (x ∷ xs) some = refl
