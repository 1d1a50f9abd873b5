-- What is kept of offsets.
use Rattle.std.proofs.Common.{ℕ, zero, suc, ◌≡◌, ◌<◌, ◌≤◌, ◌+◌, ◌*◌, min, ◌||◌, ◌==◌, Bool, true, false, if◌then◌else◌, cond, List, [], ◌∷◌, ◌++◌, length, length-append, get_or, refl, sym, ap, ap₂, ◌∙◌, arith, Option, Some, None, IfSome, Result, Ok, Err, IsErr, All, Contains, slice_get, inl, inr, subst}
use Rattle.std.specs.List.{list_any, position, position_from, slice_index, slice_index_or, sum_by}
use Rattle.std.proofs.lemmas.Bool.{cases_Bool, cases_lt, eq-eqb, eqb-true}
use Rattle.std.proofs.Math.Seq.{get_or-append_seam}
use Rattle.std.proofs.lemmas.List.{get_or_append_left}
use Rattle.std.proofs.lemmas.Iterator.Adapters.{position_from-zero}
use Rattle.std.proofs.lemmas.List.Folds.{list_any-append, list_any_at}
use Rattle.std.proofs.lemmas.List.Quantifiers.{position-Some}
use Rattle.std.proofs.lemmas.List.Sums.{sum_by-cons, sum_by-le-sum_by}
use Rattle.std.proofs.lemmas.Option.{get_or_from_slice_get, slice_get-get_or, slice_get_within}
use Rattle.outside.proofs.Reading.{reads_up}
use Rattle.outside.specs.Seen.{OnlyReads, Seen}
use Rattle.raid_params.specs.declared.types.Head.{Head}
use Rattle.search_terms.specs.Product.{heads}
use Rattle.search_plan.specs.declared.plan.Plan.{Plan}
use Rattle.row_samples.specs.Rows.{most_kept}
use Rattle.prune_filters.specs.Rows.{needs_samples, needs_table}
use Rattle.prune_filters.specs.Early.{AreEarlyTables, HasEarlyTable, IsEarlyTable}
use Rattle.prune_filters.specs.Xors.{most_tested, RowTable}
use Rattle.prune_filters.specs.Paces.{pace_at, pace_of, paces_of}
use Rattle.xor_tables.proofs.Paces.{pace_stands}
use Rattle.xor_tables.specs.declared.pace.Pace.{Pace}
use Rattle.head_walk.specs.Counts.{asks_samples, asks_tables, offset_reads}
use Rattle.head_walk.specs.Walk.{has_entry, left_after, left_reads, needs_entry, IsKept, Spends}
use Rattle.head_walk.specs.declared.row_tables.OffsetTables.{OffsetTables}

-- one of two is enough
pub or_true : (a b : Bool) → b ≡ true → (a || b) ≡ true
or_true true b e = refl
or_true false b e = e

-- nothing is found where nothing passes
none_from : {X : Type 0} (t : X → Bool) (i : ℕ) (xs : List X) → position_from t i xs ≡ None → list_any t xs ≡ false
none_from t i [] e = refl
none_from t i (x ∷ xs) e = elim (cases_Bool (t x)) [
  | inl holds ↦ (let found : Some i ≡ None = sym (ap (λ (b : Bool). cond b (Some i) (position_from t (i + 1) xs)) holds) ∙ e in absurd (cc))
  | inr fails ↦ ap₂ (λ (a b : Bool). a || b) fails (none_from t (i + 1) xs (sym (ap (λ (b : Bool). cond b (Some i) (position_from t (i + 1) xs)) fails) ∙ e))
]

-- the same from the first place on
pub none_found : {X : Type 0} (t : X → Bool) (xs : List X) → position t xs ≡ None → list_any t xs ≡ false
none_found t xs e = none_from t 0 xs (sym (position_from-zero t xs) ∙ e)

-- a number among some is found
pub is_found : (chunks : List ℕ) (chunk : ℕ) → Contains chunks chunk → position (λ one. one == chunk) chunks ≡ None → ⊥
is_found chunks chunk (k, lt, e) none =
    let there : list_any (λ one. one == chunk) chunks ≡ true = list_any_at (λ (one : ℕ). one == chunk) chunks k chunk lt (eq-eqb (get_or chunks k chunk) chunk e) in
    let bad : true ≡ false = sym there ∙ none_found (λ (one : ℕ). one == chunk) chunks none in
    (cc)

-- a number that was found is that number
pub found_is : (chunks : List ℕ) (chunk place : ℕ) → position (λ one. one == chunk) chunks ≡ Some place → (place < length chunks) × (slice_index chunks place ≡ chunk)
found_is chunks chunk place e =
    let found = position-Some (λ (one : ℕ). one == chunk) chunks place 0 e in
    (found.0, eqb-true (get_or chunks place 0) chunk found.1)

-- what was found
pub found_entry : (offset : ℕ) (kept : List OffsetTables) (place : ℕ) (one : OffsetTables) → position (λ k. k.offset == offset) kept ≡ Some place → one ≡ get_or kept place one →
    (at : ℕ) × (slice_get kept at ≡ Some one) × (one.offset ≡ offset)
found_entry offset kept place one e is =
    let found = position-Some (λ (k : OffsetTables). k.offset == offset) kept place one e in (
      place,
      slice_get-get_or kept place one found.0 ∙ ap (λ (k : OffsetTables). let o : Option OffsetTables = Some k in o) (sym is),
      ap (λ (k : OffsetTables). k.offset) is ∙ eqb-true (get_or kept place one).offset offset found.1,
    )

-- something was
pub is_there : (offset : ℕ) (kept : List OffsetTables) → has_entry offset kept ≡ true → position (λ (k : OffsetTables). k.offset == offset) kept ≡ None → ⊥
is_there offset kept has none = let bad : true ≡ false = sym has ∙ none_found (λ (k : OffsetTables). k.offset == offset) kept none in (cc)

-- what was kept last is there
pub kept_last : (old new : List OffsetTables) (one : OffsetTables) (offset : ℕ) → new ≡ old ++ one ∷ [] → one.offset ≡ offset → has_entry offset new ≡ true
kept_last old new one offset is same =
    ap (λ (l : List OffsetTables). list_any (λ (k : OffsetTables). k.offset == offset) l) is
    ∙ list_any-append (λ (k : OffsetTables). k.offset == offset) old (one ∷ [])
    ∙ or_true (list_any (λ (k : OffsetTables). k.offset == offset) old) (list_any (λ (k : OffsetTables). k.offset == offset) (one ∷ []))
    (ap (λ (b : Bool). b || false) (eq-eqb one.offset offset same))

-- each of those that are kept
pub kept_at : (told : Option (List (List ℕ))) (plan : Plan) (kept : List OffsetTables) (place : ℕ) (one : OffsetTables) → All (IsKept told plan) kept → slice_get kept place ≡ Some one → IsKept told plan one
kept_at told plan kept place one all e = subst (IsKept told plan) (get_or_from_slice_get kept place one one e) (all place one (slice_get_within kept place one e))

-- the table of the head, among those for each delay of each chunk
pub table_of : (bytes : List (List ℕ)) (plan : Plan) (head : Head) (entry : OffsetTables) (place : ℕ) (table : RowTable) → entry.offset ≡ head.offset →
    place < length (paces_of plan) → pace_at (paces_of plan) place ≡ pace_of head → table ≡ slice_index_or entry.tables.items place table →
    AreEarlyTables bytes plan (paces_of plan) entry.offset entry.tables.items → IsEarlyTable bytes plan (pace_of head) head.offset table
table_of bytes plan head entry place table same low pace is are =
    let Q : Pace → Type 0 = λ p. IsEarlyTable bytes plan p head.offset table in
    let R : ℕ → Type 0 = λ n. IsEarlyTable bytes plan (pace_at (paces_of plan) place) n table in
    let S : RowTable → Type 0 = λ t. IsEarlyTable bytes plan (pace_at (paces_of plan) place) entry.offset t in
    subst Q pace (subst R same (subst S (sym is) (are.each place table low)))

-- where the pace of a head stands among those of its plan
pub pace_found : (plan : Plan) (head : Head) (c d : ℕ) → c < length plan.bounds.chunks.items → slice_index plan.bounds.chunks.items c ≡ head.chunk → d < length plan.bounds.delays.items → slice_index plan.bounds.delays.items d ≡ head.delay →
    pace_at (paces_of plan) (c * length plan.bounds.delays.items + d) ≡ pace_of head
pace_found plan head c d low chunk few delay =
    pace_stands plan c d low few ∙ ap₂ (λ (n m : ℕ). let p : Pace = record { chunk = n; delay = m } in p) chunk delay

-- a head that needs no table
pub no_table : (told : Option (List (List ℕ))) (plan : Plan) (head : Head) → needs_table plan head ≡ false → IfSome told (λ bytes. HasEarlyTable bytes plan head None)
no_table None plan head needless = tt
no_table (Some bytes) plan head needless = λ needs. absurd (let bad : true ≡ false = sym needs ∙ needless in cc)

-- a sum of which one part falls by so much, and none grows
falls : (f g : ℕ → ℕ) (w : ℕ) (xs : List ℕ) (x k : ℕ) → ((y : ℕ) → g y ≤ f y) → k < length xs → get_or xs k x ≡ x → g x + w ≤ f x → sum_by g xs + w ≤ sum_by f xs
falls f g w [] x k low lt e fall = absurd (omega arith)
falls f g w (y ∷ ys) x zero low lt e fall =
    let P : ℕ → Type 0 = λ n. g n + w ≤ f n in
    let here : g y + w ≤ f y = subst P (sym e) fall in
    let rest = sum_by-le-sum_by g f ys low in
    let a = sum_by-cons g y ys in
    let b = sum_by-cons f y ys in
    omega arith
falls f g w (y ∷ ys) x (suc k) low lt e fall =
    let here = low y in
    let rest = falls f g w ys x k low (omega arith) e fall in
    let a = sum_by-cons g y ys in
    let b = sum_by-cons f y ys in
    omega arith

-- with one more table no more is left
fewer : (a b : Bool) (n : ℕ) → (if (a || b) then 0 else n) ≤ (if a then 0 else n)
fewer true b n = omega arith
fewer false true n = omega arith
fewer false false n = omega arith

-- what is left to read for an offset
left_of : Plan → List OffsetTables → ℕ → ℕ
left_of plan kept offset = if list_any (λ one. one.offset == offset) kept then 0 else offset_reads plan offset

-- with the tables of an offset that had none, less is left to read
pub left_less : (plan : Plan) (kept : List OffsetTables) (one : OffsetTables) → Contains plan.bounds.offsets.items one.offset → list_any (λ k. k.offset == one.offset) kept ≡ false →
    left_reads plan (kept ++ one ∷ []) + offset_reads plan one.offset ≤ left_reads plan kept
unfolding left_reads left_of
left_less plan kept one (k, lt, e) none =
    falls (left_of plan kept) (left_of plan (kept ++ one ∷ [])) (offset_reads plan one.offset) plan.bounds.offsets.items one.offset k
    (λ y. let both = list_any-append (λ (k : OffsetTables). k.offset == y) kept (one ∷ []) in
    let P : Bool → Type 0 = λ b. (if b then 0 else offset_reads plan y) ≤ (if list_any (λ (k : OffsetTables). k.offset == y) kept then 0 else offset_reads plan y) in
    subst P (sym both) (fewer (list_any (λ (k : OffsetTables). k.offset == y) kept) (list_any (λ (k : OffsetTables). k.offset == y) (one ∷ [])) (offset_reads plan y)))
    lt e
    (let there : list_any (λ (k : OffsetTables). k.offset == one.offset) (kept ++ one ∷ []) ≡ true
    = list_any-append (λ (k : OffsetTables). k.offset == one.offset) kept (one ∷ [])
    ∙ or_true (list_any (λ (k : OffsetTables). k.offset == one.offset) kept) (list_any (λ (k : OffsetTables). k.offset == one.offset) (one ∷ []))
    (ap (λ (b : Bool). b || false) (eq-eqb one.offset one.offset refl)) in
    let now : (if list_any (λ (k : OffsetTables). k.offset == one.offset) (kept ++ one ∷ []) then 0 else offset_reads plan one.offset) ≡ 0 = ap (λ (b : Bool). if b then 0 else offset_reads plan one.offset) there in
    let before : (if list_any (λ (k : OffsetTables). k.offset == one.offset) kept then 0 else offset_reads plan one.offset) ≡ offset_reads plan one.offset
    = ap (λ (b : Bool). if b then 0 else offset_reads plan one.offset) none in
    omega arith)

-- for an offset without tables that is what they ask for
pub left_holds : (plan : Plan) (kept : List OffsetTables) (offset : ℕ) → Contains plan.bounds.offsets.items offset → list_any (λ k. k.offset == offset) kept ≡ false → 0 + offset_reads plan offset ≤ left_reads plan kept
unfolding left_reads left_of
left_holds plan kept offset (k, lt, e) none =
    let before : (if list_any (λ (k : OffsetTables). k.offset == offset) kept then 0 else offset_reads plan offset) ≡ offset_reads plan offset
    = ap (λ (b : Bool). if b then 0 else offset_reads plan offset) none in
    let some = falls (left_of plan kept) (λ y. 0) (offset_reads plan offset) plan.bounds.offsets.items offset k (λ y. omega arith) lt e (omega arith) in
    omega arith

-- where a call failed, nothing is left that may be read
pub none_left : {A E : Type 0} (plan : Plan) (kept : List OffsetTables) (r : Result A E) → IsErr r → left_after plan kept r ≡ 0
none_left plan kept (Ok a) e = absurd (cc)
none_left plan kept (Err fault) e = refl

-- one more that is kept
pub kept_more : (told : Option (List (List ℕ))) (plan : Plan) (old new : List OffsetTables) (one : OffsetTables) → new ≡ old ++ one ∷ [] → All (IsKept told plan) old → IsKept told plan one → All (IsKept told plan) new
kept_more told plan old new one grown all here = subst (λ (l : List OffsetTables). All (IsKept told plan) l) (sym grown) both
  where
    both : All (IsKept told plan) (old ++ one ∷ [])
    both k d lt = elim (cases_lt k (length old)) [
      | inl low ↦ subst (IsKept told plan) (sym (get_or_append_left old (one ∷ []) d k low)) (all k d low)
      | inr high ↦ (let long = length-append old (one ∷ []) in
          let at : length old ≡ k = omega arith in
          let last : get_or (old ++ one ∷ []) k d ≡ one = ap (λ (n : ℕ). get_or (old ++ one ∷ []) n d) (sym at) ∙ get_or-append_seam old one [] d in
          subst (IsKept told plan) (sym last) here)
    ]

-- some head of the plan needs a table where one does, or is asked samples
pub asks_table : (plan : Plan) (head : Head) → Contains (heads plan.bounds) head → needs_table plan head ≡ true → asks_tables plan ≡ true
unfolding asks_tables
asks_table plan head (k, lt, e) needs = list_any_at (needs_table plan) (heads plan.bounds) k head lt (ap (needs_table plan) e ∙ needs)

pub asks_sample : (plan : Plan) (head : Head) → Contains (heads plan.bounds) head → needs_samples plan head ≡ true → asks_samples plan ≡ true
unfolding asks_samples
asks_sample plan head (k, lt, e) needs = list_any_at (needs_samples plan) (heads plan.bounds) k head lt (ap (needs_samples plan) e ∙ needs)

pub asks_entry : (plan : Plan) (head : Head) → Contains (heads plan.bounds) head → needs_entry plan head ≡ true → (asks_tables plan || asks_samples plan) ≡ true
asks_entry plan head listed needs =
    elim (cases_Bool (needs_table plan head)) [
      | inl table ↦ ap (λ (b : Bool). b || asks_samples plan) (asks_table plan head listed table)
      | inr none ↦ or_true (asks_tables plan) (asks_samples plan) (asks_sample plan head listed (sym (ap (λ (b : Bool). b || needs_samples plan head) none) ∙ needs))
    ]

pub or_second : (a b : Bool) → a ≡ false → (a || b) ≡ true → b ≡ true
or_second a b none some = sym (ap (λ (c : Bool). c || b) none) ∙ some

-- what is read for the tables of an offset, and for its samples alone
pub reads_tables : (plan : Plan) (offset : ℕ) (chunks : List ℕ) (old new : Seen) → asks_tables plan ≡ true → chunks ≡ plan.bounds.chunks.items →
    OnlyReads old new (length plan.lengths.items * most_tested plan chunks offset) → OnlyReads old new (offset_reads plan offset)
unfolding offset_reads
reads_tables plan offset chunks old new asks is read =
    let P : Bool → Type 0 = λ b. OnlyReads old new (if b then (length plan.lengths.items * most_tested plan plan.bounds.chunks.items offset)
    else (if asks_samples plan then (length plan.lengths.items * min (8 * most_kept plan.limits.badrows) (most_tested plan plan.bounds.chunks.items offset)) else 0)) in
    let Q : List ℕ → Type 0 = λ l. OnlyReads old new (length plan.lengths.items * most_tested plan l offset) in
    subst P (sym asks) (subst Q is read)

pub reads_samples : (plan : Plan) (offset rows : ℕ) (chunks : List ℕ) (old new : Seen) → asks_tables plan ≡ false → asks_samples plan ≡ true → chunks ≡ plan.bounds.chunks.items → rows ≡ most_tested plan chunks offset →
    OnlyReads old new (length plan.lengths.items * min (8 * most_kept plan.limits.badrows) rows) → OnlyReads old new (offset_reads plan offset)
unfolding offset_reads
reads_samples plan offset rows chunks old new unasked asks is count read =
    let P : Bool → Bool → Type 0 = λ b c. OnlyReads old new (if b then (length plan.lengths.items * most_tested plan plan.bounds.chunks.items offset)
    else (if c then (length plan.lengths.items * min (8 * most_kept plan.limits.badrows) (most_tested plan plan.bounds.chunks.items offset)) else 0)) in
    let Q : ℕ → Type 0 = λ n. OnlyReads old new (length plan.lengths.items * min (8 * most_kept plan.limits.badrows) n) in
    let there : OnlyReads old new (length plan.lengths.items * min (8 * most_kept plan.limits.badrows) (most_tested plan plan.bounds.chunks.items offset)) = subst Q (count ∙ ap (λ (l : List ℕ). most_tested plan l offset) is) read in
    subst (λ (b : Bool). P b (asks_samples plan)) (sym unasked) (subst (P false) (sym asks) there)

-- what is spent where tables are made
pub spends_made : (before after w : ℕ) (old new : Seen) → after + w ≤ before → OnlyReads old new w → Spends before after old new 0
spends_made before after w old new less reads = record { fewer = omega arith; reads = reads_up old new reads (omega arith) }
