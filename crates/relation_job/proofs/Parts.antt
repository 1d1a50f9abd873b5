-- The rows of a block that was read, taken one after the other.
use Rattle.std.proofs.Common.{◌≡◌, ℕ, zero, suc, ◌+◌, ◌-◌, ◌*◌, ◌<◌, ◌≤◌, List, [], ◌∷◌, ◌++◌, length, map, take, drop, Option, None, Some, IfSome, IfErr, OnOk, Result, Ok, Err, refl, sym, ap, ap₂, ◌∙◌, subst, arith}
use Rattle.std.specs.List.{flat_map, range_with_len}
use Rattle.std.specs.Io.KnownBytes.{Appends}
use Rattle.std.proofs.lemmas.List.{append-nil, take-append-drop}
use Rattle.std.proofs.lemmas.List.FromFn.{length-map-range_with_len, map-range_with_len_more, take-map-range_with_len}
use Rattle.outside.proofs.Told.{told_all_length}
use Rattle.outside.specs.Attached.{told_all}
use Rattle.outside.specs.Seen.{Image}
use Rattle.outside.specs.Streams.{AppendsFront, Puts}
use Rattle.relation_lines.proofs.Puts.{appends_join, appends_none, fails_before}
use Rattle.relation_lines.proofs.Tabled.{computed}
use Rattle.relation_lines.specs.Reports.{Line, State, after, after_all, lines_at, said_by}
use Rattle.relation_lines.specs.Runs.{Row}
use Rattle.relation_lines.specs.Tables.{table_of}
use Rattle.relation_lines.specs.Text.{text_of}
use Rattle.row_relations.specs.Rows.{AreBytes}
use Rattle.row_relations.specs.Tables.{IsTable, Table}
use Rattle.run_ends.specs.declared.stop.Stop.{Stop}
use Rattle.run_ends.specs.declared.stop.Stop.TheVariants.{OutFault}
use Rattle.relation_job.proofs.Blocks.{row_of_block}
use Rattle.relation_job.proofs.Looked.{after_front, after_part, text_more}
use Rattle.relation_job.specs.Blocks.{IsBlock, block_row, block_row_at, block_rows, block_sector, part_rows}
use Rattle.relation_job.specs.Looking.{AddsPart, StopsInPart}
use Rattle.relation_job.specs.Relating.{row_at}
use Rattle.relation_job.specs.Sampling.{row_number}
use Rattle.relation_job.specs.declared.sampling.Part.{Part}

-- the rows of a block are those of the images
same_list : {X : Type 0} (f g : ℕ → X) (a n : ℕ) → ((k : ℕ) → a ≤ k → k < a + n → f k ≡ g k) → map f (range_with_len a n) ≡ map g (range_with_len a n)
same_list f g a zero same = refl
same_list f g a (suc n) same = ap₂ (λ x xs. x ∷ xs) (same a (omega arith) (omega arith)) (same_list f g (a + 1) n (λ k low high. same k (omega arith) (omega arith)))

-- neighbours are a step of 1 apart
pub next_to : (part : Part) (place : ℕ) → (2 ≤ part.rows → part.sampling.step ≡ 1) → place < part.rows → row_number part.sampling (part.first + place) ≡ row_number part.sampling part.first + place
next_to part zero near lt = let same : part.first + 0 ≡ part.first = omega arith in ap (row_number part.sampling) same ∙ omega arith
next_to part (suc place) near lt =
    let one : part.sampling.step ≡ 1 = near (omega arith) in
    let left : part.sampling.step * (part.first + suc place) ≡ part.first + suc place = ap (λ (s : ℕ). s * (part.first + suc place)) one ∙ omega arith in
    let right : part.sampling.step * part.first ≡ part.first = ap (λ (s : ℕ). s * part.first) one ∙ omega arith in
    omega (arith, left, right)

block_told : (images : List (List ℕ)) (offsets : List ℕ) (part : Part) (count : ℕ) (block : List ℕ) → count ≡ length images → (2 ≤ part.rows → part.sampling.step ≡ 1) → IsBlock images offsets (row_number part.sampling part.first) part.rows block →
    block_rows block count part part.rows ≡ part_rows images offsets part
block_told images offsets part count block many near is = same_list (block_row_at block count part) (λ (place : ℕ). row_at images offsets (row_number part.sampling (part.first + place))) 0 part.rows same
  where
    same : (place : ℕ) → 0 ≤ place → place < 0 + part.rows → block_row_at block count part place ≡ row_at images offsets (row_number part.sampling (part.first + place))
    same place low high =
        let number = row_number part.sampling (part.first + place) in
        let lt : place < part.rows = omega arith in
        let row : block_row block (length images) part.rows place ≡ _ = row_of_block images offsets (row_number part.sampling part.first) part.rows place number block is.bytes lt (next_to part place near lt) is.each in
        let table : table_of count (block_row block count part.rows place) ≡ table_of (length images) (block_row block (length images) part.rows place) = ap (λ (n : ℕ). table_of n (block_row block n part.rows place)) many in
        ap (λ (t : Table). record { sector = number; table = t }) (table ∙ ap (table_of (length images)) row)

pub rows_told : (attached : List Image) (told : Option (List (List ℕ))) (offsets : List ℕ) (part : Part) (count : ℕ) (block : List ℕ) → told_all attached ≡ told → length attached ≡ count → (2 ≤ part.rows → part.sampling.step ≡ 1) →
    IfSome told (λ images. IsBlock images offsets (row_number part.sampling part.first) part.rows block) → IfSome told (λ images. block_rows block count part part.rows ≡ part_rows images offsets part)
rows_told attached None offsets part count block is many near block_is = tt
rows_told attached (Some images) offsets part count block is many near block_is = block_told images offsets part count block (omega (arith, told_all_length attached images is, many)) near block_is

-- ---- row by row
pub record TakesSoFar (block : List ℕ) (part : Part) (place : ℕ) (before after : Option (List ℕ)) (faults then : ℕ) (start now : State) (bytes : List ℕ) (made : Table) (count : ℕ) : Type 0 where
  pub state : now ≡ after_all start (block_rows block start.images part place)
  pub put : Appends before after (text_of start.style (said_by start (block_rows block start.images part place)))
  pub quiet : then ≡ faults
  pub room : now.room + place ≡ start.room
  pub images : now.images ≡ start.images
  pub sectors : length bytes ≡ count
  pub table : length made.standings ≡ start.images

one_more : (block : List ℕ) (images : ℕ) (part : Part) (place : ℕ) → block_rows block images part (place + 1) ≡ block_rows block images part place ++ block_row_at block images part place ∷ []
one_more block images part place = map-range_with_len_more (block_row_at block images part) 0 place place (omega arith)

-- what is said of one row
said_one : (state : State) (row : Row) → said_by state (row ∷ []) ≡ lines_at state.run row
said_one state row = append-nil (lines_at state.run row)

text_one : (block : List ℕ) (part : Part) (place : ℕ) (start state : State) → state ≡ after_all start (block_rows block start.images part place) →
    text_of start.style (said_by start (block_rows block start.images part (place + 1)))
    ≡ text_of start.style (said_by start (block_rows block start.images part place)) ++ text_of state.style (lines_at state.run (block_row_at block start.images part place))
text_one block part place start state is =
    let row = block_row_at block start.images part place in
    ap (λ (l : List Row). text_of start.style (said_by start l)) (one_more block start.images part place)
    ∙ text_more start state (block_rows block start.images part place) (row ∷ []) is
    ∙ ap (λ (l : List Line). text_of start.style (said_by start (block_rows block start.images part place)) ++ text_of state.style l) (said_one state row)

-- the row that was picked, with its table
pub row_is : (block : List ℕ) (images : ℕ) (part : Part) (place number : ℕ) (sectors : List ℕ) (table : Table) → images ≤ 64 → number ≡ row_number part.sampling (part.first + place) → sectors ≡ block_row block images part.rows place → AreBytes sectors →
    IsTable images sectors table → record { sector = number; table = table } ≡ block_row_at block images part place
row_is block images part place number sectors table few at picked bytes is =
    let made : table ≡ table_of images (block_row block images part.rows place) = computed images sectors table few bytes is ∙ ap (table_of images) picked in
    ap₂ (λ (n : ℕ) (t : Table). record { sector = n; table = t }) at made

pub takes_more : (block : List ℕ) (part : Part) (place : ℕ) (a b c : Option (List ℕ)) (faults then last : ℕ) (start state next : State) (sectors newer : List ℕ) (table newest : Table) (row : Row) (count : ℕ) →
    TakesSoFar block part place a b faults then start state sectors table count → 1 ≤ state.room → row ≡ block_row_at block start.images part place → next ≡ after state row → Appends b c (text_of state.style (lines_at state.run row)) → last ≡ then → length newer ≡ count →
    length newest.standings ≡ next.images → TakesSoFar block part (place + 1) a c faults last start next newer newest count
takes_more block part place a b c faults then last start state next sectors newer table newest row count was some is goes put quiet long standings = record {
  state = goes ∙ ap (after state) is ∙ ap (λ (s : State). after s (block_row_at block start.images part place)) was.state
      ∙ sym (after_front start (block_rows block start.images part place) (block_row_at block start.images part place ∷ [])) ∙ ap (after_all start) (sym (one_more block start.images part place));
  put =
      let now : Appends b c (text_of state.style (lines_at state.run (block_row_at block start.images part place))) = subst (λ (r : Row). Appends b c (text_of state.style (lines_at state.run r))) is put in
      subst (λ (l : List ℕ). Appends a c l) (sym (text_one block part place start state was.state))
      (appends_join a b c (text_of start.style (said_by start (block_rows block start.images part place))) (text_of state.style (lines_at state.run (block_row_at block start.images part place))) was.put now);
  quiet = quiet ∙ was.quiet;
  room = let left : next.room ≡ state.room - 1 = ap (λ (s : State). s.room) goes in omega (arith, left, was.room);
  images = ap (λ (s : State). s.images) goes ∙ was.images;
  sectors = long;
  table = standings ∙ ap (λ (s : State). s.images) goes ∙ was.images;
}

pub takes_none : (block : List ℕ) (part : Part) (a : Option (List ℕ)) (faults : ℕ) (start : State) (sectors : List ℕ) (table : Table) (count : ℕ) → length sectors ≡ count → length table.standings ≡ start.images → TakesSoFar block part 0 a a faults faults start start sectors table count
takes_none block part a faults start sectors table count long standings = record {
  state = refl;
  put = appends_none a;
  quiet = refl;
  room = omega arith;
  images = refl;
  sectors = long;
  table = standings;
}

-- first rows of a block, and the others
front_of : (block : List ℕ) (images : ℕ) (part : Part) (few : ℕ) → few ≤ part.rows → (rest : List Row) × (block_rows block images part part.rows ≡ block_rows block images part few ++ rest)
front_of block images part few within =
    let all = block_rows block images part part.rows in
    let first = take-map-range_with_len (block_row_at block images part) 0 part.rows few within in
    (drop few all, sym (take-append-drop few all) ∙ ap (λ (l : List Row). l ++ drop few all) first)

-- the output failed in the lines of a row
pub takes_cut : (block : List ℕ) (part : Part) (place : ℕ) (a b c : Option (List ℕ)) (faults then : ℕ) (start state : State) (sectors : List ℕ) (table : Table) (row : Row) (count : ℕ) → place < part.rows → TakesSoFar block part place a b faults then start state sectors table count →
    row ≡ block_row_at block start.images part place → AppendsFront b c (text_of state.style (lines_at state.run row)) → AppendsFront a c (text_of start.style (said_by start (block_rows block start.images part part.rows)))
takes_cut block part place a b c faults then start state sectors table row count lt was is put =
    let rest = front_of block start.images part (place + 1) (omega arith) in
    let first = block_rows block start.images part (place + 1) in
    let now : AppendsFront b c (text_of state.style (lines_at state.run (block_row_at block start.images part place))) = subst (λ (r : Row). AppendsFront b c (text_of state.style (lines_at state.run r))) is put in
    let some : AppendsFront a c (text_of start.style (said_by start first)) =
    subst (λ (l : List ℕ). AppendsFront a c l) (sym (text_one block part place start state was.state))
    (after_part a b c (text_of start.style (said_by start (block_rows block start.images part place))) (text_of state.style (lines_at state.run (block_row_at block start.images part place))) was.put now) in
    let whole : text_of start.style (said_by start (block_rows block start.images part part.rows)) ≡ text_of start.style (said_by start first) ++ text_of (after_all start first).style (said_by (after_all start first) rest.0) =
    ap (λ (l : List Row). text_of start.style (said_by start l)) rest.1 ∙ text_more start (after_all start first) first rest.0 refl in
    subst (λ (l : List ℕ). AppendsFront a c l) (sym whole) (fails_before a c (text_of start.style (said_by start first)) (text_of (after_all start first).style (said_by (after_all start first) rest.0)) some)

-- ---- a part whose block was read
pub part_ok : (told : Option (List (List ℕ))) (offsets : List ℕ) (part : Part) (block : List ℕ) (old new : State) (a b : Option (List ℕ)) (result : Result (Unit {0}) Stop) → IfSome told (λ images. block_rows block old.images part part.rows ≡ part_rows images offsets part) →
    OnOk result (new ≡ after_all old (block_rows block old.images part part.rows)) → Puts a b result (text_of old.style (said_by old (block_rows block old.images part part.rows))) → OnOk result (AddsPart told offsets part old new a b)
part_ok told offsets part block old new a b (Ok x) are state put = record {
  rows = block_rows block old.images part part.rows;
  count = length-map-range_with_len (block_row_at block old.images part) 0 part.rows;
  are = are;
  state = state;
  put = put;
}
part_ok told offsets part block old new a b (Err stop) are state put = tt

pub part_err : (told : Option (List (List ℕ))) (offsets : List ℕ) (part : Part) (block : List ℕ) (old : State) (a b : Option (List ℕ)) (result : Result (Unit {0}) Stop) → IfSome told (λ images. block_rows block old.images part part.rows ≡ part_rows images offsets part) →
    IfErr result (λ stop. stop ≡ OutFault) → Puts a b result (text_of old.style (said_by old (block_rows block old.images part part.rows))) → IfErr result (StopsInPart told offsets part old a b)
part_err told offsets part block old a b (Ok x) are stop put = tt
part_err told offsets part block old a b (Err stop) are is put =
    let out : StopsInPart told offsets part old a b OutFault = (block_rows block old.images part part.rows, length-map-range_with_len (block_row_at block old.images part) 0 part.rows, are, put) in
    subst (λ (s : Stop). StopsInPart told offsets part old a b s) (sym is) out

-- a list that was written over from end to end
pub kept_whole : (n : ℕ) (xs ys : List ℕ) → n ≡ length ys → length xs ≡ length ys → take n (xs ++ drop (length xs) ys) ≡ xs
kept_whole n [] ys is same = let none : n ≡ 0 = omega arith in ap (λ (k : ℕ). take k (drop 0 ys)) none
kept_whole n (x ∷ xs) [] is same = absurd (omega arith)
kept_whole n (x ∷ xs) (y ∷ ys) is same =
    let more : n ≡ suc (length ys) = omega arith in
    ap (λ (k : ℕ). take k (x ∷ (xs ++ drop (length xs) ys))) more ∙ ap (λ (l : List ℕ). x ∷ l) (kept_whole (length ys) xs ys refl (omega arith))

-- ---- bytes of a block are bytes
bytes_take : (n : ℕ) (xs : List ℕ) → AreBytes xs → AreBytes (take n xs)
bytes_take zero xs are i = omega arith
bytes_take (suc n) [] are i = omega arith
bytes_take (suc n) (x ∷ xs) are zero = are 0
bytes_take (suc n) (x ∷ xs) are (suc i) = bytes_take n xs (λ j. are (suc j)) i

bytes_drop : (n : ℕ) (xs : List ℕ) → AreBytes xs → AreBytes (drop n xs)
bytes_drop zero xs are i = are i
bytes_drop (suc n) [] are i = omega arith
bytes_drop (suc n) (x ∷ xs) are i = bytes_drop n xs (λ j. are (suc j)) i

bytes_append : (xs ys : List ℕ) → AreBytes xs → AreBytes ys → AreBytes (xs ++ ys)
bytes_append [] ys p q i = q i
bytes_append (x ∷ xs) ys p q zero = p 0
bytes_append (x ∷ xs) ys p q (suc i) = bytes_append xs ys (λ j. p (suc j)) q i

bytes_flat : (f : ℕ → List ℕ) (ns : List ℕ) → ((n : ℕ) → AreBytes (f n)) → AreBytes (flat_map f ns)
bytes_flat f [] each i = omega arith
bytes_flat f (n ∷ ns) each i = bytes_append (f n) (flat_map f ns) (each n) (bytes_flat f ns each) i

row_bytes_are : (block : List ℕ) (images rows place : ℕ) → AreBytes block → AreBytes (block_row block images rows place)
row_bytes_are block images rows place are =
    bytes_flat (block_sector block rows place) (range_with_len 0 images)
    (λ image. bytes_take (512 * (rows * image + place) + 512 - 512 * (rows * image + place)) (drop (512 * (rows * image + place)) block) (bytes_drop (512 * (rows * image + place)) block are))

-- the row that was picked of a block, with its table
pub picked_is : (block : List ℕ) (images : ℕ) (part : Part) (place len : ℕ) (items picked sectors : List ℕ) (was table : Table) → images ≤ 64 → AreBytes block → picked ≡ block_row block images part.rows place → len ≡ length items → length picked ≡ length items →
    sectors ≡ take len (picked ++ drop (length picked) items) → length was.standings ≡ images → IsTable (length was.standings) sectors table → record { sector = row_number part.sampling (part.first + place); table = table } ≡ block_row_at block images part place
picked_is block images part place len items picked sectors was table few bytes is long same over standings made =
    let all : sectors ≡ block_row block images part.rows place = over ∙ kept_whole len picked items long same ∙ is in
    row_is block images part place (row_number part.sampling (part.first + place)) sectors table few refl all (subst AreBytes (sym all) (row_bytes_are block images part.rows place bytes)) (subst (λ (n : ℕ). IsTable n sectors table) standings made)
