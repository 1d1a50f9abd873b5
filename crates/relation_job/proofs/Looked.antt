-- Rows that were looked at, and then more.
use Rattle.std.proofs.Common.{◌≡◌, ℕ, zero, suc, ◌+◌, ◌*◌, ◌≤◌, List, [], ◌∷◌, ◌++◌, length, map, Option, None, Some, IfSome, Err, refl, sym, ap, ap₂, ◌∙◌, subst, arith, append_assoc, length-append}
use Rattle.std.specs.List.{range_with_len}
use Rattle.std.specs.Io.KnownBytes.{Appends}
use Rattle.std.proofs.lemmas.List.{append-nil}
use Rattle.std.proofs.lemmas.List.FromFn.{map-range_with_len_more}
use Rattle.outside.specs.Attached.{told_all}
use Rattle.outside.proofs.Reading.{reads_join, reads_up}
use Rattle.outside.specs.Seen.{Image, OnlyReads, Seen}
use Rattle.std.proofs.Math.Nat.{mul-le-mul_left}
use Rattle.outside.specs.Streams.{AppendsFront}
use Rattle.relation_lines.proofs.Puts.{appends_join, appends_none, flat_append, puts_after}
use Rattle.relation_lines.specs.Reports.{Line, State, after, after_all, lines_at, said_by}
use Rattle.relation_lines.specs.Runs.{Row}
use Rattle.relation_lines.specs.Text.{line_text, text_of}
use Rattle.relation_lines.specs.declared.style.Style.{Style}
use Rattle.row_relations.specs.Tables.{Table}
use Rattle.run_ends.specs.declared.stop.Stop.{Stop}
use Rattle.run_ends.specs.declared.stop.Stop.TheVariants.{Refused, ImageFault, SourceFault, OutFault, OutOfMemory}
use Rattle.relation_job.specs.Blocks.{part_rows}
use Rattle.relation_job.specs.Looking.{AddsPart, AddsRows, AreFirst, StopsInPart, StopsInRows}
use Rattle.relation_job.specs.Relating.{first_rows, row_at}
use Rattle.relation_job.specs.Sampling.{row_number}
use Rattle.relation_job.specs.declared.sampling.Part.{Part}
use Rattle.relation_job.specs.declared.sampling.Sampling.{Sampling}

-- what is said of rows, and then of more
pub said_front : (state : State) (xs ys : List Row) → said_by state (xs ++ ys) ≡ said_by state xs ++ said_by (after_all state xs) ys
said_front state [] ys = refl
said_front state (x ∷ xs) ys =
    ap (λ (l : List Line). lines_at state.run x ++ l) (said_front (after state x) xs ys) ∙ sym (append_assoc (lines_at state.run x) (said_by (after state x) xs) (said_by (after_all (after state x) xs) ys))

pub after_front : (state : State) (xs ys : List Row) → after_all state (xs ++ ys) ≡ after_all (after_all state xs) ys
after_front state [] ys = refl
after_front state (x ∷ xs) ys = after_front (after state x) xs ys

pub style_kept : (state : State) (rows : List Row) → (after_all state rows).style ≡ state.style
style_kept state [] = refl
style_kept state (row ∷ rows) = style_kept (after state row) rows

-- the text of what is said of more rows
pub text_more : (state mid : State) (rows more : List Row) → mid ≡ after_all state rows → text_of state.style (said_by state (rows ++ more)) ≡ text_of state.style (said_by state rows) ++ text_of mid.style (said_by mid more)
text_more state mid rows more is =
    let both : said_by state (rows ++ more) ≡ said_by state rows ++ said_by mid more = said_front state rows more ∙ ap (λ (s : State). said_by state rows ++ said_by s more) (sym is) in
    let style : state.style ≡ mid.style = sym (style_kept state rows) ∙ ap (λ (s : State). s.style) (sym is) in
    ap (text_of state.style) both ∙ flat_append (line_text state.style) (said_by state rows) (said_by mid more) ∙ ap (λ (s : Style). text_of state.style (said_by state rows) ++ text_of s (said_by mid more)) style

-- a list over some numbers, and then over more
map_more : {X : Type 0} (f : ℕ → X) (a b : ℕ) → map f (range_with_len 0 (a + b)) ≡ map f (range_with_len 0 a) ++ map (λ (k : ℕ). f (a + k)) (range_with_len 0 b)
map_more f a zero = let none : a + 0 ≡ a = omega arith in ap (λ (n : ℕ). map f (range_with_len 0 n)) none ∙ sym (append-nil (map f (range_with_len 0 a)))
map_more f a (suc b) =
    let next : a + suc b ≡ a + b + 1 = omega arith in
    let one : suc b ≡ b + 1 = omega arith in
    let low = map f (range_with_len 0 a) in
    let high = map (λ (k : ℕ). f (a + k)) (range_with_len 0 b) in
    ap (λ (n : ℕ). map f (range_with_len 0 n)) next
    ∙ map-range_with_len_more f 0 (a + b) (a + b) (omega arith)
    ∙ ap (λ l. l ++ f (a + b) ∷ []) (map_more f a b)
    ∙ append_assoc low high (f (a + b) ∷ [])
    ∙ ap (λ l. low ++ l) (sym (map-range_with_len_more (λ (k : ℕ). f (a + k)) 0 b b (omega arith)) ∙ ap (λ (n : ℕ). map (λ (k : ℕ). f (a + k)) (range_with_len 0 n)) (sym one))

-- ---- a part of the rows more
module _ (told : Option (List (List ℕ))) (offsets : List ℕ) (part : Part) (rows more : List Row) (first : length rows ≡ part.first) (within : part.first + part.rows ≤ part.sampling.rows) (many : length more ≡ part.rows) where
  long : length (rows ++ more) ≡ part.first + part.rows
  long = omega (arith, length-append rows more, first, many)

  are_more : (t : Option (List (List ℕ))) → IfSome t (λ images. rows ≡ first_rows images offsets part.sampling (length rows)) → IfSome t (λ images. more ≡ part_rows images offsets part) →
      IfSome t (λ images. rows ++ more ≡ first_rows images offsets part.sampling (length (rows ++ more)))
  are_more None are is = tt
  are_more (Some images) are is =
      let before : rows ≡ first_rows images offsets part.sampling part.first = are ∙ ap (first_rows images offsets part.sampling) first in
      ap₂ (λ (xs ys : List Row). xs ++ ys) before is ∙ sym (map_more (λ (k : ℕ). row_at images offsets (row_number part.sampling k)) part.first part.rows) ∙ ap (first_rows images offsets part.sampling) (sym long)

  first_more : AreFirst told offsets part.sampling rows → IfSome told (λ images. more ≡ part_rows images offsets part) → AreFirst told offsets part.sampling (rows ++ more)
  first_more was is = record { few = omega (arith, long); are = are_more told was.are is }

pub adds_more : (told : Option (List (List ℕ))) (offsets : List ℕ) (part : Part) (old mid new : State) (a b c : Option (List ℕ)) → part.first + part.rows ≤ part.sampling.rows → AddsRows told offsets part.sampling part.first old mid a b →
    AddsPart told offsets part mid new b c → AddsRows told offsets part.sampling (part.first + part.rows) old new a c
adds_more told offsets part old mid new a b c within was one = record {
  rows = was.rows ++ one.rows;
  first = first_more told offsets part was.rows one.rows was.count within one.count was.first one.are;
  count = omega (arith, length-append was.rows one.rows, was.count, one.count);
  state = one.state ∙ ap (λ (s : State). after_all s one.rows) was.state ∙ sym (after_front old was.rows one.rows);
  put = subst (λ (l : List ℕ). Appends a c l) (sym (text_more old mid was.rows one.rows was.state)) (appends_join a b c (text_of old.style (said_by old was.rows)) (text_of mid.style (said_by mid one.rows)) was.put one.put);
}

-- where no row was taken
pub adds_none : (told : Option (List (List ℕ))) (offsets : List ℕ) (sampling : Sampling) (old : State) (a : Option (List ℕ)) → AddsRows told offsets sampling 0 old old a a
adds_none told offsets sampling old a = record {
  rows = [];
  first = record { few = omega arith; are = none told };
  count = refl;
  state = refl;
  put = appends_none a;
}
  where
    none : (t : Option (List (List ℕ))) → IfSome t (λ images. [] ≡ first_rows images offsets sampling 0)
    none None = tt
    none (Some images) = refl

pub after_part : (a b c : Option (List ℕ)) (x y : List ℕ) → Appends a b x → AppendsFront b c y → AppendsFront a c (x ++ y)
after_part a b c x y p q = puts_after {T = ℕ} {E = ℕ} a b c x y (Err 0) p q

-- no part more was taken
pub stops_more : (told : Option (List (List ℕ))) (offsets : List ℕ) (part : Part) (old mid : State) (a b c : Option (List ℕ)) (stop : Stop) → part.first + part.rows ≤ part.sampling.rows → AddsRows told offsets part.sampling part.first old mid a b →
    StopsInPart told offsets part mid b c stop → StopsInRows told offsets part.sampling old a c stop
stops_more told offsets part old mid a b c (Refused refusal) within was stops = absurd stops
stops_more told offsets part old mid a b c ImageFault within was stops = (was.rows, was.first, subst (λ (o : Option (List ℕ)). Appends a o (text_of old.style (said_by old was.rows))) (sym stops) was.put)
stops_more told offsets part old mid a b c SourceFault within was stops = absurd stops
stops_more told offsets part old mid a b c OutFault within was stops = (
  was.rows ++ stops.0,
  first_more told offsets part was.rows stops.0 was.count within stops.1 was.first stops.2,
  subst (λ (l : List ℕ). AppendsFront a c l) (sym (text_more old mid was.rows stops.0 was.state)) (after_part a b c (text_of old.style (said_by old was.rows)) (text_of mid.style (said_by mid stops.0)) was.put stops.3),
)
stops_more told offsets part old mid a b c OutOfMemory within was stops = absurd stops

-- so many rows were looked at
pub record LooksSoFar (offsets : List ℕ) (sampling : Sampling) (k : ℕ) (old now : Seen) (before after : Option (List ℕ)) (faults then : ℕ) (start state : State) (bytes : List ℕ) (made : Table) : Type 0 where
  pub few : k ≤ sampling.rows
  pub adds : AddsRows (told_all old.attached) offsets sampling k start state before after
  pub reads : OnlyReads old now (k * length old.attached)
  pub images_quiet : now.faults ≡ old.faults
  pub out_quiet : then ≡ faults
  pub room : state.room + k ≡ start.room
  pub images : state.images ≡ start.images
  pub sectors : length bytes ≡ 512 * start.images
  pub table : length made.standings ≡ start.images

-- readings of rows, and then of more
pub reads_more : (old mid new : Seen) (first rows all : ℕ) → OnlyReads old mid (first * length old.attached) → OnlyReads mid new (rows * length mid.attached) → first + rows ≤ all → OnlyReads old new (all * length old.attached)
reads_more old mid new first rows all was more within =
    let same : length mid.attached ≡ length old.attached = ap (λ (l : List Image). length l) was.attached in
    let part : OnlyReads mid new (rows * length old.attached) = subst (λ (n : ℕ). OnlyReads mid new (rows * n)) same more in
    let fits : length old.attached * (first + rows) ≤ length old.attached * all = mul-le-mul_left (length old.attached) within in
    reads_up old new (reads_join old mid new was part) (omega (arith, fits))
