-- What was put of the report of all rows.
use Rattle.std.proofs.Common.{◌≡◌, ℕ, ◌≤◌, List, ◌++◌, length, take, drop, Option, None, Some, IfSome, Err, refl, sym, ap, ◌∙◌, subst, append_assoc}
use Rattle.std.specs.Io.KnownBytes.{Appends}
use Rattle.std.proofs.lemmas.List.{take-append-drop}
use Rattle.std.proofs.lemmas.List.FromFn.{take-map-range_with_len}
use Rattle.outside.proofs.Told.{told_all_length}
use Rattle.outside.specs.Attached.{told_all}
use Rattle.outside.specs.Seen.{Image, Seen}
use Rattle.outside.specs.Streams.{AppendsFront, Stream}
use Rattle.relation_lines.proofs.Puts.{appends_join, fails_before, flat_append, puts_after}
use Rattle.relation_lines.proofs.Said.{said_is}
use Rattle.relation_lines.specs.Reports.{Line, State, after_all, lines_end, report_of, said_by, start_of}
use Rattle.relation_lines.specs.Runs.{Row}
use Rattle.relation_lines.specs.Text.{line_text, text_of}
use Rattle.relation_lines.specs.declared.style.Style.{Style}
use Rattle.run_ends.specs.Pieces.{AppendsLines}
use Rattle.run_ends.specs.declared.stop.Stop.{Stop}
use Rattle.run_ends.specs.declared.stop.Stop.TheVariants.{Refused, ImageFault, SourceFault, OutFault, OutOfMemory}
use Rattle.relation_job.proofs.Lines.{first_lines}
use Rattle.relation_job.proofs.Looked.{said_front, style_kept}
use Rattle.relation_job.specs.Looking.{AddsRows, AreFirst, EndsReport, StopsInRows}
use Rattle.relation_job.specs.Relating.{first_rows, report_text, row_at}
use Rattle.relation_job.specs.Sampling.{row_number}
use Rattle.relation_job.specs.declared.sampling.Sampling.{Sampling}

-- the report begins with what is said of first rows
report_front : (style : Style) (images room : ℕ) (rows rest : List Row) →
    text_of style (report_of images (rows ++ rest))
    ≡ text_of style (said_by (start_of style images room) rows) ++ text_of style (said_by (after_all (start_of style images room) rows) rest ++ lines_end (after_all (start_of style images room) (rows ++ rest)))
report_front style images room rows rest =
    let start = start_of style images room in
    let first = said_by start rows in
    let later = said_by (after_all start rows) rest in
    let last = lines_end (after_all start (rows ++ rest)) in
    ap (text_of style) (sym (said_is style images room (rows ++ rest)) ∙ ap (λ (l : List Line). l ++ last) (said_front start rows rest) ∙ append_assoc first later last) ∙ flat_append (line_text style) first (later ++ last)

-- the rows are first ones of all
rest_of : (images : List (List ℕ)) (offsets : List ℕ) (sampling : Sampling) (rows : List Row) → length rows ≤ sampling.rows → rows ≡ first_rows images offsets sampling (length rows) →
    first_rows images offsets sampling sampling.rows ≡ rows ++ drop (length rows) (first_rows images offsets sampling sampling.rows)
rest_of images offsets sampling rows few are =
    let all = first_rows images offsets sampling sampling.rows in
    let front : take (length rows) all ≡ rows = take-map-range_with_len (λ (k : ℕ). row_at images offsets (row_number sampling k)) 0 sampling.rows (length rows) few ∙ sym are in
    sym (take-append-drop (length rows) all) ∙ ap (λ (l : List Row). l ++ drop (length rows) all) front

pub text_front : (images : List (List ℕ)) (offsets : List ℕ) (sampling : Sampling) (style : Style) (count room : ℕ) (rows : List Row) → count ≡ length images → AreFirst (Some images) offsets sampling rows →
    (more : List ℕ) × (report_text images offsets sampling style ≡ text_of style (said_by (start_of style count room) rows) ++ more)
unfolding report_text
text_front images offsets sampling style count room rows many first =
    let rest = drop (length rows) (first_rows images offsets sampling sampling.rows) in
    let start = start_of style count room in (
      text_of style (said_by (after_all start rows) rest ++ lines_end (after_all start (rows ++ rest))),
      ap (λ (n : ℕ). text_of style (report_of n (first_rows images offsets sampling sampling.rows))) (sym many) ∙ ap (λ (l : List Row). text_of style (report_of count l)) (rest_of images offsets sampling rows first.few first.are) ∙ report_front style count room rows rest,
    )

-- the whole report
pub text_whole : (images : List (List ℕ)) (offsets : List ℕ) (sampling : Sampling) (style : Style) (count room : ℕ) (rows : List Row) → count ≡ length images → length rows ≡ sampling.rows → AreFirst (Some images) offsets sampling rows →
    report_text images offsets sampling style ≡ text_of style (said_by (start_of style count room) rows) ++ text_of style (lines_end (after_all (start_of style count room) rows))
unfolding report_text
text_whole images offsets sampling style count room rows many all first =
    let start = start_of style count room in
    ap (λ (n : ℕ). text_of style (report_of n (first_rows images offsets sampling sampling.rows))) (sym many)
    ∙ ap (λ (n : ℕ). text_of style (report_of count (first_rows images offsets sampling n))) (sym all)
    ∙ ap (λ (l : List Row). text_of style (report_of count l)) (sym first.are)
    ∙ ap (text_of style) (sym (said_is style count room rows))
    ∙ flat_append (line_text style) (said_by start rows) (lines_end (after_all start rows))

-- where the bytes of the images are known, there are as many as images
many_told : (attached : List Image) (told : Option (List (List ℕ))) → told_all attached ≡ told → IfSome told (λ images. length attached ≡ length images)
many_told attached None is = tt
many_told attached (Some images) is = sym (told_all_length attached images is)

front_put : (a b : Option (List ℕ)) (text x more : List ℕ) → text ≡ x ++ more → AppendsFront a b x → AppendsFront a b text
front_put a b text x more is put = subst (λ (l : List ℕ). AppendsFront a b l) (sym is) (fails_before a b x more put)

ends_told : (told : Option (List (List ℕ))) (offsets : List ℕ) (sampling : Sampling) (style : Style) (count room : ℕ) (rows : List Row) (a b : Option (List ℕ)) → IfSome told (λ images. count ≡ length images) → AreFirst told offsets sampling rows →
    AppendsFront a b (text_of style (said_by (start_of style count room) rows)) → IfSome told (λ images. AppendsFront a b (report_text images offsets sampling style))
ends_told None offsets sampling style count room rows a b many first put = tt
ends_told (Some images) offsets sampling style count room rows a b many first put =
    let text = text_front images offsets sampling style count room rows many first in
    front_put a b (report_text images offsets sampling style) (text_of style (said_by (start_of style count room) rows)) text.0 text.1 put

lines_told : (told : Option (List (List ℕ))) (offsets : List ℕ) (sampling : Sampling) (style : Style) (count room : ℕ) (rows : List Row) (a b : Option (List ℕ)) → IfSome told (λ images. count ≡ length images) → AreFirst told offsets sampling rows →
    Appends a b (text_of style (said_by (start_of style count room) rows)) → IfSome told (λ images. AppendsLines a b (report_text images offsets sampling style))
lines_told None offsets sampling style count room rows a b many first put = tt
lines_told (Some images) offsets sampling style count room rows a b many first put =
    let text = text_front images offsets sampling style count room rows many first in
    first_lines style (said_by (start_of style count room) rows) text.0 (report_text images offsets sampling style) a b text.1 put

-- it ends before all rows were taken
ends_early : (attached : List Image) (offsets : List ℕ) (sampling : Sampling) (style : Style) (room : ℕ) (old new : Seen) (before now : Stream) (stop : Stop) →
    StopsInRows (told_all attached) offsets sampling (start_of style (length attached) room) before.known now.known stop → EndsReport (told_all attached) offsets sampling style old new before now stop
ends_early attached offsets sampling style room old new before now (Refused refusal) stops = absurd stops
ends_early attached offsets sampling style room old new before now ImageFault stops =
    lines_told (told_all attached) offsets sampling style (length attached) room stops.0 before.known now.known (many_told attached (told_all attached) refl) stops.1 stops.2
ends_early attached offsets sampling style room old new before now SourceFault stops = absurd stops
ends_early attached offsets sampling style room old new before now OutFault stops =
    ends_told (told_all attached) offsets sampling style (length attached) room stops.0 before.known now.known (many_told attached (told_all attached) refl) stops.1 stops.2
ends_early attached offsets sampling style room old new before now OutOfMemory stops = absurd stops

pub ends_from : (attached : List Image) (offsets : List ℕ) (sampling : Sampling) (style : Style) (room : ℕ) (start : State) (old new : Seen) (before now : Stream) (stop : Stop) → start ≡ start_of style (length attached) room →
    StopsInRows (told_all attached) offsets sampling start before.known now.known stop → EndsReport (told_all attached) offsets sampling style old new before now stop
ends_from attached offsets sampling style room start old new before now stop is stops =
    ends_early attached offsets sampling style room old new before now stop (subst (λ (s : State). StopsInRows (told_all attached) offsets sampling s before.known now.known stop) is stops)

-- all rows were taken
module _ (offsets : List ℕ) (sampling : Sampling) (style : Style) (count room : ℕ) (last : State) (a b c : Option (List ℕ)) where
  whole_told : (told : Option (List (List ℕ))) → IfSome told (λ images. count ≡ length images) → AddsRows told offsets sampling sampling.rows (start_of style count room) last a b → Appends b c (text_of last.style (lines_end last)) →
      IfSome told (λ images. Appends a c (report_text images offsets sampling style))
  whole_told None many adds put = tt
  whole_told (Some images) many adds put =
      let start = start_of style count room in
      let text = text_whole images offsets sampling style count room adds.rows many adds.count adds.first in
      let kept : last.style ≡ style = ap (λ (s : State). s.style) adds.state ∙ style_kept start adds.rows in
      let end : Appends b c (text_of style (lines_end (after_all start adds.rows))) = subst (λ (s : State). Appends b c (text_of style (lines_end s))) adds.state (subst (λ (s : Style). Appends b c (text_of s (lines_end last))) kept put) in
      subst (λ (l : List ℕ). Appends a c l) (sym text) (appends_join a b c (text_of style (said_by start adds.rows)) (text_of style (lines_end (after_all start adds.rows))) adds.put end)

  cut_told : (told : Option (List (List ℕ))) → IfSome told (λ images. count ≡ length images) → AddsRows told offsets sampling sampling.rows (start_of style count room) last a b → AppendsFront b c (text_of last.style (lines_end last)) →
      IfSome told (λ images. AppendsFront a c (report_text images offsets sampling style))
  cut_told None many adds put = tt
  cut_told (Some images) many adds put =
      let start = start_of style count room in
      let text = text_whole images offsets sampling style count room adds.rows many adds.count adds.first in
      let kept : last.style ≡ style = ap (λ (s : State). s.style) adds.state ∙ style_kept start adds.rows in
      let end : AppendsFront b c (text_of style (lines_end (after_all start adds.rows))) = subst (λ (s : State). AppendsFront b c (text_of style (lines_end s))) adds.state (subst (λ (s : Style). AppendsFront b c (text_of s (lines_end last))) kept put) in
      subst (λ (l : List ℕ). AppendsFront a c l) (sym text) (puts_after {T = ℕ} {E = ℕ} a b c (text_of style (said_by start adds.rows)) (text_of style (lines_end (after_all start adds.rows))) (Err 0) adds.put end)

pub reported : (attached : List Image) (offsets : List ℕ) (sampling : Sampling) (style : Style) (room : ℕ) (start last : State) (a b c : Option (List ℕ)) → start ≡ start_of style (length attached) room → AddsRows (told_all attached) offsets sampling sampling.rows start last a b →
    Appends b c (text_of last.style (lines_end last)) → IfSome (told_all attached) (λ images. Appends a c (report_text images offsets sampling style))
reported attached offsets sampling style room start last a b c is adds put =
    whole_told offsets sampling style (length attached) room last a b c (told_all attached) (many_told attached (told_all attached) refl) (subst (λ (s : State). AddsRows (told_all attached) offsets sampling sampling.rows s last a b) is adds) put

pub cut_last : (attached : List Image) (offsets : List ℕ) (sampling : Sampling) (style : Style) (room : ℕ) (start last : State) (a b c : Option (List ℕ)) → start ≡ start_of style (length attached) room → AddsRows (told_all attached) offsets sampling sampling.rows start last a b →
    AppendsFront b c (text_of last.style (lines_end last)) → IfSome (told_all attached) (λ images. AppendsFront a c (report_text images offsets sampling style))
cut_last attached offsets sampling style room start last a b c is adds put =
    cut_told offsets sampling style (length attached) room last a b c (told_all attached) (many_told attached (told_all attached) refl) (subst (λ (s : State). AddsRows (told_all attached) offsets sampling sampling.rows s last a b) is adds) put
