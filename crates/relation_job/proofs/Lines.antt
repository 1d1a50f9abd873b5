-- Each line of a report ends with a line feed.
use Rattle.std.proofs.Common.{◌≡◌, ◌≤◌, ℕ, List, [], ◌∷◌, ◌++◌, length, take, inl, inr, refl, sym, ap, ◌∙◌, subst, arith, append_assoc, length-append, codes, decimal}
use Rattle.std.specs.declared.option.Option.{Option}
use Rattle.std.specs.Io.KnownBytes.{Appends}
use Rattle.std.proofs.lemmas.List.{append-nil, take-append-le}
use Rattle.relation_lines.specs.Reports.{Line}
use Rattle.relation_lines.specs.Reports.Line.{Rows, Together, Others, Alone, Free}
use Rattle.relation_lines.specs.Sets.{images_in}
use Rattle.relation_lines.specs.Text.{dependents_of, line_text, listed, mark_text, numbers, text_of, tie_text, zeros_of}
use Rattle.relation_lines.specs.declared.style.Style.{Style}
use Rattle.relation_lines.specs.declared.style.Style.TheVariants.{Text, Json}
use Rattle.relation_lines.specs.declared.style.Mark.TheVariants.{RowsOpen, RowsTo, RowsZero, RowsTied, RowsEnd, TieBetween, TogetherOpen, TogetherIn, TogetherEnd, OthersOpen, OthersEnd, AloneOpen, AloneEnd, FreeOpen, FreeOf, FreeEnd}
use Rattle.run_ends.specs.Pieces.{AppendsLines, AreLines}

abbrev EndsInFeed : List ℕ → Type 0
EndsInFeed text = (before : List ℕ) × (text ≡ before ++ 10 ∷ [])

after_any : (xs ys : List ℕ) → EndsInFeed ys → EndsInFeed (xs ++ ys)
after_any xs ys ends = (xs ++ ends.0, ap (λ (l : List ℕ). xs ++ l) ends.1 ∙ sym (append_assoc xs ends.0 (10 ∷ [])))

rows_end : (style : Style) → EndsInFeed (mark_text style RowsEnd)
rows_end Text = ([], refl)
rows_end Json = (codes "}", refl)

together_end : (style : Style) → EndsInFeed (mark_text style TogetherEnd)
together_end Text = (codes " rows", refl)
together_end Json = (codes "}", refl)

others_end : (style : Style) → EndsInFeed (mark_text style OthersEnd)
others_end Text = ([], refl)
others_end Json = (codes "}", refl)

alone_end : (style : Style) → EndsInFeed (mark_text style AloneEnd)
alone_end Text = ([], refl)
alone_end Json = (codes "}", refl)

free_end : (style : Style) → EndsInFeed (mark_text style FreeEnd)
free_end Text = ([], refl)
free_end Json = (codes "}", refl)

line_ends : (style : Style) (line : Line) → EndsInFeed (line_text style line)
line_ends style (Rows run) =
    after_any
    (mark_text style RowsOpen ++ decimal run.first ++ mark_text style RowsTo ++ decimal run.last ++ mark_text style RowsZero ++ numbers style (zeros_of run.table) ++ mark_text style RowsTied
    ++ listed style (mark_text style TieBetween) (tie_text style run.table) (dependents_of run.table)) (mark_text style RowsEnd) (rows_end style)
line_ends style (Together set rows) =
    after_any (mark_text style TogetherOpen ++ numbers style (images_in set) ++ mark_text style TogetherIn ++ decimal rows) (mark_text style TogetherEnd) (together_end style)
line_ends style (Others sets) = after_any (mark_text style OthersOpen ++ decimal sets) (mark_text style OthersEnd) (others_end style)
line_ends style (Alone set) = after_any (mark_text style AloneOpen ++ numbers style (images_in set)) (mark_text style AloneEnd) (alone_end style)
line_ends style (Free free rows) = after_any (mark_text style FreeOpen ++ decimal free ++ mark_text style FreeOf ++ decimal rows) (mark_text style FreeEnd) (free_end style)

before_lines : (xs ys : List ℕ) → EndsInFeed xs → AreLines ys → AreLines (xs ++ ys)
before_lines xs ys ends (inl none) = inr (ends.0, ap (λ (l : List ℕ). xs ++ l) none ∙ append-nil xs ∙ ends.1)
before_lines xs ys ends (inr more) = inr (after_any xs ys more)

-- so a text of lines is one of whole lines
pub are_lines : (style : Style) (lines : List Line) → AreLines (text_of style lines)
are_lines style [] = inl refl
are_lines style (line ∷ lines) = before_lines (line_text style line) (text_of style lines) (line_ends style line) (are_lines style lines)

-- first lines of a text
pub first_lines : (style : Style) (lines : List Line) (more text : List ℕ) (old new : Option (List ℕ)) → text ≡ text_of style lines ++ more → Appends old new (text_of style lines) → AppendsLines old new text
first_lines style lines more text old new is put =
    let front = text_of style lines in
    let some : take (length front) (front ++ more) ≡ front = take-append-le (length front) front more (omega arith) ∙ take_all front in
    let first : take (length front) text ≡ front = ap (λ (l : List ℕ). take (length front) l) is ∙ some in
    let long = length-append front more in
    let few : length front ≤ length text = omega (arith, ap (λ (l : List ℕ). length l) is) in
    (length front, few, subst AreLines (sym first) (are_lines style lines), subst (λ (l : List ℕ). Appends old new l) (sym first) put)
  where
    take_all : (xs : List ℕ) → take (length xs) xs ≡ xs
    take_all [] = refl
    take_all (x ∷ xs) = ap (λ (l : List ℕ). x ∷ l) (take_all xs)
