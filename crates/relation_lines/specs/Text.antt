-- How lines are written, as text and as JSON.
use Rattle.std.specs.Prelude.{ℕ, ◌==◌, Bool, not, List, [], ◌∷◌, ◌++◌, codes, decimal, length}
use Rattle.std.specs.List.{flat_map}
use Rattle.row_relations.specs.Tables.{Table, standing_of, weight_of}
use Rattle.relation_lines.specs.Reports.{Line}
use Rattle.relation_lines.specs.Reports.Line.{Rows, Together, Others, Alone, Free}
use Rattle.relation_lines.specs.Sets.{images_below, images_in, is_dependent, is_zero}
use Rattle.relation_lines.specs.declared.style.Style.{Style}
use Rattle.relation_lines.specs.declared.style.Style.TheVariants.{Text, Json}
use Rattle.relation_lines.specs.declared.style.Mark.{Mark}
use Rattle.relation_lines.specs.declared.style.Mark.TheVariants.{RowsOpen, RowsTo, RowsZero, RowsTied, RowsEnd, ListOpen, ListBetween, ListNone, ListEnd, TieBetween, TieOf, TermBetween, TermOpen, TermOf, TermEnd, TieOpen, TieEnd, TogetherOpen, TogetherIn, TogetherEnd, OthersOpen, OthersEnd, AloneOpen, AloneEnd, FreeOpen, FreeOf, FreeEnd}

-- what stands between the numbers of a line
abbrev pub mark_text : Style → Mark → List ℕ
mark_text Text RowsOpen = codes "rows "
mark_text Text RowsTo = codes " "
mark_text Text RowsZero = codes " zero "
mark_text Text RowsTied = codes " tied "
mark_text Text RowsEnd = codes "\n"
mark_text Text ListOpen = []
mark_text Text ListBetween = codes ","
mark_text Text ListNone = codes "-"
mark_text Text ListEnd = []
mark_text Text TieBetween = codes " "
mark_text Text TieOpen = []
mark_text Text TieOf = codes "="
mark_text Text TieEnd = []
mark_text Text TermBetween = codes "+"
mark_text Text TermOpen = []
mark_text Text TermOf = codes "*"
mark_text Text TermEnd = []
mark_text Text TogetherOpen = codes "together "
mark_text Text TogetherIn = codes " in "
mark_text Text TogetherEnd = codes " rows\n"
mark_text Text OthersOpen = codes "others "
mark_text Text OthersEnd = codes "\n"
mark_text Text AloneOpen = codes "alone "
mark_text Text AloneEnd = codes "\n"
mark_text Text FreeOpen = codes "free "
mark_text Text FreeOf = codes " of "
mark_text Text FreeEnd = codes "\n"
mark_text Json RowsOpen = codes "{\"rows\":["
mark_text Json RowsTo = codes ","
mark_text Json RowsZero = codes "],\"zero\":"
mark_text Json RowsTied = codes ",\"tied\":"
mark_text Json RowsEnd = codes "}\n"
mark_text Json ListOpen = codes "["
mark_text Json ListBetween = codes ","
mark_text Json ListNone = []
mark_text Json ListEnd = codes "]"
mark_text Json TieBetween = codes ","
mark_text Json TieOpen = codes "["
mark_text Json TieOf = codes ",["
mark_text Json TieEnd = codes "]]"
mark_text Json TermBetween = codes ","
mark_text Json TermOpen = codes "["
mark_text Json TermOf = codes ","
mark_text Json TermEnd = codes "]"
mark_text Json TogetherOpen = codes "{\"together\":"
mark_text Json TogetherIn = codes ",\"rows\":"
mark_text Json TogetherEnd = codes "}\n"
mark_text Json OthersOpen = codes "{\"others\":"
mark_text Json OthersEnd = codes "}\n"
mark_text Json AloneOpen = codes "{\"alone\":"
mark_text Json AloneEnd = codes "}\n"
mark_text Json FreeOpen = codes "{\"free\":"
mark_text Json FreeOf = codes ",\"of\":"
mark_text Json FreeEnd = codes "}\n"

-- the texts of numbers with a mark between them
abbrev pub joined : List ℕ → (ℕ → List ℕ) → List ℕ → List ℕ
joined between text [] = []
joined between text (n ∷ ns) = text n ++ flat_map (λ m. between ++ text m) ns

-- what stands in a list: a dash, or nothing in brackets, where it is empty
abbrev pub inner : Style → List ℕ → (ℕ → List ℕ) → List ℕ → List ℕ
inner style between text [] = mark_text style ListNone
inner style between text (n ∷ ns) = text n ++ flat_map (λ m. between ++ text m) ns

abbrev pub listed : Style → List ℕ → (ℕ → List ℕ) → List ℕ → List ℕ
listed style between text ns = mark_text style ListOpen ++ inner style between text ns ++ mark_text style ListEnd

abbrev pub numbers : Style → List ℕ → List ℕ
numbers style ns = listed style (mark_text style ListBetween) decimal ns

-- the images of a table of which a test holds
abbrev pub images_where : (ℕ → Bool) → Table → List ℕ
images_where test table = images_below test (length table.standings)

abbrev pub zeros_of : Table → List ℕ
zeros_of table = images_where (λ image. is_zero (standing_of table image)) table

abbrev pub dependents_of : Table → List ℕ
dependents_of table = images_where (λ image. is_dependent (standing_of table image)) table

-- the images whose sum an image is
abbrev pub summands_of : Table → ℕ → List ℕ
summands_of table image = images_where (λ other. not (weight_of table image other == 0)) table

-- a weight and its image
unfoldable pub term_text : Style → Table → ℕ → ℕ → List ℕ
term_text style table image other = mark_text style TermOpen ++ decimal (weight_of table image other) ++ mark_text style TermOf ++ decimal other ++ mark_text style TermEnd

-- a dependent image, and the sum that it is
unfoldable pub tie_text : Style → Table → ℕ → List ℕ
tie_text style table image =
    mark_text style TieOpen ++ decimal image ++ mark_text style TieOf
    ++ joined (mark_text style TermBetween) (term_text style table image) (summands_of table image)
    ++ mark_text style TieEnd

-- a line
abbrev pub line_text : Style → Line → List ℕ
line_text style (Rows run) =
    mark_text style RowsOpen ++ decimal run.first ++ mark_text style RowsTo ++ decimal run.last
    ++ mark_text style RowsZero ++ numbers style (zeros_of run.table)
    ++ mark_text style RowsTied ++ listed style (mark_text style TieBetween) (tie_text style run.table) (dependents_of run.table)
    ++ mark_text style RowsEnd
line_text style (Together set rows) = mark_text style TogetherOpen ++ numbers style (images_in set) ++ mark_text style TogetherIn ++ decimal rows ++ mark_text style TogetherEnd
line_text style (Others sets) = mark_text style OthersOpen ++ decimal sets ++ mark_text style OthersEnd
line_text style (Alone set) = mark_text style AloneOpen ++ numbers style (images_in set) ++ mark_text style AloneEnd
line_text style (Free free rows) = mark_text style FreeOpen ++ decimal free ++ mark_text style FreeOf ++ decimal rows ++ mark_text style FreeEnd

abbrev pub text_of : Style → List Line → List ℕ
text_of style lines = flat_map (line_text style) lines
