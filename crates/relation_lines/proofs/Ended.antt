-- Where a run ends, and the lines of shares.
use Rattle.std.proofs.Common.{◌≡◌, ℕ, suc, ◌+◌, ◌<◌, Bool, true, false, cond, List, [], ◌∷◌, ◌++◌, length, map, take, drop, get_or, Option, None, Some, sym, ap, ◌∙◌, subst, drop-cons}
use Rattle.std.specs.Io.KnownBytes.{Appends}
use Rattle.std.proofs.lemmas.List.{append-nil, map-append, take-append-drop, take_more}
use Rattle.outside.specs.Streams.{AppendsFront}
use Rattle.row_relations.specs.Tables.{Table}
use Rattle.relation_lines.specs.Reports.{goes_on, lines_at, together}
use Rattle.relation_lines.specs.Reports.Line.{Rows}
use Rattle.relation_lines.specs.Runs.{Row, Run, same_table}
use Rattle.relation_lines.specs.Spans.{run_of}
use Rattle.relation_lines.specs.Text.{line_text, text_of}
use Rattle.relation_lines.specs.declared.saying.Span.{Span}
use Rattle.relation_lines.specs.declared.style.Style.{Style}
use Rattle.relation_lines.proofs.Puts.{appends_join, appends_none, flat_append, front_between}

abbrev pub run_with : Span → Table → Run
run_with span kept = record { first = span.first; last = span.last; table = kept }

pub goes : (span : Span) (kept : Table) (row : Row) → same_table kept row.table ≡ true → Some span.first ≡ goes_on (run_of (Some span) kept) row
goes span kept row same = ap (λ (b : Bool). cond b (Some span.first) None) (sym same)

pub stops : (span : Span) (kept : Table) (row : Row) → same_table kept row.table ≡ false → None ≡ goes_on (run_of (Some span) kept) row
stops span kept row other = ap (λ (b : Bool). cond b (Some span.first) None) (sym other)

pub says_nothing : (style : Style) (span : Span) (kept : Table) (row : Row) (old : Option (List ℕ)) → same_table kept row.table ≡ true → Appends old old (text_of style (lines_at (run_of (Some span) kept) row))
says_nothing style span kept row old same = subst (λ (b : Bool). Appends old old (text_of style (cond b [] (Rows (run_with span kept) ∷ [])))) (sym same) (appends_none old)

pub says_run : (P : List ℕ → Type 0) (style : Style) (span : Span) (kept : Table) (row : Row) → same_table kept row.table ≡ false → P (line_text style (Rows (run_with span kept))) → P (text_of style (lines_at (run_of (Some span) kept) row))
says_run P style span kept row other p =
    subst (λ (b : Bool). P (text_of style (cond b [] (Rows (run_with span kept) ∷ [])))) (sym other) (subst P (sym (append-nil (line_text style (Rows (run_with span kept))))) p)

-- the lines of shares
abbrev pub shares_text : Style → List ℕ → List ℕ
shares_text style shares = text_of style (map together shares)

text_append : (style : Style) (xs ys : List ℕ) → shares_text style (xs ++ ys) ≡ shares_text style xs ++ shares_text style ys
text_append style xs ys = ap (text_of style) (map-append together xs ys) ∙ flat_append (line_text style) (map together xs) (map together ys)

pub shares_more : (style : Style) (shares : List ℕ) (i x : ℕ) (a b c : Option (List ℕ)) → i < length shares → x ≡ get_or shares i x → Appends a b (shares_text style (take i shares)) → Appends b c (line_text style (together x)) → Appends a c (shares_text style (take (i + 1) shares))
shares_more style shares i x a b c lt is p q =
    let more : take (i + 1) shares ≡ take i shares ++ x ∷ [] = take_more shares i x lt ∙ ap (λ (y : ℕ). take i shares ++ y ∷ []) (sym is) in
    let text : shares_text style (take (i + 1) shares) ≡ shares_text style (take i shares) ++ line_text style (together x) =
    ap (shares_text style) more ∙ text_append style (take i shares) (x ∷ []) ∙ ap (λ (l : List ℕ). shares_text style (take i shares) ++ l) (append-nil (line_text style (together x))) in
    subst (λ (l : List ℕ). Appends a c l) (sym text) (appends_join a b c (shares_text style (take i shares)) (line_text style (together x)) p q)

pub shares_cut : (style : Style) (shares : List ℕ) (i x : ℕ) (a b c : Option (List ℕ)) → i < length shares → x ≡ get_or shares i x → Appends a b (shares_text style (take i shares)) → AppendsFront b c (line_text style (together x)) → AppendsFront a c (shares_text style shares)
shares_cut style shares i x a b c lt is p q =
    let all : shares ≡ take i shares ++ x ∷ drop (suc i) shares = sym (take-append-drop i shares) ∙ ap (λ (l : List ℕ). take i shares ++ l) (drop-cons shares i x lt ∙ ap (λ (y : ℕ). y ∷ drop (suc i) shares) (sym is)) in
    let text : shares_text style shares ≡ shares_text style (take i shares) ++ (line_text style (together x) ++ shares_text style (drop (suc i) shares)) =
    ap (shares_text style) all ∙ text_append style (take i shares) (x ∷ drop (suc i) shares) in
    subst (λ (l : List ℕ). AppendsFront a c l) (sym text) (front_between a b c (shares_text style (take i shares)) (line_text style (together x)) (shares_text style (drop (suc i) shares)) p q)
