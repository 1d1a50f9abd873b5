-- What is put after all rows.
use Rattle.std.proofs.Common.{◌≡◌, ℕ, List, [], ◌∷◌, ◌++◌, Option, Result, sym, ap, ◌∙◌, subst, append_assoc}
use Rattle.std.specs.Io.KnownBytes.{Appends}
use Rattle.outside.specs.Streams.{AppendsFront, Puts}
use Rattle.relation_lines.specs.Reports.{Line, others}
use Rattle.relation_lines.specs.Reports.Line.{Alone, Free}
use Rattle.relation_lines.specs.Text.{line_text, text_of}
use Rattle.relation_lines.specs.declared.style.Style.{Style}
use Rattle.relation_lines.proofs.Puts.{flat_append, front_between, puts_after}

parts : (style : Style) (last shares more rest : List Line) → text_of style (last ++ ((shares ++ more) ++ rest)) ≡ text_of style last ++ (text_of style shares ++ text_of style (more ++ rest))
parts style last shares more rest =
    flat_append (line_text style) last ((shares ++ more) ++ rest)
    ∙ ap (λ (l : List ℕ). text_of style last ++ l) (ap (text_of style) (append_assoc shares more rest) ∙ flat_append (line_text style) shares (more ++ rest))

pub last_fails : (style : Style) (last more : List Line) (a b : Option (List ℕ)) → AppendsFront a b (text_of style last) → AppendsFront a b (text_of style last ++ text_of style more) → AppendsFront a b (text_of style (last ++ more))
last_fails style last more a b p q = subst (λ (l : List ℕ). AppendsFront a b l) (sym (flat_append (line_text style) last more)) q

pub shares_fail : (style : Style) (last shares more rest : List Line) (a b d : Option (List ℕ)) → Appends a b (text_of style last) → AppendsFront b d (text_of style shares) → AppendsFront a d (text_of style (last ++ ((shares ++ more) ++ rest)))
shares_fail style last shares more rest a b d p q =
    subst (λ (l : List ℕ). AppendsFront a d l) (sym (parts style last shares more rest)) (front_between a b d (text_of style last) (text_of style shares) (text_of style (more ++ rest)) p q)

pub rest_put : {T E : Type 0} (style : Style) (last shares : List Line) (m n u v free rows : ℕ) (a b d e : Option (List ℕ)) (r : Result T E) → m ≡ n → u ≡ v → Appends a b (text_of style last) → Appends b d (text_of style shares) →
    Puts d e r (text_of style (others m ++ Alone u ∷ Free free rows ∷ [])) → Puts a e r (text_of style (last ++ ((shares ++ others n) ++ (Alone v ∷ Free free rows ∷ []))))
rest_put style last shares m n u v free rows a b d e r same alike p q put =
    let rest : List Line = Alone v ∷ Free free rows ∷ [] in
    let now : Puts d e r (text_of style (others n ++ rest)) =
    subst (λ (k : ℕ). Puts d e r (text_of style (others n ++ Alone k ∷ Free free rows ∷ []))) alike (subst (λ (k : ℕ). Puts d e r (text_of style (others k ++ Alone u ∷ Free free rows ∷ []))) same put) in
    subst (λ (l : List ℕ). Puts a e r l) (sym (parts style last shares (others n) rest))
    (puts_after a b e (text_of style last) (text_of style shares ++ text_of style (others n ++ rest)) r p (puts_after b d e (text_of style shares) (text_of style (others n ++ rest)) r q now))
