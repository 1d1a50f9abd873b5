-- One word that asks for nothing alone.
use Rattle.std.proofs.Common.{◌≡◌, ℕ, ◌==◌, Bool, true, false, cond, List, [], ◌∷◌, None, Some, codes, length, refl, sym, ap, ◌∙◌, arith}
use Rattle.std.specs.Str.{bytes_eq}
use Rattle.std.proofs.lemmas.Bool.{eqb-true}
use Rattle.std.proofs.lemmas.Slice.Eq.{bytes_eq-Decides}
use Rattle.reraid_nbd_cli.specs.Words.{alone_in}
use Rattle.reraid_nbd_cli.specs.declared.telling.Alone.TheVariants.{Help, Version}

differs : (a b : List ℕ) → (a ≡ b → ⊥) → (same : Bool) → bytes_eq a b ≡ same → same ≡ false
differs a b other true e = absurd (other ((bytes_eq-Decides a b).0 e))
differs a b other false e = refl

other_word : (word : List ℕ) → (word ≡ codes "--help" → ⊥) → (word ≡ codes "--version" → ⊥) → alone_in (word ∷ []) ≡ None
other_word word help version =
    ap (λ (b : Bool). cond b (Some Help) (cond (bytes_eq word (codes "--version")) (Some Version) None)) (differs word (codes "--help") help (bytes_eq word (codes "--help")) refl)
    ∙ ap (λ (b : Bool). cond b (Some Version) None) (differs word (codes "--version") version (bytes_eq word (codes "--version")) refl)

one_word : (word : List ℕ) (rest : List (List ℕ)) → (length rest == 0) ≡ true → word ∷ rest ≡ word ∷ []
one_word word [] e = refl
one_word word (other ∷ rest) e = absurd (let none : length (other ∷ rest) ≡ 0 = eqb-true (length (other ∷ rest)) 0 e in omega arith)

pub asks_nothing : (words rest : List (List ℕ)) (word text : List ℕ) → words ≡ word ∷ rest → (length rest == 0) ≡ true → text ≡ word → (text ≡ codes "--help" → ⊥) → (text ≡ codes "--version" → ⊥) → None ≡ alone_in words
asks_nothing words rest word text at alone same help version =
    sym (ap alone_in (at ∙ one_word word rest alone) ∙ other_word word (λ e. help (same ∙ e)) (λ e. version (same ∙ e)))
