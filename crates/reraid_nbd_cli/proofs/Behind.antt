-- The words beside the one that names the text of maps.
use Rattle.std.proofs.Common.{◌≡◌, ℕ, suc, ◌+◌, ◌-◌, ◌≤◌, ◌<◌, Bool, true, false, cond, List, [], ◌∷◌, codes, length, None, Some, refl, sym, ap, ◌∙◌, subst, arith}
use Rattle.std.specs.Str.{bytes_eq}
use Rattle.command_words.specs.Commands.{names_after}
use Rattle.reraid_nbd_cli.specs.Words.{is_maps_word, maps_from, without}

-- one word
pub ends_at : (at : ℕ) (word : List ℕ) (words : List (List ℕ)) → bytes_eq word (codes "--") ≡ true → maps_from at (word ∷ words) ≡ None
ends_at at word words e = ap (λ (b : Bool). cond b None (cond (is_maps_word word) (Some at) (maps_from (at + 1) words))) e

pub stands_at : (at : ℕ) (word : List ℕ) (words : List (List ℕ)) → bytes_eq word (codes "--") ≡ false → is_maps_word word ≡ true → maps_from at (word ∷ words) ≡ Some at
stands_at at word words e is =
    ap (λ (b : Bool). cond b None (cond (is_maps_word word) (Some at) (maps_from (at + 1) words))) e ∙ ap (λ (b : Bool). cond b (Some at) (maps_from (at + 1) words)) is

pub goes_on : (at : ℕ) (word : List ℕ) (words : List (List ℕ)) → bytes_eq word (codes "--") ≡ false → is_maps_word word ≡ false → maps_from at (word ∷ words) ≡ maps_from (at + 1) words
goes_on at word words e is =
    ap (λ (b : Bool). cond b None (cond (is_maps_word word) (Some at) (maps_from (at + 1) words))) e ∙ ap (λ (b : Bool). cond b (Some at) (maps_from (at + 1) words)) is

names_on : (word : List ℕ) (words : List (List ℕ)) → bytes_eq word (codes "--") ≡ false → names_after (word ∷ words) ≡ names_after words
names_on word words e = ap (λ (b : Bool). cond b words (names_after words)) e

-- the names are those of all words, and the word stands among these
pub names_without : (words : List (List ℕ)) (at place : ℕ) → maps_from at words ≡ Some place →
    (at ≤ place) × (place - at < length words) × (names_after (without (place - at) words) ≡ names_after words)
names_without [] at place is = absurd (cc)
names_without (word ∷ words) at place is =
    by (λ e f. names_without words (at + 1) place (sym (goes_on at word words e f) ∙ is)) (bytes_eq word (codes "--")) (is_maps_word word) refl refl
  where
    by : (bytes_eq word (codes "--") ≡ false → is_maps_word word ≡ false →
        (at + 1 ≤ place) × (place - (at + 1) < length words) × (names_after (without (place - (at + 1)) words) ≡ names_after words)) →
        (b m : Bool) → bytes_eq word (codes "--") ≡ b → is_maps_word word ≡ m →
        (at ≤ place) × (place - at < length (word ∷ words)) × (names_after (without (place - at) (word ∷ words)) ≡ names_after (word ∷ words))
    by more true m e f = let none : None ≡ Some place = sym (ends_at at word words e) ∙ is in absurd (cc)
    by more false true e f =
        let here : Some at ≡ Some place = sym (stands_at at word words e f) ∙ is in
        let same : at ≡ place = cc in
        let none : place - at ≡ 0 = omega arith in
        (omega arith, omega arith, ap (λ (n : ℕ). names_after (without n (word ∷ words))) none ∙ sym (names_on word words e))
    by more false false e f =
        let later = more e f in
        let step : place - at ≡ suc (place - (at + 1)) = omega (arith, later.0) in (
          omega (arith, later.0),
          omega (arith, later.0, later.1),
          ap (λ (n : ℕ). names_after (without n (word ∷ words))) step ∙ names_on word (without (place - (at + 1)) words) e ∙ later.2 ∙ sym (names_on word words e),
        )

pub names_beside : (words : List (List ℕ)) (place : ℕ) → maps_from 0 words ≡ Some place → names_after (without place words) ≡ names_after words
names_beside words place is = let same : place - 0 ≡ place = omega arith in subst (λ (n : ℕ). names_after (without n words) ≡ names_after words) same (names_without words 0 place is).2

pub place_inside : (words : List (List ℕ)) (place : ℕ) → maps_from 0 words ≡ Some place → place < length words
place_inside words place is = omega (arith, (names_without words 0 place is).1)
