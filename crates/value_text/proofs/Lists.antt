-- Lists that rise, each on one line.
use Rattle.std.proofs.Common.{◌≡◌, ◌≢◌, ◌<◌, ◌≤◌, ◌+◌, ◌^◌, ◌↔◌, ℕ, Bool, true, false, IsTrue, nat_lt, List, [], ◌∷◌, ◌++◌, All, length, map, get_or, decimal, refl, sym, ap, ◌∙◌, arith, Option, None, Some, MatchOption}
use Rattle.std.specs.List.{IsAllAdjacentAnswer, join_with_byte}
use Rattle.std.specs.List.Sorted.{IsStrictlyIncreasing}
use Rattle.std.proofs.lemmas.Bool.{false≢true}
use Rattle.std.proofs.lemmas.Bool.Decides.{nat_tests}
use Rattle.std.proofs.lemmas.List.{append_cancel_left, get_or-map, length-map}
use Rattle.std.proofs.lemmas.List.Elements.{All-head, All-tail, All-nil, All-cons, All-append}
use Rattle.raid_params.specs.Places.{AreRising}
use Rattle.value_text.specs.Spelling.{IsFieldName, commas, is_separator}
use Rattle.value_text.specs.NameLaws.{number_law, without_separator}
use Rattle.value_text.proofs.Spellings.{IsWithout}

pub decimal_line : (n : ℕ) → n < 2 ^ 64 → IsWithout 10 (decimal n)
decimal_line n small = without_separator 10 (decimal n) refl (number_law.has_no_separator n small)

abbrev IsNoFeed : ℕ → Type 0
IsNoFeed byte = byte ≢ 10

-- a list has none of another separator
pub joined_without : {A : Type 0} (separator other : ℕ) → separator ≢ other → IsTrue (is_separator other) → (name : A → List ℕ) (IsSpelled : A → Type 0) → IsFieldName name IsSpelled → (xs : List A) → All IsSpelled xs →
    IsWithout other (join_with_byte separator (map name xs))
joined_without separator other apart is name IsSpelled s [] all = All-nil (λ byte. byte ≢ other)
joined_without separator other apart is name IsSpelled s (x ∷ []) all = without_separator other (name x) is (s.has_no_separator x (All-head IsSpelled x [] all))
joined_without separator other apart is name IsSpelled s (x ∷ y ∷ xs) all =
    All-append (λ byte. byte ≢ other) (name x) (separator ∷ join_with_byte separator (map name (y ∷ xs))) (without_separator other (name x) is (s.has_no_separator x (All-head IsSpelled x (y ∷ xs) all)))
    (All-cons (λ byte. byte ≢ other) separator (join_with_byte separator (map name (y ∷ xs))) apart (joined_without separator other apart is name IsSpelled s (y ∷ xs) (All-tail IsSpelled x (y ∷ xs) all)))

-- a list stands on one line
pub list_line : {A : Type 0} (name : A → List ℕ) (IsSpelled : A → Type 0) → IsFieldName name IsSpelled → (xs : List A) → All IsSpelled xs → IsWithout 10 (commas (map name xs))
list_line name IsSpelled s xs all = joined_without 44 10 (λ e. absurd (omega (arith, e))) refl name IsSpelled s xs all

-- and so does a number or a list after a word
pub number_line : (word : List ℕ) → IsWithout 10 word → (n : ℕ) → n < 2 ^ 64 → IsWithout 10 (word ++ decimal n)
number_line word is n small = All-append IsNoFeed word (decimal n) is (decimal_line n small)

pub word_line : {A : Type 0} (name : A → List ℕ) (IsSpelled : A → Type 0) → IsFieldName name IsSpelled → (word : List ℕ) → IsWithout 10 word → (xs : List A) → All IsSpelled xs → IsWithout 10 (word ++ commas (map name xs))
word_line name IsSpelled s word is xs all = All-append IsNoFeed word (commas (map name xs)) is (list_line name IsSpelled s xs all)

-- what a text spells after a word
pub after_word : {A V : Type 0} (items : V → List A) (IsList : List A → Type 0) (name : List A → List ℕ) (line word text : List ℕ) (r : Option V) → line ≡ word ++ text →
    MatchOption r ((xs : List A) → IsList xs → text ≢ name xs) (λ v. IsList (items v) × (text ≡ name (items v))) →
    MatchOption r ((xs : List A) → IsList xs → line ≢ word ++ name xs) (λ v. IsList (items v) × (line ≡ word ++ name (items v)))
after_word items IsList name line word text None e h = λ xs is same. h xs is (append_cancel_left word text (name xs) (sym e ∙ same))
after_word items IsList name line word text (Some v) e h = (h.0, e ∙ ap (λ (ds : List ℕ). word ++ ds) h.1)

pub some_value : {A : Type 0} (place : A → ℕ) (xs : List A) → AreRising (map place xs) → 1 ≤ length xs
some_value place xs rising = let some = rising.some in let same = length-map xs place in omega arith

pub rising_values : {A : Type 0} (place : A → ℕ) (xs : List A) → 1 ≤ length xs → IsStrictlyIncreasing (map place xs) → AreRising (map place xs)
rising_values place xs some up = record { some = omega (arith, length-map xs place); rising = up }

-- places that rise
places_rise : {A : Type 0} (place : A → ℕ) (xs : List A) (k : ℕ) (d : A) → k + 1 < length xs → nat_lt (place (get_or xs k d)) (place (get_or xs (k + 1) d)) ≡ true → get_or (map place xs) k 0 < get_or (map place xs) (k + 1) 0
places_rise place xs k d lt rise =
    let a = get_or-map place xs k d 0 (omega arith) in
    let b = get_or-map place xs (k + 1) d 0 (omega arith) in
    grind (arith, nat_tests)

places_fall : {A : Type 0} (place : A → ℕ) (xs : List A) (k : ℕ) (d : A) → k + 1 < length xs → false ≡ nat_lt (place (get_or xs k d)) (place (get_or xs (k + 1) d)) → get_or (map place xs) k 0 < get_or (map place xs) (k + 1) 0 → ⊥
places_fall place xs k d lt fall rise =
    let a = get_or-map place xs k d 0 (omega arith) in
    let b = get_or-map place xs (k + 1) d 0 (omega arith) in
    grind (arith, nat_tests)

pub rises_from_pairs : {A : Type 0} (place : A → ℕ) (xs : List A) (r : Bool) → IsAllAdjacentAnswer (λ x y b. b ≡ nat_lt (place x) (place y)) xs r → IsTrue r ↔ IsStrictlyIncreasing (map place xs)
rises_from_pairs place [] true h = (λ is k lt. absurd (omega arith), λ rising. refl)
rises_from_pairs place (x ∷ xs) true h = (
  λ is k lt. let within : k + 1 < length (x ∷ xs) = omega (arith, length-map (x ∷ xs) place) in places_rise place (x ∷ xs) k x within (sym (h k x within)),
  λ rising. refl,
)
rises_from_pairs place [] false h = let none = h.1 in absurd (omega arith)
rises_from_pairs place (x ∷ xs) false h = (
  λ is. absurd (false≢true is),
  λ rising. absurd (places_fall place (x ∷ xs) h.0 x h.1 (h.2 x) (rising h.0 (let within = h.1 in omega (arith, length-map (x ∷ xs) place)))),
)
