-- Lists of words, and what the words are of.
use Rattle.std.proofs.Common.{◌≡◌, ◌≢◌, ◌≤◌, ◌∙◌, ℕ, List, [], ◌∷◌, length, map, All, refl, sym, ap, subst}
use Rattle.std.proofs.lemmas.List.{length-map}
use Rattle.std.proofs.lemmas.List.Elements.{All-nil, All-cons, All-head, All-tail}
use Rattle.mark_kinds.specs.Table.{group_place}
use Rattle.mark_kinds.specs.declared.table.GroupKind.{GroupKind}
use Rattle.mark_kinds.specs.declared.table.TheConstants.{GROUP_COUNT}
use Rattle.mark_kinds.specs.declared.table.DropAt.{DropAt}
use Rattle.mark_kinds.specs.declared.table.TheConstants.{MOST_DROPS}
use Rattle.raid_params.specs.Places.{AreRising}
use Rattle.value_text.specs.Spelling.{commas}
use Rattle.landmark_text.specs.Names.{IsDrop, drop_name, drop_place, group_name}
use Rattle.landmark_text.specs.declared.lists.DropWord.{DropWord}
use Rattle.landmark_text.specs.declared.lists.GroupWord.{GroupWord}

-- two functions, one after the other
fused : {A B C : Type 0} (f : B → C) (g : A → B) (xs : List A) → map f (map g xs) ≡ map (λ x. f (g x)) xs
fused f g [] = refl
fused {C = C} f g (x ∷ xs) = ap (λ (ys : List C). f (g x) ∷ ys) (fused f g xs)

group_word : GroupKind → GroupWord
group_word kind = record { kind = kind }

drop_word : DropAt → DropWord
drop_word at = record { at = at }

-- the words of kinds
words_of_groups : {C : Type 0} (f : GroupKind → C) (kinds : List GroupKind) → map (λ (word : GroupWord). f word.kind) (map group_word kinds) ≡ map f kinds
unfolding group_word
words_of_groups f kinds = fused (λ (word : GroupWord). f word.kind) group_word kinds

words_of_drops : {C : Type 0} (f : DropAt → C) (drops : List DropAt) → map (λ (word : DropWord). f word.at) (map drop_word drops) ≡ map f drops
unfolding drop_word
words_of_drops f drops = fused (λ (word : DropWord). f word.at) drop_word drops

words_are : (drops : List DropAt) → All IsDrop drops → All (λ (word : DropWord). IsDrop word.at) (map drop_word drops)
unfolding drop_word
words_are [] are = All-nil (λ (word : DropWord). IsDrop word.at)
words_are (at ∷ drops) are =
    All-cons (λ (word : DropWord). IsDrop word.at) (drop_word at) (map drop_word drops) (All-head IsDrop at drops are) (words_are drops (All-tail IsDrop at drops are))

drops_are : (words : List DropWord) → All (λ (word : DropWord). IsDrop word.at) words → All IsDrop (map (λ (word : DropWord). word.at) words)
drops_are [] are = All-nil IsDrop
drops_are (word ∷ words) are =
    All-cons IsDrop word.at (map (λ (w : DropWord). w.at) words) (All-head (λ (w : DropWord). IsDrop w.at) word words are) (drops_are words (All-tail (λ (w : DropWord). IsDrop w.at) word words are))

-- where a text is no list of words, it is none of what they are of
pub no_groups : (text : List ℕ) →
    ((words : List GroupWord) → AreRising (map (λ (word : GroupWord). group_place word.kind) words) × (length words ≤ GROUP_COUNT) × All (λ (word : GroupWord). Unit {0}) words → text ≢ commas (map (λ (word : GroupWord). group_name word.kind) words)) →
    (kinds : List GroupKind) → AreRising (map group_place kinds) × (length kinds ≤ GROUP_COUNT) → text ≢ commas (map group_name kinds)
no_groups text none kinds are e =
    none (map group_word kinds)
    (subst AreRising (sym (words_of_groups group_place kinds)) are.0, subst (λ (n : ℕ). n ≤ GROUP_COUNT) (sym (length-map kinds group_word)) are.1, λ k d lt. tt)
    (e ∙ sym (ap commas (words_of_groups group_name kinds)))

pub no_drops : (text : List ℕ) →
    ((words : List DropWord) → AreRising (map (λ (word : DropWord). drop_place word.at) words) × (length words ≤ MOST_DROPS) × All (λ (word : DropWord). IsDrop word.at) words → text ≢ commas (map (λ (word : DropWord). drop_name word.at) words)) →
    (drops : List DropAt) → AreRising (map drop_place drops) × (length drops ≤ MOST_DROPS) × All IsDrop drops → text ≢ commas (map drop_name drops)
no_drops text none drops are e =
    none (map drop_word drops)
    (subst AreRising (sym (words_of_drops drop_place drops)) are.0, subst (λ (n : ℕ). n ≤ MOST_DROPS) (sym (length-map drops drop_word)) are.1, words_are drops are.2)
    (e ∙ sym (ap commas (words_of_drops drop_name drops)))

-- where it is one of words, it is the list of what they are of
pub groups_of_words : (text : List ℕ) (words : List GroupWord) (kinds : List GroupKind) → kinds ≡ map (λ (word : GroupWord). word.kind) words →
    (AreRising (map (λ (word : GroupWord). group_place word.kind) words) × (length words ≤ GROUP_COUNT) × All (λ (word : GroupWord). Unit {0}) words) × (text ≡ commas (map (λ (word : GroupWord). group_name word.kind) words)) →
    (AreRising (map group_place kinds) × (length kinds ≤ GROUP_COUNT)) × (text ≡ commas (map group_name kinds))
groups_of_words text words kinds same read =
    let P : List GroupKind → Type 0 = λ ks. (AreRising (map group_place ks) × (length ks ≤ GROUP_COUNT)) × (text ≡ commas (map group_name ks)) in
    let kind : GroupWord → GroupKind = λ word. word.kind in
    subst P (sym same) (
      (subst AreRising (sym (fused group_place kind words)) read.0.0, subst (λ (n : ℕ). n ≤ GROUP_COUNT) (sym (length-map words kind)) read.0.1),
      read.1 ∙ sym (ap commas (fused group_name kind words)),
    )

pub drops_of_words : (text : List ℕ) (words : List DropWord) (drops : List DropAt) → drops ≡ map (λ (word : DropWord). word.at) words →
    (AreRising (map (λ (word : DropWord). drop_place word.at) words) × (length words ≤ MOST_DROPS) × All (λ (word : DropWord). IsDrop word.at) words) × (text ≡ commas (map (λ (word : DropWord). drop_name word.at) words)) →
    (AreRising (map drop_place drops) × (length drops ≤ MOST_DROPS) × All IsDrop drops) × (text ≡ commas (map drop_name drops))
drops_of_words text words drops same read =
    let P : List DropAt → Type 0 = λ ds. (AreRising (map drop_place ds) × (length ds ≤ MOST_DROPS) × All IsDrop ds) × (text ≡ commas (map drop_name ds)) in
    let at : DropWord → DropAt = λ word. word.at in
    subst P (sym same) (
      (subst AreRising (sym (fused drop_place at words)) read.0.0, subst (λ (n : ℕ). n ≤ MOST_DROPS) (sym (length-map words at)) read.0.1, drops_are words read.0.2),
      read.1 ∙ sym (ap commas (fused drop_name at words)),
    )
