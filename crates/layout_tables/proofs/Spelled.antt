-- What it says of values that a text spells them with a separator between them.
use Rattle.std.proofs.Common.{◌≡◌, ◌≢◌, ◌≤◌, ◌+◌, ℕ, List, [], ◌∷◌, ◌++◌, All, length, map, refl, sym, ap, subst, ◌∙◌, arith, length-append, Option, None, Some, MatchOption, Result, Ok, Err, OnOk, OnErr, IsOk, ◌↔◌}
use Rattle.std.specs.List.{join_with_byte}
use Rattle.std.specs.Result.{result_ok}
use Rattle.std.proofs.lemmas.List.Elements.{All-head, All-tail, All-push}
use Rattle.layout_tables.specs.Pieces.{IsPieceName}

abbrev IsOther : ℕ → ℕ → Type 0
IsOther separator byte = byte ≢ separator

-- no byte of it is the separator
abbrev pub IsWithout : ℕ → List ℕ → Type 0
IsWithout separator bytes = All (λ byte. byte ≢ separator) bytes

pub has_separator : (separator : ℕ) (word rest : List ℕ) → IsWithout separator (word ++ separator ∷ rest) → ⊥
has_separator separator [] rest all = All-head (IsOther separator) separator rest all refl
has_separator separator (b ∷ word) rest all = has_separator separator word rest (All-tail (IsOther separator) b (word ++ separator ∷ rest) all)

-- the first separator is in one place
pub first_separator : (separator : ℕ) (xs ys after_x after_y : List ℕ) → IsWithout separator xs → IsWithout separator ys → xs ++ separator ∷ after_x ≡ ys ++ separator ∷ after_y → (xs ≡ ys) × (after_x ≡ after_y)
first_separator separator [] [] u v p q e = (refl, cc)
first_separator separator [] (y ∷ ys) u v p q e = let same : y ≡ separator = cc in absurd (All-head (IsOther separator) y ys q same)
first_separator separator (x ∷ xs) [] u v p q e = let same : x ≡ separator = cc in absurd (All-head (IsOther separator) x xs p same)
first_separator separator (x ∷ xs) (y ∷ ys) u v p q e =
    let head : x ≡ y = cc in
    let tail : xs ++ separator ∷ u ≡ ys ++ separator ∷ v = cc in
    let more = first_separator separator xs ys u v (All-tail (IsOther separator) x xs p) (All-tail (IsOther separator) y ys q) tail in
    let front : xs ≡ ys = more.0 in
    (cc, more.1)

pub none_then : {A : Type 0} (P : Type 0) (Q : A → Type 0) (r : Option A) → r ≡ None → P → MatchOption r P Q
none_then P Q r none holds = rw none holds

-- a push that was refused, and one that was not
pub was_full : {A E : Type 0} (P : Type 0) (r : Result A E) (o : Option A) → o ≡ None → o ≡ result_ok r → OnErr r P → P
was_full P (Ok v) o none same full = cc
was_full P (Err e) o none same full = full

pub was_pushed : {A E : Type 0} (P : Type 0) (r : Result A E) (o : Option A) (v : A) → o ≡ Some v → o ≡ result_ok r → OnOk r P → P
was_pushed P (Ok v) o w some same pushed = pushed
was_pushed P (Err e) o w some same pushed = cc

pub had_room : {A E : Type 0} (P : Type 0) (r : Result A E) (o : Option A) (v : A) → o ≡ Some v → o ≡ result_ok r → IsOk r ↔ P → P
had_room P (Ok v) o w some same room = room.0 refl
had_room P (Err e) o w some same room = cc

-- a word up to a separator in a list is the value's
word_in_list : {A : Type 0} (separator : ℕ) (name : A → List ℕ) (IsPiece : A → Type 0) → IsPieceName separator name IsPiece → (word rest more : List ℕ) (x : A) → IsWithout separator word → IsPiece x →
    word ++ separator ∷ rest ≡ name x ++ separator ∷ more → (word ≡ name x) × (rest ≡ more)
word_in_list separator name IsPiece s word rest more x without spelled e = first_separator separator word (name x) rest more without (s.has_none x spelled) e

-- values up to a separator in a list are the same if the texts are
same_in_list : {A : Type 0} (separator : ℕ) (name : A → List ℕ) (IsPiece : A → Type 0) → IsPieceName separator name IsPiece → (x y : A) (rest more : List ℕ) → IsPiece x → IsPiece y →
    name x ++ separator ∷ rest ≡ name y ++ separator ∷ more → (x ≡ y) × (rest ≡ more)
same_in_list separator name IsPiece s x y rest more is_x is_y e =
    let both = word_in_list separator name IsPiece s (name x) rest more y (s.has_none x is_x) is_y e in
    (s.one_value x y is_x is_y both.0, both.1)

-- values with a separator after each, and what follows
unfoldable pub before : {A : Type 0} → ℕ → (A → List ℕ) → List A → List ℕ → List ℕ
before separator name [] rest = rest
before separator name (x ∷ xs) rest = name x ++ separator ∷ before separator name xs rest

pub before_none : {A : Type 0} (separator : ℕ) (name : A → List ℕ) (rest : List ℕ) → before separator name [] rest ≡ rest
unfolding before
before_none separator name rest = refl

-- one more value
pub before_more : {A : Type 0} (separator : ℕ) (name : A → List ℕ) (xs : List A) (x : A) (rest : List ℕ) → before separator name xs (name x ++ separator ∷ rest) ≡ before separator name (xs ++ x ∷ []) rest
unfolding before
before_more separator name [] x rest = refl
before_more separator name (y ∷ xs) x rest = ap (λ (more : List ℕ). name y ++ separator ∷ more) (before_more separator name xs x rest)

-- the last value
pub before_last : {A : Type 0} (separator : ℕ) (name : A → List ℕ) (xs : List A) (x : A) → before separator name xs (name x) ≡ join_with_byte separator (map name (xs ++ x ∷ []))
unfolding before
before_last separator name [] x = refl
before_last separator name (y ∷ []) x = refl
before_last separator name (y ∷ z ∷ xs) x = ap (λ (more : List ℕ). name y ++ separator ∷ more) (before_last separator name (z ∷ xs) x)

-- what values are left after the first ones of a list
abbrev AreLeft : {A : Type 0} → ℕ → (A → List ℕ) → (A → Type 0) → List A → List A → List ℕ → List A → Type 0
AreLeft separator name IsPiece firsts xs rest ys = (xs ≡ firsts ++ ys) × (1 ≤ length ys) × All IsPiece ys × (rest ≡ join_with_byte separator (map name ys))

left_after : {A : Type 0} (separator : ℕ) (name : A → List ℕ) (IsPiece : A → Type 0) → IsPieceName separator name IsPiece → (firsts xs : List A) (rest : List ℕ) → All IsPiece firsts → All IsPiece xs → 1 ≤ length xs →
    before separator name firsts rest ≡ join_with_byte separator (map name xs) → (ys : List A) × AreLeft separator name IsPiece firsts xs rest ys
unfolding before
left_after separator name IsPiece s [] xs rest p q some e = (xs, (refl, some, q, e))
left_after separator name IsPiece s (i ∷ firsts) [] rest p q some e = absurd (omega arith)
left_after separator name IsPiece s (i ∷ firsts) (x ∷ []) rest p q some e =
    let plain = s.has_none x (All-head IsPiece x [] q) in
    absurd (has_separator separator (name i) (before separator name firsts rest) (subst (IsWithout separator) (sym e) plain))
left_after separator name IsPiece s (i ∷ firsts) (x ∷ y ∷ xs) rest p q some e =
    let both = same_in_list separator name IsPiece s i x (before separator name firsts rest) (join_with_byte separator (map name (y ∷ xs))) (All-head IsPiece i firsts p) (All-head IsPiece x (y ∷ xs) q) e in
    let more = left_after separator name IsPiece s firsts (y ∷ xs) rest (All-tail IsPiece i firsts p) (All-tail IsPiece x (y ∷ xs) q) (omega arith) both.1 in
    let head : i ≡ x = both.0 in
    let tail : y ∷ xs ≡ firsts ++ more.0 = more.1.0 in
    (more.0, (cc, more.1.1, more.1.2, more.1.3))

-- a word of a list is a value's, and the list is longer than what stands before it
abbrev pub IsWord : {A : Type 0} → (A → List ℕ) → (A → Type 0) → List A → List A → List ℕ → Type 0
IsWord {A = A} name IsPiece firsts xs word = (x : A) × IsPiece x × (word ≡ name x) × (length firsts + 1 ≤ length xs)

word_with_more : {A : Type 0} (separator : ℕ) (name : A → List ℕ) (IsPiece : A → Type 0) → IsPieceName separator name IsPiece → (firsts xs ys : List A) (word more : List ℕ) → AreLeft separator name IsPiece firsts xs (word ++ separator ∷ more) ys → IsWithout separator word →
    IsWord name IsPiece firsts xs word
word_with_more separator name IsPiece s firsts xs [] word more left without = let some = left.1 in absurd (omega arith)
word_with_more separator name IsPiece s firsts xs (y ∷ []) word more left without =
    let plain = s.has_none y (All-head IsPiece y [] left.2) in
    absurd (has_separator separator word more (subst (IsWithout separator) (sym left.3) plain))
word_with_more separator name IsPiece s firsts xs (y ∷ z ∷ ys) word more left without =
    let spelled = All-head IsPiece y (z ∷ ys) left.2 in
    let lengths = ap length left.0 ∙ length-append firsts (y ∷ z ∷ ys) in
    (y, spelled, (word_in_list separator name IsPiece s word more (join_with_byte separator (map name (z ∷ ys))) y without spelled left.3).0, omega arith)

last_word : {A : Type 0} (separator : ℕ) (name : A → List ℕ) (IsPiece : A → Type 0) (firsts xs ys : List A) (word : List ℕ) → AreLeft separator name IsPiece firsts xs word ys → IsWithout separator word →
    IsWord name IsPiece firsts xs word
last_word separator name IsPiece firsts xs [] word left without = let some = left.1 in absurd (omega arith)
last_word separator name IsPiece firsts xs (y ∷ []) word left without =
    let lengths = ap length left.0 ∙ length-append firsts (y ∷ []) in
    (y, All-head IsPiece y [] left.2, left.3, omega arith)
last_word separator name IsPiece firsts xs (y ∷ z ∷ ys) word left without = absurd (has_separator separator (name y) (join_with_byte separator (map name (z ∷ ys))) (subst (IsWithout separator) left.3 without))

-- the word after the first ones of a list, and the last one
pub next_is_word : {A : Type 0} (separator : ℕ) (name : A → List ℕ) (IsPiece : A → Type 0) → IsPieceName separator name IsPiece → (firsts xs : List A) (text rest word more : List ℕ) → All IsPiece firsts × (text ≡ before separator name firsts rest) → IsWithout separator word × (rest ≡ word ++ separator ∷ more) →
    1 ≤ length xs → All IsPiece xs → text ≡ join_with_byte separator (map name xs) → IsWord name IsPiece firsts xs word
next_is_word separator name IsPiece s firsts xs text rest word more first next some all e =
    let left = left_after separator name IsPiece s firsts xs (word ++ separator ∷ more) first.0 all some (ap (λ (ds : List ℕ). before separator name firsts ds) (sym next.1) ∙ sym first.1 ∙ e) in
    word_with_more separator name IsPiece s firsts xs left.0 word more left.1 next.0

pub last_is_word : {A : Type 0} (separator : ℕ) (name : A → List ℕ) (IsPiece : A → Type 0) → IsPieceName separator name IsPiece → (firsts xs : List A) (text word : List ℕ) → All IsPiece firsts × (text ≡ before separator name firsts word) → IsWithout separator word →
    1 ≤ length xs → All IsPiece xs → text ≡ join_with_byte separator (map name xs) → IsWord name IsPiece firsts xs word
last_is_word separator name IsPiece s firsts xs text word first without some all e =
    let left = left_after separator name IsPiece s firsts xs word first.0 all some (sym first.1 ∙ e) in
    last_word separator name IsPiece firsts xs left.0 word left.1 without

-- what is read so far, with one more value
pub one_more : {A : Type 0} (separator : ℕ) (name : A → List ℕ) (IsPiece : A → Type 0) (firsts : List A) (x : A) (text rest word more : List ℕ) → All IsPiece firsts × (text ≡ before separator name firsts rest) → rest ≡ word ++ separator ∷ more → IsPiece x × (word ≡ name x) →
    All IsPiece (firsts ++ x ∷ []) × (text ≡ before separator name (firsts ++ x ∷ []) more)
one_more separator name IsPiece firsts x text rest word more first next is = (
  All-push IsPiece firsts x first.0 is.0,
  first.1 ∙ ap (λ (ds : List ℕ). before separator name firsts ds) (next ∙ ap (λ (ds : List ℕ). ds ++ separator ∷ more) is.1) ∙ before_more separator name firsts x more,
)

pub whole_list : {A : Type 0} (separator : ℕ) (name : A → List ℕ) (IsPiece : A → Type 0) (firsts : List A) (x : A) (text word : List ℕ) → All IsPiece firsts × (text ≡ before separator name firsts word) → IsPiece x × (word ≡ name x) →
    All IsPiece (firsts ++ x ∷ []) × (text ≡ join_with_byte separator (map name (firsts ++ x ∷ [])))
whole_list separator name IsPiece firsts x text word first is = (
  All-push IsPiece firsts x first.0 is.0,
  first.1 ∙ ap (λ (ds : List ℕ). before separator name firsts ds) is.1 ∙ before_last separator name firsts x,
)

-- a list has one spelling
pub same_joined : {A : Type 0} (separator : ℕ) (name : A → List ℕ) (IsPiece : A → Type 0) → IsPieceName separator name IsPiece → (xs ys : List A) → 1 ≤ length xs → 1 ≤ length ys → All IsPiece xs → All IsPiece ys → join_with_byte separator (map name xs) ≡ join_with_byte separator (map name ys) → xs ≡ ys
same_joined separator name IsPiece s [] ys some more p q e = absurd (omega arith)
same_joined separator name IsPiece s (x ∷ []) [] some more p q e = absurd (omega arith)
same_joined separator name IsPiece s (x ∷ []) (y ∷ []) some more p q e =
    let head = s.one_value x y (All-head IsPiece x [] p) (All-head IsPiece y [] q) e in cc
same_joined separator name IsPiece s (x ∷ []) (y ∷ z ∷ ys) some more p q e =
    let plain = s.has_none x (All-head IsPiece x [] p) in
    absurd (has_separator separator (name y) (join_with_byte separator (map name (z ∷ ys))) (subst (IsWithout separator) e plain))
same_joined separator name IsPiece s (x ∷ w ∷ xs) [] some more p q e = absurd (omega arith)
same_joined separator name IsPiece s (x ∷ w ∷ xs) (y ∷ []) some more p q e =
    let plain = s.has_none y (All-head IsPiece y [] q) in
    absurd (has_separator separator (name x) (join_with_byte separator (map name (w ∷ xs))) (subst (IsWithout separator) (sym e) plain))
same_joined separator name IsPiece s (x ∷ w ∷ xs) (y ∷ z ∷ ys) some more p q e =
    let both = same_in_list separator name IsPiece s x y (join_with_byte separator (map name (w ∷ xs))) (join_with_byte separator (map name (z ∷ ys))) (All-head IsPiece x (w ∷ xs) p) (All-head IsPiece y (z ∷ ys) q) e in
    let tail = same_joined separator name IsPiece s (w ∷ xs) (z ∷ ys) (omega arith) (omega arith) (All-tail IsPiece x (w ∷ xs) p) (All-tail IsPiece y (z ∷ ys) q) both.1 in
    let head : x ≡ y = both.0 in
    cc
