-- What the digits of a text say of the number that it spells.
use Rattle.std.proofs.Common.{◌≡◌, ◌≢◌, ℕ, zero, suc, ◌+◌, ◌*◌, ◌<◌, ◌≤◌, ◌^◌, List, [], ◌∷◌, ◌++◌, length, take, drop, get_or, decimal, refl, sym, ap, ◌∙◌, subst, arith, MatchOption, None, Some}
use Rattle.std.specs.Char.{digit_value}
use Rattle.std.specs.Fmt.{digits}
use Rattle.std.specs.Int.{IsInRange}
use Rattle.std.specs.Str.Parse.{AllDigits, digits_value, digits_value_after}
use Rattle.std.specs.declared.option.Option.{Option}
use Rattle.std.proofs.lemmas.List.{take_more}
use Rattle.std.proofs.lemmas.Fmt.{decimal_is_IsNumeral, decimal_nonempty, first_decimal, decimal-digits_value}
use Rattle.std.proofs.lemmas.Str.Parse.{IsNumeralModel, numerals_by_value, tells_digits, digit_at}

own : IsNumeralModel (AllDigits 10) (digits_value 10)
own = numerals_by_value (AllDigits 10) tells_digits

one_digit : length (decimal 0) ≡ 1
unfolding digits
one_digit = refl

-- and by no zero before others
pub no_leading_zero : (text : List ℕ) (n : ℕ) → n < 2 ^ 64 → text ≡ decimal n → (0 < length text) × (get_or text 0 0 ≡ 48 → length text ≡ 1)
no_leading_zero text zero small e = let same : length text ≡ 1 = ap length e ∙ one_digit in (omega arith, λ zeros. same)
no_leading_zero text (suc n) small e =
    let first = first_decimal (suc n) (omega arith) small in
    let some = decimal_nonempty (suc n) small in
    let same = ap length e in
    let front : get_or text 0 0 ≡ get_or (decimal (suc n)) 0 0 = ap (λ (ds : List ℕ). get_or ds 0 0) e in
    (omega arith, λ zeros. absurd (omega arith))

-- and by digits alone
pub only_digits : (text : List ℕ) (n i : ℕ) → i < length text → n < 2 ^ 64 → text ≡ decimal n → IsInRange 48 57 (get_or text i 0)
only_digits text n i lt small e =
    let P : List ℕ → Type 0 = λ ds. AllDigits 10 ds in
    digit_at text i (subst P (sym e) (decimal_is_IsNumeral n small).0.1) lt

after-append : (n : ℕ) (xs ys : List ℕ) → digits_value_after 10 n (xs ++ ys) ≡ digits_value_after 10 (digits_value_after 10 n xs) ys
after-append n [] ys = refl
after-append n (x ∷ xs) ys = after-append (n * 10 + digit_value x) xs ys

grows : (n : ℕ) (ds : List ℕ) → n ≤ digits_value_after 10 n ds
grows n [] = omega arith
grows n (d ∷ ds) = let more = grows (n * 10 + digit_value d) ds in omega arith

at_place : (text : List ℕ) (i : ℕ) → i < length text → text ≡ take i text ++ get_or text i 0 ∷ drop (i + 1) text
at_place [] i lt = absurd (omega arith)
at_place (x ∷ xs) zero lt = refl
at_place (x ∷ xs) (suc i) lt = ap (λ (ds : List ℕ). x ∷ ds) (at_place xs i (omega arith)) ∙ (let e : suc i + 1 ≡ suc (i + 1) = omega arith in ap (λ (k : ℕ). x ∷ (take i xs ++ get_or xs i 0 ∷ drop k (x ∷ xs))) (sym e))

-- the number of a text is at least that of its first digits
pub at_least : (text : List ℕ) (n i value : ℕ) → i < length text → value ≡ digits_value 10 (take i text) → n < 2 ^ 64 → text ≡ decimal n → value * 10 + digit_value (get_or text i 0) ≤ n
at_least text n i value lt is small e =
    let whole : digits_value 10 text ≡ n = ap (digits_value 10) e ∙ (decimal_is_IsNumeral n small).1 in
    let parts : digits_value 10 text ≡ digits_value_after 10 (value * 10 + digit_value (get_or text i 0)) (drop (i + 1) text) =
    ap (digits_value 10) (at_place text i lt)
    ∙ after-append 0 (take i text) (get_or text i 0 ∷ drop (i + 1) text)
    ∙ ap (λ (v : ℕ). digits_value_after 10 (v * 10 + digit_value (get_or text i 0)) (drop (i + 1) text)) (sym is) in
    let more = grows (value * 10 + digit_value (get_or text i 0)) (drop (i + 1) text) in
    omega arith

-- the answer that a text spells no number below 2 ^ 64
pub spells_none : (text : List ℕ) (r : Option ℕ) → r ≡ None → ((n : ℕ) → n < 2 ^ 64 → text ≡ decimal n → ⊥) →
    MatchOption r ((n : ℕ) → n < 2 ^ 64 → text ≢ decimal n) (λ n. (n < 2 ^ 64) × AllDigits 10 text × (n ≡ digits_value 10 text))
spells_none text r none h = rw none h

digits_more : (ds : List ℕ) (d : ℕ) → AllDigits 10 ds → digit_value d < 10 → AllDigits 10 (ds ++ d ∷ [])
digits_more [] d all more = (more, tt)
digits_more (x ∷ xs) d all more = (all.0, digits_more xs d all.1 more)

-- one more digit
pub one_more : (text : List ℕ) (i value digit : ℕ) → i < length text → AllDigits 10 (take i text) → value ≡ digits_value 10 (take i text) → digit ≡ digit_value (get_or text i 0) → digit < 10 →
    AllDigits 10 (take (i + 1) text) × (value * 10 + digit ≡ digits_value 10 (take (i + 1) text))
one_more text i value digit lt all is at small =
    let taken : take (i + 1) text ≡ take i text ++ get_or text i 0 ∷ [] = take_more text i 0 lt in
    rw taken (
      digits_more (take i text) (get_or text i 0) all (omega arith),
      ap (λ (v : ℕ). v * 10 + digit) is
          ∙ ap (λ (d : ℕ). digits_value 10 (take i text) * 10 + d) at
          ∙ sym (after-append 0 (take i text) (get_or text i 0 ∷ [])),
    )

-- digits without a leading zero are the spelling of their number
pub spelled : (text : List ℕ) (n : ℕ) → 0 < length text → (get_or text 0 0 ≡ 48 → length text ≡ 1) → AllDigits 10 text → n ≡ digits_value 10 text → n < 2 ^ 64 → text ≡ decimal n
spelled text n some front all is small =
    sym (ap decimal is ∙ decimal-digits_value own text all some front (let e = is in omega arith))

pub spelled_by : (text : List ℕ) (r : Option ℕ) → (0 < length text) × (get_or text 0 0 ≡ 48 → length text ≡ 1) →
    MatchOption r ((n : ℕ) → n < 2 ^ 64 → text ≢ decimal n) (λ n. (n < 2 ^ 64) × AllDigits 10 text × (n ≡ digits_value 10 text)) →
    MatchOption r ((n : ℕ) → n < 2 ^ 64 → text ≢ decimal n) (λ n. text ≡ decimal n)
spelled_by text None front h = h
spelled_by text (Some n) front h = spelled text n front.0 front.1 h.1 h.2 h.0
