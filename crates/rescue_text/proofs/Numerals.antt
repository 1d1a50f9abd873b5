-- Digits that follow others make no smaller number.
use Rattle.std.proofs.Common.{◌≡◌, ℕ, ◌+◌, ◌*◌, ◌<◌, ◌≤◌, ◌^◌, Bool, true, false, cond, nat_lt, ◌&&◌, List, [], ◌∷◌, length, drop, get_or, refl, sym, ap, ◌∙◌, arith, rules, tests}
use Rattle.std.specs.Char.{digit_value}
use Rattle.std.specs.Str.Parse.{digits_value, digits_value_after}
use Rattle.std.specs.declared.option.Option.TheVariants.{None, Some}
use Rattle.std.proofs.Math.Nat.{le-mul_of_pos_right}
use Rattle.std.proofs.lemmas.Grind.{common_steps}
use Rattle.rescue_text.specs.Lines.{is_numeral, numeral}

pub grows : (radix n : ℕ) (digits : List ℕ) → 0 < radix → n ≤ digits_value_after radix n digits
grows radix n [] some = omega arith
grows radix n (digit ∷ digits) some =
    let more = grows radix (n * radix + digit_value digit) digits some in
    let larger : n ≤ n * radix = le-mul_of_pos_right n some in
    omega (arith, more, larger)

neither : (b : Bool) (n : ℕ) → cond (b && false) (Some n) None ≡ None
neither true n = refl
neither false n = refl

-- a number from 2 ^ 64 on is none
large : (radix : ℕ) (text : List ℕ) → 2 ^ 64 ≤ digits_value radix text → numeral radix text ≡ None
large radix text many =
    let no : nat_lt (digits_value radix text) (2 ^ 64) ≡ false = search (rules, tests) in
    ap (λ (b : Bool). cond (is_numeral radix text && b) (Some (digits_value radix text)) None) no ∙ neither (is_numeral radix text) (digits_value radix text)

-- the next digit makes it so
pub large_by_digit : (radix value i : ℕ) (text : List ℕ) → i < length text → 0 < radix →
    digits_value_after radix value (drop i text) ≡ digits_value radix text → 2 ^ 64 ≤ value * radix + digit_value (get_or text i 0) → numeral radix text ≡ None
large_by_digit radix value i text lt some same many =
    let next : drop i text ≡ get_or text i 0 ∷ drop (i + 1) text = grind (arith, common_steps) in
    let whole : digits_value_after radix (value * radix + digit_value (get_or text i 0)) (drop (i + 1) text) ≡ digits_value radix text = ap (λ (ds : List ℕ). digits_value_after radix value ds) (sym next) ∙ same in
    let more = grows radix (value * radix + digit_value (get_or text i 0)) (drop (i + 1) text) some in
    large radix text (omega (arith, whole, more, many))

pub large_by_radix : (radix value i : ℕ) (text : List ℕ) → i < length text → 0 < radix →
    digits_value_after radix value (drop i text) ≡ digits_value radix text → 2 ^ 64 ≤ value * radix → numeral radix text ≡ None
large_by_radix radix value i text lt some same many = large_by_digit radix value i text lt some same (omega (arith, many))
