-- Parts of a list that begins with zeros.
use Rattle.std.proofs.Common.{◌≡◌, ℕ, ◌+◌, ◌-◌, ◌≤◌, List, ◌++◌, length, take, drop, replicate, inl, inr, refl, sym, ap, ◌∙◌, arith, slice_range}
use Rattle.std.proofs.lemmas.List.{length-replicate, drop-replicate, drop-append-le, take-append-le, take-replicate}
use Rattle.std.proofs.lemmas.Bool.{cases_lt}
use Rattle.std.proofs.Math.Seq.{take-append-add, drop-append-add}

-- what is left of zeros and what follows them, from within the zeros on
drop_zeros : (zeros at : ℕ) (bytes : List ℕ) → at ≤ zeros → drop at (replicate zeros 0 ++ bytes) ≡ replicate (zeros - at) 0 ++ bytes
drop_zeros zeros at bytes within =
    drop-append-le at (replicate zeros 0) bytes (rw (length-replicate {A = ℕ} zeros 0) within)
    ∙ ap (λ (front : List ℕ). front ++ bytes) (drop-replicate {X = ℕ} at zeros 0)

-- and from past them on
drop_past : (zeros at : ℕ) (bytes : List ℕ) → zeros ≤ at → drop at (replicate zeros 0 ++ bytes) ≡ drop (at - zeros) bytes
drop_past zeros at bytes past =
    let lead : length {A = ℕ} (replicate zeros 0) ≡ zeros = length-replicate {A = ℕ} zeros 0 in
    let sum : at ≡ length {A = ℕ} (replicate zeros 0) + (at - zeros) = omega (arith, lead, past) in
    ap (λ (n : ℕ). drop n (replicate zeros 0 ++ bytes)) sum ∙ drop-append-add (replicate zeros 0) bytes (at - zeros)

-- zeros and the first bytes of what follows them
take_across : (zeros count : ℕ) (bytes : List ℕ) → take (zeros + count) (replicate zeros 0 ++ bytes) ≡ replicate zeros 0 ++ take count bytes
take_across zeros count bytes =
    let lead : length {A = ℕ} (replicate zeros 0) ≡ zeros = length-replicate {A = ℕ} zeros 0 in
    ap (λ (n : ℕ). take (n + count) (replicate zeros 0 ++ bytes)) (sym lead) ∙ take-append-add (replicate zeros 0) bytes count

-- a part that lies in the zeros
pub part_within : (zeros at count : ℕ) (bytes : List ℕ) → count ≤ zeros - at → replicate count 0 ≡ slice_range (replicate zeros 0 ++ bytes) at (at + count)
part_within zeros at count bytes fits = elim (cases_lt at zeros) [
  | inl before ↦
      let span : at + count - at ≡ count = omega arith in
      rw (
        span,
        drop_zeros zeros at bytes (omega (arith, before)),
        take-append-le count (replicate (zeros - at) 0) bytes (rw (length-replicate {A = ℕ} (zeros - at) 0) fits),
        take-replicate {X = ℕ} count (zeros - at) 0 fits,
      ) refl
  | inr past ↦
      let none : count ≡ 0 = omega (arith, fits, past) in
      let span : at + 0 - at ≡ 0 = omega arith in
      rw (none, span) refl
]

-- a part that ends past the zeros: what it has of them, and bytes of what follows
pub part_across : (zeros at count : ℕ) (bytes : List ℕ) → replicate (zeros - at) 0 ++ slice_range bytes (at - zeros) (at - zeros + count) ≡ slice_range (replicate zeros 0 ++ bytes) at (at + (zeros - at + count))
part_across zeros at count bytes = elim (cases_lt at zeros) [
  | inl before ↦
      let span : at + (zeros - at + count) - at ≡ zeros - at + count = omega arith in
      let start : at - zeros ≡ 0 = omega (arith, before) in
      let from_start : 0 + count - 0 ≡ count = omega arith in
      rw (span, start, from_start, drop_zeros zeros at bytes (omega (arith, before)), take_across (zeros - at) count bytes) refl
  | inr past ↦
      let none : zeros - at ≡ 0 = omega (arith, past) in
      let span : at + (0 + count) - at ≡ count = omega arith in
      let inner : at - zeros + count - (at - zeros) ≡ count = omega arith in
      rw (none, span, inner, drop_past zeros at bytes past) refl
]
